-- `rewrite::rewrite` meets its contract: what `judge` says of the file, the order that the letter names, the leave to write,
-- and what `file_anew` wrote, by the laws of Answers.
-- Assumes nothing.
use Rattle.std.proofs.Common.{Some}
use Rattle.rules.proofs.Handed.{handed}
use mathlib.Core.Path.{◌≡◌, sym, ◌∙◌}
use native.Mathlib.Omega.{arith}
use borrow.Author.Rules.{rules}
use lib.ListN.{length}
use Rattle.words.specs.Numbers.{Bytes}
use Rattle.words.proofs.Words.{bytes}
use Rattle.header.specs.Letters.{lettered}
use Rattle.judge.specs.Recorded.{HeaderIn}
use Rattle.children.specs.Recordings.{ReadAs}
use Rattle.judge.proofs.Accepted.{accepted-long, went}
use Rattle.makers.specs.Search.{found}
use Rattle.permit.proofs.Settled.{permit-room}
use Rattle.rewrite.specs.RecordingsAnew.{Counts, length_anew}
use Rattle.rewrite.proofs.Answers.{few, script-low, rewrites-stopped, rewrites-room}
use Rattle.rewrite.proofs.rewrite.Goals as goal
use Rattle.rewrite.proofs.rewrite.Goals.{After-permit, In_ok-to}

is-bytes : (c : In_ok-to) → Bytes c.args.file.now
is-bytes c = bytes c.args.file.now (λ i. (c.type_inv.file i).fits)

headed : (c : In_ok-to) → HeaderIn (length c.args.file.now)
headed c = record { header = accepted-long _ _ c.in_ok-h.ensures; short = search rules }

counts : (c : In_ok-to) → Counts (length c.args.file.now) c.in_ok-h.h.count
counts c = record { file = headed c; few = few c.args.file.now (is-bytes c) _ c.in_ok-h.ensures }

-- the letter names an order
names : (c : In_ok-to) → lettered c.args.order ≡ Some c.in_ok-to.to
names c = sym c.order_of.ensures ∙ c.in_ok-to.ensures.ok_part

reads : (c : In_ok-to) →
    let h = c.in_ok-h.h in
    ReadAs h.order h.heading.label c.args.file.now h.count c.in_ok-h.ensures.file.recordings (length c.args.file.now)
reads c = went c.args.file.now _ c.in_ok-h.ensures

need : (c : After-permit) → c.file_length-need.result ≡ length_anew c.in_ok-h.h.heading.label c.in_ok-h.ensures.file.recordings
need c = c.file_length-need.ensures _ _ (reads (goal.at.After-permit c).In_ok-to)

pub in_the_way-made-requires : goal.in_the_way-made-requires
in_the_way-made-requires c = headed c

pub file_length-need-requires : goal.file_length-need-requires
file_length-need-requires c = counts (goal.at.file_length-need-requires c).In_ok-to

pub returns-in_err-size : goal.returns-in_err-size
returns-in_err-size c =
    let a = c.args in
    let y = goal.at.returns-in_err-size c in
    let t = y.In_ok-to in
    rw (handed _ c.from_residual-in_err-size.ensures)
    (rewrites-stopped a.file.now (is-bytes t) _ c.in_ok-h.ensures a.order _ (names t) _ (need y.After-permit) a.out.now
    (c.in_the_way-made.ensures _ _ _ (reads t)) _ c.in_err-size.ensures)

pub file_anew-requires : goal.file_anew-requires
file_anew-requires c =
    let y = goal.at.file_anew-requires c in
    let t = y.In_ok-to in
    let room = (permit-room (found c.in_the_way-made.result) _ (length c.args.out.now) c.in_ok-size.ensures).1 in
    record {
      counts = counts t;
      script = script-low c.args.file.now (is-bytes t) _ c.in_ok-h.ensures;
      header = omega (arith, need y.After-permit, room);
    }

pub returns : goal.returns
returns c =
    let a = c.args in
    let y = goal.at.returns c in
    let t = y.In_ok-to in
    let n = need y.After-permit in
    let room = (permit-room (found c.in_the_way-made.result) _ (length a.out.now) c.in_ok-size.ensures).1 in
    rewrites-room a.file.now (is-bytes t) _ c.in_ok-h.ensures a.order _ (names t) _ n a.out.now
    (c.in_the_way-made.ensures _ _ _ (reads t)) _ _ c.in_ok-size.ensures (c.file_anew.ensures _ _ (reads t) (omega (arith, n, room)))
