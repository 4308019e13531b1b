-- `records::channels::channel_at` meets its contract: a record that is refused before its body, or one whose body is tested. Assumes nothing.
use Rattle.rules.proofs.Handed.{handed}
use mathlib.Core.Path.{◌≡◌, sym, ap, ◌∙◌}
use Prim.Native.Nat.{◌-◌, ℕ, ◌+◌}
use native.Mathlib.Omega.{arith}
use lib.ListN.{length}
use Rattle.walk.proofs.Seen.{walks}
use Rattle.rules.specs.Rules as R
use Rattle.rules.specs.Rules.{channel_body}
use Rattle.rules.proofs.Room.{stays-channel_body}
use Rattle.rules.specs.declared.Kind.{Kind}
use Rattle.records.specs.Says.{StepOver, Advances, tested, group_of, sub_code, OpenAt, Reaches}
use Rattle.records.proofs.Groups.{told-group}
use Rattle.records.proofs.Bodies.{ended, fixed-opened, body-long, body-held, ended-advances}
use Rattle.records.proofs.channels.channel_at.Goals as goal
use Rattle.records.proofs.channels.channel_at.Goals.{After-open, In_ok-end, After-channel_body}

-- it is opened by the code of the group's subs
coded : (x : After-open) → x.sub_code.result ≡ (group_of x.args.g).sub.code
coded x = x.sub_code.ensures ∙ (ap sub_code x.group_code.ensures ∙ sym (told-group x.args.g).code)

abbrev kind : After-open → Kind
kind z = Kind.Channel (group_of z.args.g).sub.code z.args.i

opens : (x : After-open) → OpenAt x.args.o x.args.base x.args.s.now x.args.p (kind x) x.open.result
opens x = rw (coded x) at x.open.ensures

-- the record that was opened: where it stands, and where it stops
reached : (x : In_ok-end) → Reaches x.args.p (kind (goal.at.In_ok-end x).After-open) (length x.args.s.now) x.in_ok-end.field-0-0 x.in_ok-end.end
reached x = rw x.in_ok-end.was at (opens (goal.at.In_ok-end x).After-open).stands

pub returns-in_err-end : goal.returns-in_err-end
returns-in_err-end c =
    rw (handed _ c.from_residual.ensures)
    (record { seen = simp (fixed-opened, walks, c.in_err-end.was, (opens (goal.at.returns-in_err-end c).After-open).seen); stands = tt })

-- what its body comes to: where the record stops, or the body's refusal
held : (x : After-channel_body) → StepOver x.args.o x.args.base x.args.s.now x.args.p (R.channel (group_of x.args.g).sub (length x.args.s.now - x.args.p) x.args.i) (Advances x.args.p 256 (length x.args.s.now)) (ended x.channel_body.result x.in_ok-end.end)
held x =
    let v = reached (goal.at.After-channel_body x).In_ok-end in
    let o = x.args.o in
    let s = x.args.s.now in
    let b = x.args.base in
    let p = x.args.p in
    let q = x.in_ok-end.end in
    let k = (group_of x.args.g).sub in
    let a = x.channel_body.result in
    let e : q ≡ p + 256 = omega (arith, v.end, v.spans) in
    let m = ap (λ (y : ℕ). tested a (b + p + y)) (sym (body-long p q 256 s e (omega arith) v.inside)) in
    record {
      seen = simp (fixed-opened, walks, v.at, x.in_ok-end.was, (opens (goal.at.After-channel_body x).After-open).seen)
          (body-held o b p q 256 s e (omega arith) v.inside (λ _. channel_body k) (λ y. stays-channel_body k y (y + 240) (omega arith)) a (x.channel_body.ensures ∙ m));
      stands = ended-advances p 256 (length s) q a e v.inside;
    }

pub returns-in_err-channel_body : goal.returns-in_err-channel_body
returns-in_err-channel_body c = rw (handed _ c.from_residual-in_err-channel_body.ensures) (rw c.in_err-channel_body.was at (held (goal.at.returns-in_err-channel_body c).After-channel_body))

pub returns : goal.returns
returns c = rw c.in_ok-channel_body.was at (held (goal.at.returns c).After-channel_body)
