-- `descriptions::channels_part` meets its contract: another code, a 120 or 320 that is refused, or the head behind one that passed.
-- x: behind the test of the code. Assumes nothing.
use Rattle.rules.proofs.Handed.{handed}
use mathlib.Core.Path.{◌≡◌, sym, ap, ◌∙◌}
use Prim.Native.Nat.{◌+◌}
use native.Mathlib.Omega.{arith}
use lib.Dec.{eqb}
use lib.ListN.{length}
use Rattle.rules.specs.Rules as R
use Rattle.rules.proofs.Room.{stays-channels_rest}
use Rattle.records.specs.Says.{group_of}
use Rattle.descriptions.specs.DescriptionsJudged.{Owned}
use Rattle.descriptions.proofs.Parts.{judges-absent, judges-stop, judges-behind, follows-lacking, follows-stood}
use Rattle.descriptions.proofs.Stands.{group-is, owned}
use Rattle.descriptions.proofs.channels_part.Goals as goal
use Rattle.descriptions.proofs.channels_part.Goals.{After-has_code}

-- the group, as the rules have it
abbrev group : After-has_code → R.Group
group x = R.channels_group x.args.label x.args.channels

grouped : (x : After-has_code) → group_of x.group_for-g.result ≡ group x
grouped x = ap group_of x.group_for-g.ensures ∙ group-is x.args.label x.args.channels

-- the test of the code
coded : (x : After-has_code) → eqb x.args.h.code (group x).code ≡ x.has_code.result
coded x = sym (x.has_code.ensures ∙ ap (eqb x.args.h.code) (x.group_code.ensures ∙ ap (λ (g : R.Group). g.code) (grouped x)))

pub returns-then-not-has_code : goal.returns-then-not-has_code
returns-then-not-has_code c =
    let a = c.args in
    let other = coded (goal.at.returns-then-not-has_code c).After-has_code ∙ c.if-not-has_code.true in
    rw c.absent.ensures (record {
      told = judges-absent a.o a.label a.base a.s.now (group (goal.at.returns-then-not-has_code c).After-has_code).code (R.channels (group (goal.at.returns-then-not-has_code c).After-has_code)) (Owned a.o a.s.now a.h.at a.channels) a.h a.held other;
      follows = follows-lacking a.base (length a.s.now) a.h a.held c.requires.inside;
    })

pub returns-in_err-end : goal.returns-in_err-end
returns-in_err-end c =
    let a = c.args in
    let same = coded (goal.at.returns-in_err-end c).After-has_code ∙ c.if-not-has_code.false in
    rw (handed _ c.from_residual.ensures) (record {
      told = judges-stop a.o a.label a.base a.s.now (group (goal.at.returns-in_err-end c).After-has_code).code (R.channels (group (goal.at.returns-in_err-end c).After-has_code)) (Owned a.o a.s.now a.h.at a.channels) a.h a.held same _ (rw (grouped (goal.at.returns-in_err-end c).After-has_code, c.in_err-end.was) at c.channels_at.ensures.seen);
      follows = tt;
    })

pub returns : goal.returns
returns c =
    let a = c.args in
    let s = a.s.now in
    let same = coded (goal.at.returns c).After-has_code ∙ c.if-not-has_code.false in
    let q = c.in_ok-end.end in
    let w = c.in_ok-end.ensures.stands in
    record {
      told = judges-behind a.o a.label a.base s (group (goal.at.returns c).After-has_code).code (R.channels (group (goal.at.returns c).After-has_code)) (Owned a.o s a.h.at a.channels) a.h a.held same (stays-channels_rest (group (goal.at.returns c).After-has_code)) q c.requires.inside w.inside
          (rw (grouped (goal.at.returns c).After-has_code, c.in_ok-end.was) at c.channels_at.ensures.seen) (owned a.o a.base s a.label _ _ a.h.at q a.channels w.inside) c.behind.result c.behind.ensures;
      follows = follows-stood (a.base + a.h.at) a.h.at q (length s) c.behind.result (omega arith) c.behind.ensures.stands;
    }
