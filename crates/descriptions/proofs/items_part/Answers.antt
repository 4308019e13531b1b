-- `descriptions::items_part` meets its contract: another code, a record that is refused, or the head behind one that passed.
-- x: behind the test of the code. Assumes nothing.
use Rattle.rules.proofs.Handed.{handed}
use mathlib.Core.Path.{◌≡◌, sym, ap, ◌∙◌}
use Prim.Native.Nat.{◌+◌}
use native.Mathlib.Omega.{arith}
use lib.Dec.{eqb}
use lib.ListN.{length}
use Rattle.rules.specs.Rules as R
use Rattle.rules.specs.declared.Kind.{Kind}
use Rattle.rules.proofs.Room.{stays-items_rest}
use Rattle.records.specs.Says.{ok_of, rule_of}
use Rattle.descriptions.specs.DescriptionsJudged.{code_of}
use Rattle.descriptions.proofs.Parts.{judges-absent, judges-stop, judges-behind, follows-lacking, follows-stood}
use Rattle.descriptions.proofs.items_part.Goals as goal
use Rattle.descriptions.proofs.items_part.Goals.{After-has_code}

-- what the test of the code says
coded : (x : After-has_code) → eqb x.args.h.code (code_of x.args.k) ≡ x.has_code.result
coded x = sym (x.has_code.ensures ∙ ap (λ (k : Kind). (rule_of k).code x.args.h.code) x.kind_of.ensures)

pub returns-then-not-has_code : goal.returns-then-not-has_code
returns-then-not-has_code c =
    let a = c.args in
    let other = coded (goal.at.returns-then-not-has_code c).After-has_code ∙ c.if-not-has_code.true in
    rw c.absent.ensures (record {
      told = judges-absent a.o a.label a.base a.s.now (code_of a.k) (R.items (ok_of a.k)) (λ _. Unit {0}) a.h a.held other;
      follows = follows-lacking a.base (length a.s.now) a.h a.held c.requires.inside;
    })

pub returns-in_err-end : goal.returns-in_err-end
returns-in_err-end c =
    let a = c.args in
    let same = coded (goal.at.returns-in_err-end c).After-has_code ∙ c.if-not-has_code.false in
    rw (handed _ c.from_residual.ensures) (record {
      told = judges-stop a.o a.label a.base a.s.now (code_of a.k) (R.items (ok_of a.k)) (λ _. Unit {0}) a.h a.held same _ (c.in_err-end.ensures.seen);
      follows = tt;
    })

pub returns : goal.returns
returns c =
    let a = c.args in
    let s = a.s.now in
    let same = coded (goal.at.returns c).After-has_code ∙ c.if-not-has_code.false in
    let q = c.in_ok-end.end in
    let w = c.in_ok-end.ensures.stands in
    record {
      told = judges-behind a.o a.label a.base s (code_of a.k) (R.items (ok_of a.k)) (λ _. Unit {0}) a.h a.held same (stays-items_rest (ok_of a.k)) q c.requires.inside w.inside
          (c.in_ok-end.ensures.seen) (λ _ _. tt) c.behind.result c.behind.ensures;
      follows = follows-stood (a.base + a.h.at) a.h.at q (length s) c.behind.result (omega arith) c.behind.ensures.stands;
    }
