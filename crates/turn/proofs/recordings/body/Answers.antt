-- `turn::recordings::body` meets its contract. The loop's invariant: the records up to byte p are written. The measure is what is left of the part.
-- Assumes nothing.
use mathlib.Core.Path.{refl}
use native.Mathlib.Omega.{arith}
use Rattle.children.specs.Children.{known_of}
use Rattle.children.proofs.Visiting.{recorded, unrecorded}
use Rattle.turn.proofs.Sent.{sent-none, sent-more, sent-last}
use borrow.Author.Rules.{rules}
use Rattle.turn.proofs.recordings.body.Goals as goal

pub loop-h-init : goal.loop-h-init
loop-h-init c = (omega arith, search rules, refl, λ held h x e n m g. sent-none held h x e n g)

pub returns : goal.returns
returns c =
    let w = c.loop-h.invariant in
    let v = unrecorded c.in_default.is c.record_at.ensures in
    λ held h x e n m g. sent-last _ (w.3 held h x e n m g) w.0 v c.last.ensures

pub loop-h-preserved : goal.loop-h-preserved
loop-h-preserved c =
    let w = c.loop-h.invariant in
    let v = recorded c.in-Some.is c.record_at.ensures in
    let d = c.child-next.ensures in (
      v.inside,
      omega (arith, d.inside),
      search rules,
      λ held h x e n m g.
          sent-more _ (w.3 held h x e n m g) _ v (λ l stop i. d.wrote _ (known_of _ x) refl l stop m i),
    )
