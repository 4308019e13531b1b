-- `rewrite::recordings::body` meets its contract. The loop's invariant: the records up to byte p are written, and take the first k bytes.
-- The measure is what is left of the part.
-- Assumes nothing.
use mathlib.Core.Path.{refl}
use native.Mathlib.Omega.{arith}
use borrow.Author.Rules.{rules}
use Rattle.words.proofs.Words.{bytes}
use Rattle.children.proofs.Visiting.{recorded, unrecorded}
use Rattle.rewrite.proofs.Bodied.{renewed-none, renewed-more, renewed-last}
use Rattle.rewrite.proofs.recordings.body.Goals as goal

pub loop-h-init : goal.loop-h-init
loop-h-init c = (omega arith, omega arith, refl, λ x g. renewed-none g (bytes c.args.s.now (λ i. (c.type_inv.s i).fits)))

pub returns : goal.returns
returns c =
    let v = unrecorded c.in_default.is c.record_at.ensures in
    λ x g. renewed-last g (c.loop-h.invariant.3 x g) _ c.requires.room c.loop-h.invariant.2 (search rules) v c.clear_run.ensures

pub loop-h-preserved : goal.loop-h-preserved
loop-h-preserved c =
    let w = c.loop-h.invariant in
    let v = recorded c.in-Some.is c.record_at.ensures in
    let d = c.child-k.ensures in
    (v.inside, omega (arith, d.inside), search rules, λ x g. renewed-more g (w.3 x g) _ _ v d)
