-- `rows::body_rows` meets its contract. The loop's invariant: the rows up to byte p are written. The measure is what is left of the part.
-- Assumes nothing.
use mathlib.Core.Path.{refl}
use native.Mathlib.Omega.{arith}
use Rattle.children.proofs.Visiting.{recorded, unrecorded}
use Rattle.rows.proofs.Body.{listed-none, listed-all, listed-short, listed_more}
use borrow.Author.Rules.{rules}
use Rattle.rows.proofs.body_rows.Goals as goal

pub loop-h-init : goal.loop-h-init
loop-h-init c = record { inside = omega arith; reaches = omega arith; same = refl; listed = listed-none }

pub returns-then-s-p : goal.returns-then-s-p
returns-then-s-p c =
    let w = c.loop-h.invariant in
    let v = unrecorded c.in_default.is c.record_at.ensures in
    record { reaches = omega arith; wrote = λ label held h x e n g. listed-short w.inside (w.listed label held h x e n g) v c.if-s-p.true }

pub returns : goal.returns
returns c =
    let w = c.loop-h.invariant in
    let v = unrecorded c.in_default.is c.record_at.ensures in
    let u = c.put.ensures in
    record { reaches = omega (arith, u.next); wrote = λ label held h x e n g. listed-all w.inside (w.listed label held h x e n g) v u }

pub loop-h-preserved : goal.loop-h-preserved
loop-h-preserved c =
    let w = c.loop-h.invariant in
    let v = recorded c.in-Some.is c.record_at.ensures in
    record { inside = v.inside; reaches = c.record_rows-next.ensures.reaches; same = search rules; listed = λ label held h x e n g. listed_more w.inside (w.listed label held h x e n g) v c.record_rows-next.ensures.wrote }
