-- `makers::in_body` meets its contract. The loop's invariant: the first of the body is the first from byte p on. The measure is what is left of the part.
-- Assumes nothing.
use mathlib.Core.Path.{sym, ◌∙◌}
use native.Mathlib.Omega.{arith}
use Rattle.children.proofs.Visiting.{recorded, unrecorded}
use Rattle.makers.proofs.Search.{sought-all, sought-none, sought-found, sought-next}
use Rattle.makers.proofs.in_body.Goals as goal

pub loop-h-init : goal.loop-h-init
loop-h-init c = record { inside = omega arith; sought = sought-all }

pub returns-in_err-h : goal.returns-in_err-h
returns-in_err-h c =
    rw c.from_residual.ensures
    (let v = unrecorded c.in_err-h.was c.record_at.ensures in
    let w = c.loop-h.invariant in
    λ label held h x e n g. sought-none (w.sought label held h x e n g) w.inside v)

pub returns-then-maker_code : goal.returns-then-maker_code
returns-then-maker_code c =
    let v = recorded c.in_ok-h.was c.record_at.ensures in
    let w = c.loop-h.invariant in
    λ label held h x e n g. sought-found (w.sought label held h x e n g) w.inside v (sym c.maker_code.ensures ∙ c.if-maker_code.true)

pub loop-h-smaller : goal.loop-h-smaller
loop-h-smaller c =
    let v = recorded c.in_ok-h.was c.record_at.ensures in
    omega (arith, v.least, v.inside)

pub loop-h-preserved : goal.loop-h-preserved
loop-h-preserved c =
    let v = recorded c.in_ok-h.was c.record_at.ensures in
    let w = c.loop-h.invariant in
    record { inside = v.inside; sought = λ label held h x e n g. sought-next (w.sought label held h x e n g) w.inside v (sym c.maker_code.ensures ∙ c.if-maker_code.false) }
