-- `overview::of_frames` meets its contract, by the laws of a loop over frames.
-- Assumes nothing.
use mathlib.Core.Path.{◌≡◌, ap, sym, ◌∙◌}
use Prim.Native.Nat.{◌+◌, ◌-◌, ◌*◌, ◌≤◌}
use native.Mathlib.Nat.{add-zero}
use native.Mathlib.Omega.{arith}
use Rattle.overview.specs.Steps.{extremes_of}
use Rattle.overview.proofs.Framed.{frames-one, framing-first, framing-more, framing-all}
use Rattle.overview.proofs.of_frames.Goals as goal

pub loop-i-init : goal.loop-i-init
loop-i-init c = let p = c.requires in rw add-zero (framing-first _ _ p.samples _ _ p.first _ c.of_frame-x.ensures)

pub loop-i-preserved : goal.loop-i-preserved
loop-i-preserved c =
    let p = c.requires in
    let j : c.args.n + 1 + 2 * (c.loop-i.i + 1) ≡ c.args.n + 1 + 2 * c.loop-i.i + 2 = omega arith in
    let inside : c.args.n + 1 + 2 * c.loop-i.i + 2 ≤ c.args.end = omega (arith, c.loop-i-test.true, p.first) in
    rw j (framing-more _ _ p.samples _ c.loop-i.invariant 2 (omega arith) inside _ _ c.of_two_frames-y.ensures c.of_both-x.ensures)

-- the last frame, behind pairs
pub returns-then-left : goal.returns-then-left
returns-then-left c =
    let p = c.requires in
    let j : c.args.end - 1 ≡ c.args.n + 1 + 2 * c.loop-i.i = omega (arith, p.first, c.if-left.true, c.loop-i.auto.i-end, c.loop-i-test.false) in
    let y = (rw j at c.of_frame-y.ensures) ∙ ap extremes_of (sym (frames-one _ _ p.samples _)) in
    let f = framing-more _ _ p.samples _ c.loop-i.invariant 1 (omega arith) (omega (arith, j, p.first)) _ _ y c.of_both-x-then-left.ensures in
    framing-all _ _ p.samples _ f (omega (arith, j, p.first))

pub returns-else-left : goal.returns-else-left
returns-else-left c =
    framing-all _ _ c.requires.samples _ c.loop-i.invariant (omega (arith, c.requires.first, c.if-left.false, c.loop-i.auto.i-end, c.loop-i-test.false))
