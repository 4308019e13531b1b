-- `overview::extremes::pair_of_numbers` meets its contract, by the laws of a loop over the numbers of each part.
-- Assumes nothing.
use mathlib.Core.Path.{◌∙◌}
use Rattle.overview.proofs.Passing.{other-numbers, passing-first, passing-more, passing-all}
use Rattle.overview.proofs.extremes.pair_of_numbers.Goals as goal

pub loop-i-init : goal.loop-i-init
loop-i-init g c = (
  passing-first _ _ _ c.requires.numbers _ c.of-x.ensures c.nth.ensures,
  passing-first _ _ _ (other-numbers c.requires) _ c.of-y.ensures c.nth-2.ensures,
)

pub loop-i-preserved : goal.loop-i-preserved
loop-i-preserved g c = (
  passing-more _ _ _ c.loop-i.invariant.0 c.loop-i-test.true _ c.and-x.ensures c.nth-in-loop-i.ensures,
  passing-more _ _ _ c.loop-i.invariant.1 (rw c.requires.alike c.loop-i-test.true) _ c.and-y.ensures c.nth-in-loop-i-2.ensures,
)

pub returns : goal.returns
returns g c =
    let p = c.requires in
    λ n e.
    let h = passing-all _ _ _ p.numbers c.loop-i.invariant.0 c.loop-i-test.false n e in
    let k = passing-all _ _ _ (other-numbers p) c.loop-i.invariant.1 (rw p.alike c.loop-i-test.false) n (p.alike ∙ e) in
    rw (← h, ← k) (rw (c.long.ensures, c.long-2.ensures) at c.of_both.ensures)
