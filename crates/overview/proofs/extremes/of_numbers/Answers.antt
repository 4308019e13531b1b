-- `overview::extremes::of_numbers` meets its contract, by the laws of a loop over the numbers of a part.
-- Assumes nothing.
use mathlib.Core.Path.{◌∙◌}
use Rattle.overview.proofs.Passing.{passing-first, passing-more, passing-all}
use Rattle.overview.proofs.extremes.of_numbers.Goals as goal

pub loop-i-init : goal.loop-i-init
loop-i-init g c = passing-first _ _ _ c.requires _ c.of-x.ensures c.nth.ensures

pub loop-i-preserved : goal.loop-i-preserved
loop-i-preserved g c = passing-more _ _ _ c.loop-i.invariant c.loop-i-test.true _ c.and-x.ensures c.nth-in-loop-i.ensures

pub returns : goal.returns
returns g c = λ n e. c.long.ensures ∙ passing-all _ _ _ c.requires c.loop-i.invariant c.loop-i-test.false n e
