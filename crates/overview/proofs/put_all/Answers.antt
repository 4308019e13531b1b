-- `overview::put_all` meets its contract, by the laws of a loop that writes epochs.
-- Assumes nothing.
use mathlib.Core.Path.{ap, ◌∙◌}
use native.Mathlib.Omega.{arith}
use Rattle.overview.specs.Steps.{shown}
use Rattle.overview.proofs.Writing.{or_empty, writing_more, writing-all}
use Rattle.overview.proofs.put_all.Goals as goal

pub loop-q-preserved : goal.loop-q-preserved
loop-q-preserved c =
    let is = c.unwrap_or-x.ensures ∙ (or_empty c.epoch_of.result ∙ ap shown c.epoch_of.ensures.is) in
    writing_more _ _ _ _ _ c.loop-q.invariant c.loop-q-test.true c.unwrap_or-x.result is _ c.put.ensures

pub returns : goal.returns
returns c = writing-all _ _ _ _ _ c.loop-q.invariant (omega (arith, c.loop-q-test.false))
