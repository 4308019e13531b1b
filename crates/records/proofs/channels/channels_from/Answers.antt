-- `records::channels::channels_from` meets its contract: the channels up to i are passed. Assumes nothing.
use Rattle.rules.proofs.Handed.{handed}
use Rattle.records.proofs.Steps.{series-stop, series-go, series-none}
use borrow.Author.Rules.{rules}
use mathlib.Core.Path.{◌∙◌}
use native.Mathlib.Omega.{arith}
use Rattle.records.proofs.channels.channels_from.Goals as goal

pub returns-in_err-p : goal.returns-in_err-p
returns-in_err-p c =
    rw (handed _ c.from_residual.ensures) (record { seen = c.loop-i.invariant.3 ∙ series-stop _ _ _ _ _ _ _ _ _ _ _ c.loop-i-test.true (c.in_err-p.ensures.seen); stands = tt })

pub loop-i-preserved : goal.loop-i-preserved
loop-i-preserved c =
    let v = c.in_ok-p.ensures.stands in
    (search rules, omega arith, v.1, c.loop-i.invariant.3 ∙ series-go _ _ _ _ _ _ _ _ _ c.loop-i-test.true v.0 (c.in_ok-p.ensures.seen))

pub returns : goal.returns
returns c = record { seen = c.loop-i.invariant.3 ∙ series-none _ _ _ _ _ _ _ _ _ c.loop-i-test.false; stands = omega arith }
