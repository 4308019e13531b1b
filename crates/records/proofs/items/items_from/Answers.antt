-- `records::items::items_from` meets its contract: the items up to i are passed. Assumes nothing.
use Rattle.rules.proofs.Handed.{handed}
use Rattle.records.proofs.Steps.{list-stop, list-go, list-none}
use borrow.Author.Rules.{rules}
use mathlib.Core.Path.{◌∙◌}
use native.Mathlib.Omega.{arith}
use Rattle.records.proofs.items.items_from.Goals as goal

pub returns-in_err-p : goal.returns-in_err-p
returns-in_err-p c =
    rw (handed _ c.from_residual.ensures) (record { seen = c.loop-i.invariant.3 ∙ list-stop _ _ _ _ _ _ _ _ _ _ c.loop-i-test.true (c.in_err-p.ensures.seen); stands = tt })

pub loop-i-preserved : goal.loop-i-preserved
loop-i-preserved c =
    let v = c.in_ok-p.ensures.stands in
    (search rules, omega arith, v.inside, c.loop-i.invariant.3 ∙ list-go _ _ _ _ _ _ _ _ c.loop-i-test.true c.loop-i.invariant.2 (c.in_ok-p.ensures.seen))

pub returns : goal.returns
returns c = record { seen = c.loop-i.invariant.3 ∙ list-none _ _ _ _ _ _ _ _ c.loop-i-test.false; stands = record { low = c.loop-i.invariant.1; inside = c.loop-i.invariant.2 } }
