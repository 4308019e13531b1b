-- `overview::extremes::of_numbers` meets its contract, by the laws of a loop over the numbers of a part.
-- Assumes nothing.
use Rattle.overview.specs.Steps.{meant_by}
use Rattle.overview.proofs.Passing.{Passing, order_by}
use Rattle.overview.proofs.extremes.of_numbers.Given as goal

abbrev pub invariant-loop-i : goal.invariant-loop-i
invariant-loop-i g l = Passing (order_by g.row.BIG) g.row.W l.s (meant_by g.T.Kept.means l.x) l.i
