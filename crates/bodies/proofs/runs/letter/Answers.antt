-- `bodies::runs::letter` meets its contract.
-- Assumes nothing.
use Rattle.walk.specs.Walk.{laid, swap}
use Rattle.bodies.proofs.runs.letter.Goals as goal

pub returns-in-Little : goal.returns-in-Little
unfolding laid swap
returns-in-Little c = rw c.in-Little.is

pub returns-in-Big : goal.returns-in-Big
unfolding laid swap
returns-in-Big c = rw c.in-Big.is
