-- `bodies::runs::is_little` meets its contract, order by order.
-- Assumes nothing.
use Rattle.bodies.specs.Orders.{same_order}
use Rattle.bodies.proofs.runs.is_little.Goals as goal

pub returns-in-Little : goal.returns-in-Little
unfolding same_order
returns-in-Little c = rw c.in-Little.is

pub returns-in-Big : goal.returns-in-Big
unfolding same_order
returns-in-Big c = rw c.in-Big.is
