-- `bodies::runs::same_order` meets its contract, order by order.
-- Assumes nothing.
use Rattle.bodies.proofs.Pieces.{order-little, order-big}
use Rattle.bodies.proofs.runs.same_order.Goals as goal

pub returns-in-Little : goal.returns-in-Little
returns-in-Little c = rw (c.in-Little.is, c.is_little.ensures) (order-little _)

pub returns-in-Big : goal.returns-in-Big
returns-in-Big c = rw (c.in-Big.is, c.is_little-in-Big.ensures) (order-big _)
