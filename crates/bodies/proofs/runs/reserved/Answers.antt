-- `bodies::runs::reserved` meets its contract: the area stands, or is zero.
-- Assumes nothing.
use mathlib.Core.Path.{◌∙◌}
use Rattle.bodies.proofs.Pieces.{reserve-same, reserve-cleared}
use Rattle.bodies.proofs.runs.reserved.Goals as goal

pub returns-then-w : goal.returns-then-w
returns-then-w c = λ b. c.copy_run.ensures ∙ reserve-same c.args.w b _ c.if-w.true

pub returns-else-w : goal.returns-else-w
returns-else-w c = λ b. c.clear_run.ensures ∙ reserve-cleared c.args.w b _ _ c.requires c.if-w.false
