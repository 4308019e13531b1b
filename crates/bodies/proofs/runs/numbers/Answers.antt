-- `bodies::runs::numbers` meets its contract: the run stands, or is turned.
-- Assumes nothing.
use mathlib.Core.Path.{sym, ◌∙◌}
use Rattle.words.specs.Numbers.{Bytes}
use Rattle.words.proofs.Words.{bytes}
use Rattle.bodies.proofs.Pieces.{numbers-same, numbers-turned}
use Rattle.bodies.proofs.runs.numbers.Goals as goal
use Rattle.bodies.proofs.runs.numbers.Goals.{After-same_order}

are-bytes : (c : After-same_order) → Bytes c.args.s.now
are-bytes c = bytes c.args.s.now (λ i. (c.type_inv.s i).fits)

pub returns-then-same_order : goal.returns-then-same_order
returns-then-same_order c =
    let a = c.args in
    λ b. c.copy_run.ensures ∙ numbers-same a.w b a.s.now a.width (are-bytes (goal.at.returns-then-same_order c).After-same_order) a.n c.requires.run.source
    (sym c.same_order.ensures ∙ c.if-same_order.true)

pub returns-else-same_order : goal.returns-else-same_order
returns-else-same_order c =
    let a = c.args in
    λ b. c.turn_run.ensures ∙ numbers-turned a.w b a.s.now a.width (are-bytes (goal.at.returns-else-same_order c).After-same_order) a.n c.requires.run.source
    (sym c.same_order.ensures ∙ c.if-same_order.false)
