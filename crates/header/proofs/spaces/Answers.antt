-- `header::spaces` meets its contract: all bytes so far are spaces. Assumes nothing.
use mathlib.Core.Path.{sym, ◌∙◌}
use Rattle.header.proofs.Opening.{spaces-end, spaces-more, spaces-not}
use Rattle.header.proofs.spaces.Goals as goal

pub returns-then-b-ne-SPACE : goal.returns-then-b-ne-SPACE
returns-then-b-ne-SPACE c = sym (c.loop-b.invariant ∙ spaces-not _ _ c.loop-b-test.true c.if-b-ne-SPACE.true)

pub loop-b-preserved : goal.loop-b-preserved
loop-b-preserved c = c.loop-b.invariant ∙ spaces-more _ _ c.loop-b-test.true c.if-b-ne-SPACE.false

pub returns : goal.returns
returns c = sym (c.loop-b.invariant ∙ spaces-end _ _ c.loop-b-test.false)
