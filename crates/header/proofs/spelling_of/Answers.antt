-- `header::spelling_of` meets its contract: one case a return. Assumes nothing.
use Rattle.rules.specs.Rules.{spelled}
use Rattle.header.proofs.Opening.{names-first, names-other, names-last}
use Rattle.header.proofs.spelling_of.Goals as goal

pub returns-then-same : goal.returns-then-same
unfolding spelled
returns-then-same c = names-first spelled _ _ _ _ _ c.same.ensures c.if-same.true

pub returns : goal.returns
unfolding spelled
returns c = names-other spelled _ _ _ _ _ c.same.ensures c.if-same.false (names-last spelled _ _)
