-- `header::form_of` meets its contract: one case a return. Assumes nothing.
use Rattle.rules.specs.Rules.{formed}
use Rattle.header.proofs.Opening.{names-first, names-other, names-last}
use Rattle.header.proofs.form_of.Goals as goal

pub returns-then-same : goal.returns-then-same
unfolding formed
returns-then-same c = names-first formed _ _ _ _ _ c.same.ensures c.if-same.true

pub returns : goal.returns
unfolding formed
returns c = names-other formed _ _ _ _ _ c.same.ensures c.if-same.false (names-last formed _ _)
