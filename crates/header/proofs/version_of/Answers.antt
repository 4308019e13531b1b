-- `header::version_of` meets its contract: one case a return. Assumes nothing.
use Rattle.rules.specs.Rules.{versioned}
use Rattle.header.proofs.Opening.{names-first, names-other, names-last}
use Rattle.header.proofs.version_of.Goals as goal

pub returns-then-same : goal.returns-then-same
unfolding versioned
returns-then-same c = names-first versioned _ _ _ _ _ c.same.ensures c.if-same.true

pub returns-then-same-2 : goal.returns-then-same-2
unfolding versioned
returns-then-same-2 c =
    names-other versioned _ _ _ _ _ c.same.ensures c.if-same.false (names-first versioned _ _ _ _ _ c.same-2.ensures c.if-same-2.true)

pub returns-then-same-3 : goal.returns-then-same-3
unfolding versioned
returns-then-same-3 c =
    names-other versioned _ _ _ _ _ c.same.ensures c.if-same.false (names-other versioned _ _ _ _ _ c.same-2.ensures c.if-same-2.false
    (names-first versioned _ _ _ _ _ c.same-3.ensures c.if-same-3.true))

pub returns : goal.returns
unfolding versioned
returns c =
    names-other versioned _ _ _ _ _ c.same.ensures c.if-same.false (names-other versioned _ _ _ _ _ c.same-2.ensures c.if-same-2.false
    (names-other versioned _ _ _ _ _ c.same-3.ensures c.if-same-3.false (names-last versioned _ _)))
