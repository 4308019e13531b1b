-- `header::form_ok` meets its contract: one case a return. Assumes nothing.
use Rattle.rules.specs.Rules.{formed}
use Rattle.header.proofs.Opening.{and_none, and-all}
use Rattle.header.proofs.form_ok.Goals as goal

pub returns-then-same : goal.returns-then-same
unfolding formed
returns-then-same c = simp (← c.same.ensures, c.if-same.true)

pub returns-then-not-same : goal.returns-then-not-same
unfolding formed
returns-then-not-same c =
    simp (← c.same.ensures, c.if-same.false, ← c.same-2.ensures, c.if-not-same.true, and_none)

pub returns : goal.returns
unfolding formed
returns c =
    simp (← c.same.ensures, c.if-same.false, ← c.same-2.ensures, c.if-not-same.false, and-all, ← c.allows-allowed.ensures)
