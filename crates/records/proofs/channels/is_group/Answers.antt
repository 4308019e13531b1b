-- `records::channels::is_group` meets its contract: one case for each code. Assumes nothing.
use Rattle.walk.proofs.Seen.{tests}
use Rattle.records.specs.Says.{is_group}
use borrow.Author.Tests.{eq-eqb}
use Rattle.records.proofs.channels.is_group.Goals as goal

pub returns-then-code-eq-CODE : goal.returns-then-code-eq-CODE
unfolding is_group
returns-then-code-eq-CODE c = simp (eq-eqb _ _ c.if-code-eq-CODE.true)

pub returns-then-code-eq-CODE-2 : goal.returns-then-code-eq-CODE-2
unfolding is_group
returns-then-code-eq-CODE-2 c = simp (tests, eq-eqb _ _ c.if-code-eq-CODE-2.true, c.if-code-eq-CODE.false)

pub returns : goal.returns
unfolding is_group
returns c = simp (tests, c.if-code-eq-CODE-2.false, c.if-code-eq-CODE.false)
