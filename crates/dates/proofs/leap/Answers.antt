-- `dates::leap` meets its contract: the three tests of a leap year. Assumes nothing.
use Rattle.walk.proofs.Seen.{tests}
use Rattle.rules.specs.Rules.{leap}
use Rattle.dates.proofs.leap.Goals as goal

pub returns-then-y-ne0 : goal.returns-then-y-ne0
unfolding leap
returns-then-y-ne0 c = simp (tests, c.if-y-ne0.true, c.if-y-eq0.true)

pub returns-else-y-ne0 : goal.returns-else-y-ne0
unfolding leap
returns-else-y-ne0 c = simp (c.if-y-ne0.false, c.if-y-eq0.true)

pub returns-else-y-eq0 : goal.returns-else-y-eq0
unfolding leap
returns-else-y-eq0 c = simp (tests, c.if-y-eq0.false)
