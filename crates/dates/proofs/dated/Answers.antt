-- `dates::dated` meets its contract: 0 without a year, else in the range. Assumes nothing.
use native.Mathlib.Omega.{arith}
use Rattle.std.proofs.lemmas.Grind.{common_steps}
use Rattle.walk.proofs.Seen.{tests}
use Rattle.rules.specs.Rules.{dated, between}
use Rattle.dates.proofs.dated.Goals as goal

pub returns-then-y-eq0 : goal.returns-then-y-eq0
unfolding dated
returns-then-y-eq0 c = rw c.if-y-eq0.true

pub returns : goal.returns
unfolding dated between
returns c = simp (tests, c.if-y-eq0.false) (grind (arith, common_steps))
