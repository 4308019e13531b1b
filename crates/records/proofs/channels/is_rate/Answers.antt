-- `records::channels::is_rate` meets its contract: no rate with type OFF only, Hz, or a period. Assumes nothing.
use Rattle.walk.proofs.Seen.{tests}
use Rattle.rules.specs.Rules.{rate_ok}
use borrow.Author.Tests.{eq-eqb}
use Rattle.records.proofs.channels.is_rate.Goals as goal

pub returns-then-rate-eq0 : goal.returns-then-rate-eq0
unfolding rate_ok
returns-then-rate-eq0 c = simp (tests, eq-eqb _ _ c.if-rate-eq0.true)

pub returns-then-flags-eq0 : goal.returns-then-flags-eq0
unfolding rate_ok
returns-then-flags-eq0 c = simp (tests, eq-eqb _ _ c.if-flags-eq0.true, c.if-rate-eq0.false)

pub returns : goal.returns
unfolding rate_ok
returns c = simp (tests, c.if-flags-eq0.false, c.if-rate-eq0.false)
