-- `records::basic::mains_ok` meets its contract: the three frequencies. Assumes nothing.
use Rattle.walk.proofs.Seen.{tests}
use Rattle.rules.specs.Rules.{is_mains}
use Rattle.records.proofs.basic.mains_ok.Goals as goal

pub returns-then-n-eq0 : goal.returns-then-n-eq0
unfolding is_mains
returns-then-n-eq0 c = simp (tests, c.if-n-eq0.true)

pub returns-then-n-eq50 : goal.returns-then-n-eq50
unfolding is_mains
returns-then-n-eq50 c = simp (tests, c.if-n-eq50.true, c.if-n-eq0.false)

pub returns : goal.returns
unfolding is_mains
returns c = simp (tests, c.if-n-eq50.false, c.if-n-eq0.false)
