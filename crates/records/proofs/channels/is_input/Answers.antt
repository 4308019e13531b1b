-- `records::channels::is_input` meets its contract: an electrode or earth, or what is none. Assumes nothing.
use Rattle.walk.proofs.Seen.{tests}
use Rattle.rules.specs.Rules.{is_input}
use borrow.Author.Tests.{eq-eqb}
use Rattle.records.proofs.channels.is_input.Goals as goal

pub returns-then-what-eq0 : goal.returns-then-what-eq0
unfolding is_input
returns-then-what-eq0 c = simp (eq-eqb _ _ c.if-what-eq0.true)

pub returns : goal.returns
unfolding is_input
returns c = simp (tests, c.if-what-eq0.false)
