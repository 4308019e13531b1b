-- `header::order_of` meets its contract: one case a return. Assumes nothing.
use borrow.Author.Tests.{eq-eqb}
use Rattle.walk.proofs.Seen.{tests}
use Rattle.header.specs.Letters.{lettered}
use Rattle.header.proofs.order_of.Goals as goal

pub returns-then-letter-eq-LITTLE : goal.returns-then-letter-eq-LITTLE
unfolding lettered
returns-then-letter-eq-LITTLE c = simp (eq-eqb _ _ c.if-letter-eq-LITTLE.true)

pub returns-then-letter-eq-BIG : goal.returns-then-letter-eq-BIG
unfolding lettered
returns-then-letter-eq-BIG c = simp (tests, eq-eqb _ _ c.if-letter-eq-BIG.true, c.if-letter-eq-LITTLE.false)

pub returns : goal.returns
unfolding lettered
returns c = simp (tests, c.if-letter-eq-BIG.false, c.if-letter-eq-LITTLE.false)
