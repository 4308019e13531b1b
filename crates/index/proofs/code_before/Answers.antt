-- `index::code_before` meets its contract: the sample is read at the same place of the frame before.
-- Assumes nothing.
use native.Mathlib.Omega.{arith}
use borrow.Author.Tests.{ne_eqb}
use Rattle.index.specs.Listing.{code_behind}
use Rattle.index.proofs.code_before.Goals as goal

pub returns-then-frame-eq1 : goal.returns-then-frame-eq1
unfolding code_behind
returns-then-frame-eq1 c = (rw c.if-frame-eq1.true, omega arith)

pub returns : goal.returns
unfolding code_behind
returns c = (rw (ne_eqb c.args.frame 1 c.if-frame-eq1.false) c.number.ensures.0, c.number.ensures.1)
