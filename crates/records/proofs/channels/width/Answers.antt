-- `records::channels::width` meets its contract: one case for each format. Assumes nothing.
use Rattle.walk.proofs.Seen.{tests}
use Rattle.rules.specs.Rules.{width}
use native.Mathlib.Omega.{arith}
use borrow.Author.Tests.{eq-eqb}
use Rattle.records.proofs.channels.width.Goals as goal

pub returns-then-format-eq-SHORTS : goal.returns-then-format-eq-SHORTS
unfolding width
returns-then-format-eq-SHORTS c = (simp (tests, eq-eqb _ _ c.if-format-eq-SHORTS.true), omega arith)

pub returns-then-format-eq-TRIPLES : goal.returns-then-format-eq-TRIPLES
unfolding width
returns-then-format-eq-TRIPLES c = (simp (tests, eq-eqb _ _ c.if-format-eq-TRIPLES.true, c.if-format-eq-SHORTS.false), omega arith)

pub returns : goal.returns
unfolding width
returns c = (simp (tests, c.if-format-eq-TRIPLES.false, c.if-format-eq-SHORTS.false), omega arith)
