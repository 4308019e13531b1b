-- `records::delimiter::delimiter` meets its contract: one case for each test, in the order of the rules. Assumes nothing.
use Rattle.walk.proofs.Seen.{walks, tests}
use Rattle.rules.specs.Rules.{delimiter}
use borrow.Author.Tests.{eq-eqb}
use Rattle.records.proofs.delimiter.delimiter.Goals as goal

pub returns-then-h-ne-CODE : goal.returns-then-h-ne-CODE
unfolding delimiter
returns-then-h-ne-CODE c = λ o b s. simp (walks, tests, c.if-h-ne-CODE.true)

pub returns-then-h-ne0 : goal.returns-then-h-ne0
unfolding delimiter
returns-then-h-ne0 c =
    λ o b s. simp (walks, tests, c.if-h-ne0.true, eq-eqb _ _ c.if-h-ne-CODE.false)

pub returns-then-h-ne0-2 : goal.returns-then-h-ne0-2
unfolding delimiter
returns-then-h-ne0-2 c =
    λ o b s. simp (walks, tests, c.if-h-ne0-2.true, eq-eqb _ _ c.if-h-ne0.false, eq-eqb _ _ c.if-h-ne-CODE.false)

pub returns-then-h-ne0-3 : goal.returns-then-h-ne0-3
unfolding delimiter
returns-then-h-ne0-3 c =
    λ o b s. simp (walks, tests, c.if-h-ne0-3.true, eq-eqb _ _ c.if-h-ne0-2.false, eq-eqb _ _ c.if-h-ne0.false, eq-eqb _ _ c.if-h-ne-CODE.false)

pub returns : goal.returns
unfolding delimiter
returns c =
    λ o b s. simp (walks, tests, eq-eqb _ _ c.if-h-ne0-3.false, eq-eqb _ _ c.if-h-ne0-2.false, eq-eqb _ _ c.if-h-ne0.false, eq-eqb _ _ c.if-h-ne-CODE.false)
