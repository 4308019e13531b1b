-- `records::basic::counts_ok` meets its contract: one case for each test, in the order of the rules. Assumes nothing.
use Rattle.walk.proofs.Seen.{gates, tests}
use borrow.Author.Tests.{eq-eqb}
use Rattle.records.proofs.basic.counts_ok.Goals as goal

pub returns-then-field-ne1 : goal.returns-then-field-ne1
returns-then-field-ne1 c = λ k. simp (gates, tests, c.if-field-ne1.true, ← c.field.ensures.0)

pub returns-then-not-between : goal.returns-then-not-between
returns-then-not-between c =
    λ k. simp (gates, tests, c.if-not-between.true, ← c.between.ensures, ← c.field-2.ensures.0, eq-eqb _ _ c.if-field-ne1.false, ← c.field.ensures.0)

pub returns-then-not-between-2 : goal.returns-then-not-between-2
returns-then-not-between-2 c =
    λ k. simp (gates, tests, c.if-not-between-2.true, ← c.between-2.ensures, ← c.field-3.ensures.0, c.if-not-between.false, ← c.between.ensures, ← c.field-2.ensures.0, eq-eqb _ _ c.if-field-ne1.false, ← c.field.ensures.0)

pub returns : goal.returns
returns c =
    λ k. simp (gates, tests, c.if-not-between-2.false, ← c.between-2.ensures, ← c.field-3.ensures.0, c.if-not-between.false, ← c.between.ensures, ← c.field-2.ensures.0, eq-eqb _ _ c.if-field-ne1.false, ← c.field.ensures.0)
