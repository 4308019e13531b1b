-- `records::basic::time_ok` meets its contract: one case for each test, in the order of the rules. Assumes nothing.
use Rattle.walk.proofs.Seen.{gates, tests}
use Rattle.records.proofs.basic.time_ok.Goals as goal

pub returns-then-field-gt23 : goal.returns-then-field-gt23
returns-then-field-gt23 c = λ k. simp (gates, tests, c.if-field-gt23.true, ← c.field.ensures.0)

pub returns-then-field-gt59 : goal.returns-then-field-gt59
returns-then-field-gt59 c = λ k. simp (gates, tests, c.if-field-gt59.true, ← c.field-2.ensures.0, c.if-field-gt23.false, ← c.field.ensures.0)

pub returns-then-field-gt59-2 : goal.returns-then-field-gt59-2
returns-then-field-gt59-2 c =
    λ k. simp (gates, tests, c.if-field-gt59-2.true, ← c.field-3.ensures.0, c.if-field-gt59.false, ← c.field-2.ensures.0, c.if-field-gt23.false, ← c.field.ensures.0)

pub returns : goal.returns
returns c =
    λ k. simp (gates, tests, c.if-field-gt59-2.false, ← c.field-3.ensures.0, c.if-field-gt59.false, ← c.field-2.ensures.0, c.if-field-gt23.false, ← c.field.ensures.0)
