-- `records::channels::inputs_ok` meets its contract: no fields, or one case for each test, in the order of the rules. Assumes nothing.
use Rattle.walk.proofs.Seen.{gates}
use Rattle.records.proofs.channels.inputs_ok.Goals as goal

pub returns-then-not-is_input : goal.returns-then-not-is_input
returns-then-not-is_input c = λ k. simp (gates, c.in-Montage.is, c.if-not-is_input.true, ← c.is_input.ensures, ← c.field.ensures.0)

pub returns-then-not-is_input-2 : goal.returns-then-not-is_input-2
returns-then-not-is_input-2 c =
    λ k. simp (gates, c.in-Montage.is, c.if-not-is_input-2.true, ← c.is_input-2.ensures, ← c.field-2.ensures.0, c.if-not-is_input.false, ← c.is_input.ensures, ← c.field.ensures.0)

pub returns : goal.returns
returns c =
    λ k. simp (gates, c.in-Montage.is, c.if-not-is_input-2.false, ← c.is_input-2.ensures, ← c.field-2.ensures.0, c.if-not-is_input.false, ← c.is_input.ensures, ← c.field.ensures.0)
