-- `samples::number_at` meets its contract, format by format.
-- Assumes nothing.
use mathlib.Core.Path.{ap, sym, ◌∙◌}
use native.Mathlib.Omega.{arith}
use Rattle.samples.specs.Frames.{float_in}
use Rattle.samples.specs.declared.Number.TheVariants.{Whole}
use Rattle.samples.proofs.Clocked.{held}
use Rattle.samples.proofs.Stretch.{width-2, width-3, width-4, whole_in, float-in}
use Rattle.samples.proofs.number_at.Goals as goal

pub int-requires-clause-within : goal.int-requires-clause-within
int-requires-clause-within c = omega (arith, width-2 _ c.if-format-eq-SHORTS.true)

pub returns-then-format-eq-SHORTS : goal.returns-then-format-eq-SHORTS
returns-then-format-eq-SHORTS c = ap Whole (held c.int.type_inv c.int.ensures) ∙ sym (whole_in _ _ _ _ 2 (width-2 _ c.if-format-eq-SHORTS.true) (omega arith))

pub int-requires-then-format-eq-TRIPLES-clause-within : goal.int-requires-then-format-eq-TRIPLES-clause-within
int-requires-then-format-eq-TRIPLES-clause-within c = omega (arith, width-3 _ c.if-format-eq-TRIPLES.true)

pub returns-then-format-eq-TRIPLES : goal.returns-then-format-eq-TRIPLES
returns-then-format-eq-TRIPLES c = ap Whole (held c.int-then-format-eq-TRIPLES.type_inv c.int-then-format-eq-TRIPLES.ensures) ∙ sym (whole_in _ _ _ _ 3 (width-3 _ c.if-format-eq-TRIPLES.true) (omega arith))

pub number-requires-clause-within : goal.number-requires-clause-within
number-requires-clause-within c = omega (arith, width-4 _ c.if-format-eq-SHORTS.false c.if-format-eq-TRIPLES.false)

pub returns-then-format-eq-FLOATS : goal.returns-then-format-eq-FLOATS
returns-then-format-eq-FLOATS c = c.float_in.ensures ∙ ap float_in c.number.ensures.0 ∙ sym (float-in _ _ _ _ c.if-format-eq-FLOATS.true)

pub int-requires-2-clause-within : goal.int-requires-2-clause-within
int-requires-2-clause-within c = omega (arith, width-4 _ c.if-format-eq-SHORTS.false c.if-format-eq-TRIPLES.false)

pub returns : goal.returns
returns c =
    ap Whole (held c.int-2.type_inv c.int-2.ensures) ∙ sym (whole_in _ _ _ _ 4 (width-4 _ c.if-format-eq-SHORTS.false c.if-format-eq-TRIPLES.false) c.if-format-eq-FLOATS.false)
