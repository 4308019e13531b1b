-- `questions::channels::calibration_at` meets its contract, by the format.
-- Assumes nothing.
use mathlib.Core.Path.{◌∙◌}
use borrow.Author.Tests.{eq-eqb, ne_eqb}
use Rattle.samples.proofs.Clocked.{held}
use Rattle.questions.specs.Values.{floats_of, calibration_of}
use Rattle.questions.specs.declared.channels.Calibration.TheVariants.{Numbers}
use Rattle.questions.proofs.channels.calibration_at.Goals as goal

pub returns-then-format-eq-FLOATS : goal.returns-then-format-eq-FLOATS
unfolding calibration_of
returns-then-format-eq-FLOATS c =
    rw (eq-eqb _ _ c.if-format-eq-FLOATS.true)
    (c.floats_of.ensures ∙ (λ j. floats_of (c.number.ensures.0 j) (c.number-then-format-eq-FLOATS.ensures.0 j) (c.number-then-format-eq-FLOATS-2.ensures.0 j) (c.number-then-format-eq-FLOATS-3.ensures.0 j)))

pub returns : goal.returns
unfolding calibration_of
returns c =
    rw (ne_eqb _ _ c.if-format-eq-FLOATS.false)
    (λ j. Numbers (held c.int.type_inv c.int.ensures j) (held c.int-2.type_inv c.int-2.ensures j) (held c.int-3.type_inv c.int-3.ensures j) (held c.int-4.type_inv c.int-4.ensures j))
