-- `questions::channels::floats_of` meets its contract, case by case.
-- Assumes nothing.
use mathlib.Core.Path.{sym, ◌∙◌}
use Rattle.words.proofs.Floats.{no_nan}
use Rattle.questions.proofs.Calibrated.{plain, patterns, floats}
use Rattle.questions.proofs.channels.floats_of.Goals as goal

pub returns-then-some_nan : goal.returns-then-some_nan
returns-then-some_nan c = sym (patterns _ _ _ _ (sym c.some_nan.ensures ∙ c.if-some_nan.true))

pub float_from_bits-result : goal.float_from_bits-result
float_from_bits-result c = no_nan _ (plain _ _ _ _ (sym c.some_nan.ensures ∙ c.if-some_nan.false)).cal

pub float_from_bits-result-2 : goal.float_from_bits-result-2
float_from_bits-result-2 c = no_nan _ (plain _ _ _ _ (sym c.some_nan.ensures ∙ c.if-some_nan.false)).cal_ad

pub float_from_bits-result-3 : goal.float_from_bits-result-3
float_from_bits-result-3 c = no_nan _ (plain _ _ _ _ (sym c.some_nan.ensures ∙ c.if-some_nan.false)).offset_ad

pub float_from_bits-result-4 : goal.float_from_bits-result-4
float_from_bits-result-4 c = no_nan _ (plain _ _ _ _ (sym c.some_nan.ensures ∙ c.if-some_nan.false)).offset_cal

pub returns : goal.returns
returns c = sym (floats _ _ _ _ (sym c.some_nan.ensures ∙ c.if-some_nan.false))
