-- `samples::float_in` meets its contract, case by case.
-- Assumes nothing.
use mathlib.Core.Path.{sym, ◌∙◌}
use Rattle.samples.proofs.Bits.{a-pattern, a-float}
use Rattle.samples.proofs.float_in.Goals as goal

pub returns-then-is_nan : goal.returns-then-is_nan
returns-then-is_nan c = sym (a-pattern _ (sym c.is_nan.ensures ∙ c.if-is_nan.true))

pub returns : goal.returns
returns c = sym (a-float _ (sym c.is_nan.ensures ∙ c.if-is_nan.false))
