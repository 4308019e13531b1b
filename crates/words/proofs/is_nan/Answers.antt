-- `words::is_nan` meets its contract.
-- Assumes nothing.
use mathlib.Core.Path.{sym}
use Rattle.words.proofs.Floats.{nan_pattern-above}
use Rattle.words.proofs.is_nan.Goals as goal

pub returns : goal.returns
returns c = sym (nan_pattern-above c.args.bits)
