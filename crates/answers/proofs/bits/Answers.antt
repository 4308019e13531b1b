-- `answers::bits` meets its contract: only a NaN differs from itself.
-- Assumes nothing.
use Rattle.answers.proofs.Width.{nan-bits, no_nan}
use Rattle.answers.proofs.bits.Goals as goal

pub returns-then-v : goal.returns-then-v
returns-then-v c = nan-bits _ c.if-v.true

pub float_to_bits-result : goal.float_to_bits-result
float_to_bits-result c = no_nan _ c.if-v.false
