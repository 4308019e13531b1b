-- `samples::time_at` meets its contract: the clock of a frame that a walk gave is in the bytes of its record.
-- Assumes nothing.
use Rattle.samples.proofs.Clocked.{clock-read}
use Rattle.samples.proofs.time_at.Goals as goal

pub returns : goal.returns
returns c label size t cs room i f e h = rw (clock-read _ _ _ label size t cs room i h) (cc)
