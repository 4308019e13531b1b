-- `turn::recordings::other` meets its contract.
-- Assumes nothing.
use Rattle.words.specs.Numbers.{other}
use Rattle.turn.proofs.recordings.other.Goals as goal

pub returns-in-Little : goal.returns-in-Little
unfolding other
returns-in-Little c = rw c.in-Little.is

pub returns-in-Big : goal.returns-in-Big
unfolding other
returns-in-Big c = rw c.in-Big.is
