-- `rewrite::recordings::name` meets its contract: the eight bytes of either spelling.
-- Assumes nothing.
use Rattle.rules.specs.Rules as R
use Rattle.rewrite.proofs.recordings.name.Goals as goal

pub returns-in-Spg : goal.returns-in-Spg
unfolding R.spelled
returns-in-Spg c = rw c.in-Spg.is c.copy_run.ensures

pub returns-in-Psg : goal.returns-in-Psg
unfolding R.spelled
returns-in-Psg c = rw c.in-Psg.is c.copy_run-in-Psg.ensures
