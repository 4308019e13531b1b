-- `rewrite::recordings::form_digits` meets its contract: the two bytes of either form.
-- Assumes nothing.
use Rattle.rules.specs.Rules as R
use Rattle.rewrite.proofs.recordings.form_digits.Goals as goal

pub returns-in-Channels : goal.returns-in-Channels
unfolding R.formed
returns-in-Channels c = rw c.in-Channels.is c.copy_run.ensures

pub returns-in-Electrodes : goal.returns-in-Electrodes
unfolding R.formed
returns-in-Electrodes c = rw c.in-Electrodes.is c.copy_run-in-Electrodes.ensures
