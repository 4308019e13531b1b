-- `questions::form_number` meets its contract: the number of each form's digits.
-- Assumes nothing.
use Rattle.rules.specs.Rules as R
use Rattle.questions.proofs.form_number.Goals as goal

pub returns-in-Channels : goal.returns-in-Channels
unfolding R.decimal R.between R.all_spaces R.formed
returns-in-Channels c = rw c.in-Channels.is

pub returns-in-Electrodes : goal.returns-in-Electrodes
unfolding R.decimal R.between R.all_spaces R.formed
returns-in-Electrodes c = rw c.in-Electrodes.is
