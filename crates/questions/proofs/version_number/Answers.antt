-- `questions::version_number` meets its contract: the number of each version's digits.
-- Assumes nothing.
use Rattle.rules.specs.Rules as R
use Rattle.questions.proofs.version_number.Goals as goal

pub returns-in-V100 : goal.returns-in-V100
unfolding R.decimal R.between R.all_spaces R.versioned
returns-in-V100 c = rw c.in-V100.is

pub returns-in-V110 : goal.returns-in-V110
unfolding R.decimal R.between R.all_spaces R.versioned
returns-in-V110 c = rw c.in-V110.is

pub returns-in-V200 : goal.returns-in-V200
unfolding R.decimal R.between R.all_spaces R.versioned
returns-in-V200 c = rw c.in-V200.is

pub returns-in-V300 : goal.returns-in-V300
unfolding R.decimal R.between R.all_spaces R.versioned
returns-in-V300 c = rw c.in-V300.is
