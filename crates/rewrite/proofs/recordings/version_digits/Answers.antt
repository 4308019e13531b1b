-- `rewrite::recordings::version_digits` meets its contract: the six bytes of each version.
-- Assumes nothing.
use Rattle.rules.specs.Rules as R
use Rattle.rewrite.proofs.recordings.version_digits.Goals as goal

pub returns-in-V100 : goal.returns-in-V100
unfolding R.versioned
returns-in-V100 c = rw c.in-V100.is c.copy_run.ensures

pub returns-in-V110 : goal.returns-in-V110
unfolding R.versioned
returns-in-V110 c = rw c.in-V110.is c.copy_run-in-V110.ensures

pub returns-in-V200 : goal.returns-in-V200
unfolding R.versioned
returns-in-V200 c = rw c.in-V200.is c.copy_run-in-V200.ensures

pub returns-in-V300 : goal.returns-in-V300
unfolding R.versioned
returns-in-V300 c = rw c.in-V300.is c.copy_run-in-V300.ensures
