-- `records::between` meets its contract: both bounds are tested. Assumes nothing.
use Rattle.walk.proofs.Seen.{tests}
use Rattle.rules.specs.Rules.{between}
use Rattle.records.proofs.between.Goals as goal

pub returns-then-n-low : goal.returns-then-n-low
unfolding between
returns-then-n-low c = search tests

pub returns : goal.returns
unfolding between
returns c = search tests
