-- `recordings::within` meets its contract: the two tests of a range.
-- Assumes nothing.
use borrow.Author.Tests.{lt-leb, le-leb}
use Rattle.rules.specs.Rules.{between}
use Rattle.recordings.proofs.within.Goals as goal

pub returns-then-n-lt1 : goal.returns-then-n-lt1
unfolding between
returns-then-n-lt1 c = rw (between, lt-leb 1 c.args.n c.if-n-lt1.true)

pub returns : goal.returns
unfolding between
returns c = rw (between, le-leb 1 c.args.n c.if-n-lt1.false)
