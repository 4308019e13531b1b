-- `overview::is_whole` meets its contract: the two tests of a range.
-- Assumes nothing.
use borrow.Author.Tests.{lt-leb, le-leb}
use Rattle.rules.specs.Rules.{between}
use Rattle.overview.proofs.is_whole.Goals as goal

pub returns-then-format-lt1 : goal.returns-then-format-lt1
unfolding between
returns-then-format-lt1 c = rw (between, lt-leb 1 c.args.format c.if-format-lt1.true)

pub returns : goal.returns
unfolding between
returns c = rw (between, le-leb 1 c.args.format c.if-format-lt1.false)
