-- `permit::short` meets its contract: 17 with the length needed, where the room is smaller.
-- Assumes nothing.
use borrow.Author.Tests.{le-leb, lt-leb}
use Rattle.permit.proofs.short.Goals as goal

pub returns-then-room-need : goal.returns-then-room-need
returns-then-room-need c = rw (lt-leb c.args.need c.args.room c.if-room-need.true)

pub returns : goal.returns
returns c = rw (le-leb c.args.need c.args.room c.if-room-need.false)
