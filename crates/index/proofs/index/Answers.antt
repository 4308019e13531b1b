-- `index::index` meets its contract: what `judge` says of the file, and what `file_entries` counted and wrote, by the laws of Answers.
-- Assumes nothing.
use Rattle.judge.proofs.Accepted.{accepted}
use Rattle.index.proofs.Answers.{indexes-short, indexes-entries}
use Rattle.index.proofs.index.Goals as goal

pub returns-then-out-need : goal.returns-then-out-need
returns-then-out-need c =
    indexes-short c.args.file.now _ (accepted c.in_ok-h.was c.judge.ensures) c.args.out.now _ _ c.file_entries-need.ensures c.if-out-need.true

pub returns : goal.returns
returns c =
    indexes-entries c.args.file.now _
    (accepted c.in_ok-h.was c.judge.ensures) c.args.out.now _ _ c.file_entries-need.ensures _ _ c.if-out-need.false c.file_entries.ensures
