-- `table::table` meets its contract: what `judge` says of the file, and what `file_rows` counted and wrote, by the laws of Answers.
-- Assumes nothing.
use Rattle.rules.proofs.Handed.{handed}
use Rattle.judge.proofs.Accepted.{accepted, accepted-long}
use Rattle.table.proofs.Answers.{lists-refused, lists-short, lists-rows}
use borrow.Author.Rules.{rules}
use Rattle.table.proofs.table.Goals as goal

pub returns-in_err-h : goal.returns-in_err-h
returns-in_err-h c =
    rw (handed _ c.from_residual.ensures) (lists-refused c.args.file.now c.args.out.now _ c.in_err-h.ensures)

pub file_rows-need-requires : goal.file_rows-need-requires
file_rows-need-requires c =
    let j = accepted c.in_ok-h.was c.judge.ensures in
    record { header = accepted-long _ _ j; short = search rules }

pub returns-then-out-need : goal.returns-then-out-need
returns-then-out-need c =
    let j = accepted c.in_ok-h.was c.judge.ensures in
    lists-short c.args.file.now _ j c.args.out.now _ _ c.file_rows-need.ensures.wrote c.if-out-need.true

pub file_rows-requires : goal.file_rows-requires
file_rows-requires c =
    let j = accepted c.in_ok-h.was c.judge.ensures in
    record { header = accepted-long _ _ j; short = search rules }

pub returns : goal.returns
returns c =
    let j = accepted c.in_ok-h.was c.judge.ensures in
    lists-rows c.args.file.now _ j c.args.out.now _ _ c.file_rows-need.ensures.wrote _ _ c.if-out-need.false c.file_rows.ensures.wrote
