-- `turn::turn` meets its contract: what `judge` says of the file, what the search for a maker's record found, the leave to write,
-- and what `file_turned` wrote, by the laws of Answers.
-- Assumes nothing.
use Rattle.rules.proofs.Handed.{handed}
use borrow.Author.Rules.{rules}
use lib.ListN.{length}
use Rattle.judge.proofs.Accepted.{accepted-long, went, opens}
use Rattle.makers.specs.Search.{found}
use Rattle.permit.proofs.Settled.{permit-room}
use Rattle.turn.proofs.Answers.{turns_stopped, turns-room}
use Rattle.turn.proofs.turn.Goals as goal

pub first_maker-made-requires : goal.first_maker-made-requires
first_maker-made-requires c =
    record { header = accepted-long _ _ c.in_ok-h.ensures; short = search rules }

pub returns-in_err-size : goal.returns-in_err-size
returns-in_err-size c =
    let s = c.args.file.now in
    let j = c.in_ok-h.ensures in
    rw (handed _ c.from_residual-in_err-size.ensures)
    (turns_stopped s _ j c.args.out.now (c.first_maker-made.ensures _ _ _ (went s _ j)) _ c.in_err-size.ensures)

pub file_turned-requires : goal.file_turned-requires
file_turned-requires c =
    record {
      headed = record { header = accepted-long _ _ c.in_ok-h.ensures; short = search rules };
      room = (permit-room (found c.first_maker-made.result) (length c.args.file.now) (length c.args.out.now) c.in_ok-size.ensures).1;
    }

pub returns : goal.returns
returns c =
    let s = c.args.file.now in
    let j = c.in_ok-h.ensures in
    turns-room s _ j c.args.out.now (c.first_maker-made.ensures _ _ _ (went s _ j)) _ _ c.in_ok-size.ensures
    (c.file_turned.ensures _ _ _ (opens s _ j) (went s _ j))
