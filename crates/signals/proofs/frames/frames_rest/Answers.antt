-- `signals::frames::frames_rest` meets its contract: one law of Answers for each return.
-- t: where they stop. Assumes nothing.
use Rattle.std.proofs.Common.{Ok}
use Rattle.rules.proofs.Handed.{handed}
use Rattle.signals.proofs.Answers.{Taken, rest-refused, rest-unpadded, rest-holds}
use Rattle.signals.proofs.frames.frames_rest.Goals as goal
use Rattle.signals.proofs.frames.frames_rest.Goals.{In_ok-q}

-- the frames that passed
passed : (t : In_ok-q) →
    let a = t.args in
    Taken a.o a.label a.at a.s.now a.total a.f (Ok t.in_ok-q.q)
passed t = t.in_ok-q.ensures

pub returns-in_err-q : goal.returns-in_err-q
returns-in_err-q c =
    let a = c.args in
    rw (handed _ c.from_residual.ensures) (rest-refused a.o a.label a.at a.s.now a.total a.f (c.in_err-q.ensures))

pub returns-in_err-padding : goal.returns-in_err-padding
returns-in_err-padding c =
    let a = c.args in
    rw (handed _ c.from_residual-in_err-padding.ensures) (rest-unpadded a.o a.label a.at a.s.now a.total a.f (passed (goal.at.returns-in_err-padding c).In_ok-q) (c.padding.ensures a.o) c.in_err-padding.was)

pub returns : goal.returns
returns c =
    let a = c.args in
    rest-holds a.o a.label a.at a.s.now a.total a.f (passed (goal.at.returns c).In_ok-q) (c.padding.ensures a.o) c.in_ok-padding.was
