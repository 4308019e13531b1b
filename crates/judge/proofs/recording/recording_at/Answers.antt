-- `judge::recording::recording_at` meets its contract: its head is refused, or its body says what it is.
-- x: behind the head. Assumes nothing.
use Rattle.std.proofs.Common.{Ok}
use Rattle.rules.proofs.Handed.{handed}
use Rattle.rules.specs.declared.Kind.TheVariants as Kind
use Rattle.records.specs.Says.{OpenAt}
use Rattle.judge.proofs.Recorded.{at_stops, at_body}
use Rattle.judge.proofs.recording.recording_at.Goals as goal
use Rattle.judge.proofs.recording.recording_at.Goals.{In_ok-h}

-- the head that passed
begun : (x : In_ok-h) →
    let a = x.args in
    OpenAt a.o 0 a.file.now a.p (Kind.Recording a.label a.i) (Ok (x.in_ok-h.h, x.in_ok-h.end))
begun x = x.in_ok-h.ensures

pub returns-in_err-h : goal.returns-in_err-h
returns-in_err-h c =
    rw (handed _ c.from_residual.ensures) (at_stops (c.in_err-h.ensures))

pub returns : goal.returns
returns c = at_body (begun (goal.at.returns c).In_ok-h) c.recording_body.ensures
