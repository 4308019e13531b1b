-- `judge::recording::recording_body` meets its contract: one law of Recorded for each return.
-- x: behind the descriptions. Assumes nothing.
use Rattle.std.proofs.Common.{Ok}
use Rattle.rules.proofs.Handed.{handed}
use Prim.Native.Nat.{◌+◌}
use Rattle.descriptions.specs.DescriptionsJudged.{DescriptionsOf}
use Rattle.judge.proofs.Recorded.{channels-asked, signals-asked, stops-descriptions, stops-signals, holds}
use Rattle.judge.proofs.recording.recording_body.Goals as goal
use Rattle.judge.proofs.recording.recording_body.Goals.{In_ok-t}

-- the descriptions that passed
described : (x : In_ok-t) →
    let a = x.args in
    DescriptionsOf a.o a.label (a.at + 16) a.s.now a.before (Ok x.in_ok-t.t)
described x = x.in_ok-t.ensures

pub returns-in_err-t : goal.returns-in_err-t
returns-in_err-t c =
    let a = c.args in
    rw (handed _ c.from_residual.ensures)
    (stops-descriptions a.o a.label a.file.now a.s.now a.at a.before c.requires (c.in_err-t.ensures))

pub channels_of-cs-requires : goal.channels_of-cs-requires
channels_of-cs-requires c =
    let a = c.args in
    channels-asked a.o a.label a.file.now a.s.now a.at a.before c.requires (described c)

pub signals-requires : goal.signals-requires
signals-requires c =
    let a = c.args in
    signals-asked a.o a.label a.file.now a.s.now a.at a.before c.requires (described (goal.at.signals-requires c).In_ok-t) c.channels_of-cs.ensures

pub returns-in_err-f : goal.returns-in_err-f
returns-in_err-f c =
    let a = c.args in
    rw (handed _ c.from_residual-in_err-f.ensures)
    (stops-signals a.o a.label a.file.now a.s.now a.at a.before c.requires (described (goal.at.returns-in_err-f c).In_ok-t) c.channels_of-cs.ensures (c.in_err-f.ensures))

pub returns : goal.returns
returns c =
    let a = c.args in
    rw c.places_for.ensures
    (holds a.o a.label a.file.now a.s.now a.at a.before c.requires (described (goal.at.returns c).In_ok-t) c.channels_of-cs.ensures c.in_ok-f.field-0-1 (c.in_ok-f.ensures))
