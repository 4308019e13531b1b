-- `judge::recording::body_again` meets its contract: one law of Recorded for each return.
-- x: behind the descriptions. Assumes nothing.
use Rattle.std.proofs.Common.{Ok}
use Rattle.rules.proofs.Handed.{handed}
use Prim.Native.Nat.{◌+◌}
use Rattle.descriptions.specs.DescriptionsJudged.{DescriptionsOf}
use Rattle.judge.proofs.Recorded.{again-stops, again-short, again-holds}
use Rattle.judge.proofs.recording.body_again.Goals as goal
use Rattle.judge.proofs.recording.body_again.Goals.{In_ok-t}

-- the descriptions that passed
described : (x : In_ok-t) →
    let a = x.args in
    DescriptionsOf a.o a.label (a.at + 16) a.s.now a.before (Ok x.in_ok-t.t)
described x = x.in_ok-t.ensures

pub returns-in_err-t : goal.returns-in_err-t
returns-in_err-t c =
    let a = c.args in
    rw (handed _ c.from_residual.ensures) (again-stops a.o a.label a.s.now a.at a.before (c.in_err-t.ensures))

pub returns-then-s-p : goal.returns-then-s-p
returns-then-s-p c =
    let a = c.args in
    again-short a.o a.label a.s.now a.at a.before (described (goal.at.returns-then-s-p c).In_ok-t) c.if-s-p.true

pub returns : goal.returns
returns c =
    let a = c.args in
    rw c.places_for.ensures (again-holds a.o a.label a.s.now a.at a.before (described (goal.at.returns c).In_ok-t) c.number-seconds.ensures.0 c.number-frame.ensures.0)
