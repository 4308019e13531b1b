-- `makers::in_recording` meets its contract: the first is that of the body, by the laws of Recorded.
-- Assumes nothing.
use native.Mathlib.Omega.{arith}
use lib.ListN.{length-take, length-drop}
use Rattle.children.proofs.Visiting.{recorded, unrecorded}
use Rattle.children.proofs.Recordings.{recording-none}
use Rattle.makers.proofs.Recorded.{finds-recording}
use Rattle.makers.proofs.in_recording.Goals as goal

pub returns-in_default : goal.returns-in_default
returns-in_default c =
    let v = unrecorded c.in_default.is c.record_at.ensures in
    record { on = omega arith; inside = c.requires.low; first = λ label held i x e g. recording-none v label held i g }

-- the part behind the head, of which the body is handed on
pub slice_bounds-in_body-count : goal.slice_bounds-in_body-count
slice_bounds-in_body-count c =
    let v = recorded c.in-Some.is c.record_at.ensures in
    omega (arith, v.least)

pub in_body-found-requires : goal.in_body-found-requires
in_body-found-requires c =
    let v = recorded c.in-Some.is c.record_at.ensures in
    simp (length-take, length-drop) (omega (arith, v.inside, v.least))

pub returns : goal.returns
returns c =
    let v = recorded c.in-Some.is c.record_at.ensures in
    record { on = omega (arith, v.least); inside = v.inside; first = finds-recording v c.in_body-found.result c.in_body-found.ensures }
