-- `rows::recording_rows` meets its contract: its head's row and its body's, by the laws of Recorded.
-- Assumes nothing.
use native.Mathlib.Omega.{arith}
use lib.ListN.{length-take, length-drop}
use Rattle.children.proofs.Recordings.{recording-none}
use Rattle.children.proofs.Visiting.{recorded, unrecorded}
use Rattle.rows.proofs.Recorded.{wrote-recording}
use Rattle.rows.proofs.recording_rows.Goals as goal

pub returns-in_default : goal.returns-in_default
returns-in_default c =
    let v = unrecorded c.in_default.is c.record_at.ensures in
    record { on = omega arith; inside = c.requires.inside; reaches = c.requires.low; wrote = λ label held i x e g. recording-none v label held i g }

pub returns : goal.returns
returns c =
    let v = recorded c.in-Some.is c.record_at.ensures in
    let b = c.body_rows-next.ensures in
    let l = simp (length-take, length-drop) at b.reaches in
    record {
      on = omega (arith, v.least);
      inside = v.inside;
      reaches = omega (arith, l, v.least, v.inside);
      wrote = wrote-recording v c.put-first.ensures b.wrote;
    }
