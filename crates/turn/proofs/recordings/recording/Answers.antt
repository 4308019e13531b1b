-- `turn::recordings::recording` meets its contract: its head, and its body as a part of the file.
-- Assumes nothing.
use Rattle.turn.proofs.Sent.{recording-short, recording-copied}
use Rattle.turn.proofs.recordings.recording.Goals as goal

pub returns-then-end-base : goal.returns-then-end-base
returns-then-end-base c =
    let a = c.args in
    λ held i x g stand. absurd (recording-short a.w a.file.now a.p a.q.end held i c.if-end-base.true g)

pub returns : goal.returns
returns c =
    let a = c.args in
    let h = c.head-k in
    recording-copied a.w a.file.now a.p a.q.end a.q.channels a.q.count a.out.now _ _ h.result c.requires.room h.ensures.1 c.body.ensures
