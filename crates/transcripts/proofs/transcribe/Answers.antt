-- `transcripts::transcribe` meets its contract: its head, and its body where there is room.
-- Assumes nothing.
use native.Mathlib.Omega.{arith}
use Rattle.transcripts.proofs.Transcribing.{transcribed-full, transcribed}
use Rattle.transcripts.proofs.transcribe.Goals as goal

pub returns-then-out-at : goal.returns-then-out-at
returns-then-out-at c =
    let a = c.args in
    let y = c.head-at in
    transcribed-full a.w a.s.now a.h a.end c.requires.headed c.requires.inside a.out.now _ a.k y.result y.ensures.1 c.out-1.given y.ensures.0 c.if-out-at.true

pub returns : goal.returns
returns c =
    let a = c.args in
    let y = c.head-at in
    transcribed a.w a.s.now a.h a.end c.requires.headed c.requires.inside a.out.now _ a.k y.result y.ensures.1 c.out-1.given _
    (omega (arith, c.if-out-at.false, c.out-1.given, y.ensures.0)) c.body.ensures
