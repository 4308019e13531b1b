-- `turn::frames::frames` meets its contract: its head, and its body where there is room.
-- Assumes nothing.
use native.Mathlib.Omega.{arith}
use Rattle.turn.proofs.Turning.{frames-short, frames-sent}
use Rattle.turn.proofs.frames.frames.Goals as goal

pub returns-then-end-p-lt-LEAST : goal.returns-then-end-p-lt-LEAST
returns-then-end-p-lt-LEAST c =
    let a = c.args in
    frames-short a.w a.file.now a.cs a.s.now a.p a.end c.requires.headed c.requires.inside a.out.now a.k c.requires.target c.if-end-p-lt-LEAST.true

pub returns : goal.returns
returns c =
    let a = c.args in
    let y = c.body_if_room in
    let h = c.head-at in
    frames-sent a.w a.file.now a.cs a.s.now a.p a.end c.requires.headed c.requires.inside a.out.now a.k _ _ h.result y.result h.ensures.1
    (omega (arith, y.ensures.inside, c.out-1.given)) y.ensures.wrote
