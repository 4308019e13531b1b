-- `rewrite::frames::frames_body` meets its contract: after i turns i frames are written behind the 140's first numbers.
-- Assumes nothing.
use Prim.Native.Nat.{◌+◌, ◌-◌}
use native.Mathlib.Omega.{arith}
use Rattle.rewrite.proofs.Framing.{framing-start, framing-more, framing-end}
use Rattle.rewrite.proofs.frames.frames_body.Goals as goal

pub loop-i-init : goal.loop-i-init
loop-i-init c =
    let a = c.args in
    framing-start a.w a.file.now a.cs a.t a.filled a.size a.count a.s.now a.d.now _ _ _ _ c.requires.source c.requires.target
    c.d-1.given.1 c.d-2-1.given.1 c.d-3-1.given.1 c.d-4-1.given.1
    c.put.ensures c.put-2.ensures c.put-3.ensures c.clear_run.ensures

pub loop-i-preserved : goal.loop-i-preserved
loop-i-preserved c =
    let l = c.loop-i in
    let a = c.args in
    framing-more a.w a.file.now a.cs a.t a.filled a.size a.count a.s.now l.invariant (l.from + a.filled - l.from) (l.k + a.filled - l.k) _
    c.loop-i-test.true c.requires.fits (omega arith) (omega arith) c.d-in-loop-i-1.given.1 c.frame.ensures

pub returns : goal.returns
returns c =
    let a = c.args in
    framing-end a.w a.file.now a.cs a.t a.filled a.size a.count a.s.now c.loop-i.invariant a.d.now _ (omega arith) c.d-5-1.given.1 c.clear_run-2.ensures
    (omega (arith, c.d-4-1.given.1, c.d-3-1.given.1, c.d-2-1.given.1, c.d-1.given.1))
