-- `rewrite::frames::frame` meets its contract: the head, and behind it what fills the frame.
-- Assumes nothing.
use native.Mathlib.Omega.{arith}
use Rattle.rewrite.proofs.Framing.{frame-written}
use Rattle.rewrite.proofs.frames.frame.Goals as goal

pub returns : goal.returns
returns c =
    let a = c.args in
    λ clear ch f here whole stands.
    frame-written a.w a.t ch a.s.now f clear whole stands a.d.now _ _ a.i c.requires.room c.d-1.given.1 c.d-2-1.given.1 c.put_head.ensures
    (λ b. c.frame_body.ensures b ch here.count here.kept (omega arith))
