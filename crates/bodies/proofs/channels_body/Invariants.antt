-- `bodies::channels_body` meets its contract: after i turns i subs are written behind the front.
-- Assumes nothing.
use Rattle.bodies.proofs.Pieces.{SoFar}
use Rattle.bodies.proofs.channels_body.Given as goal

abbrev pub invariant-loop-i : goal.invariant-loop-i
invariant-loop-i l = SoFar l.w l.k l.m l.s l.d l.at l._i
