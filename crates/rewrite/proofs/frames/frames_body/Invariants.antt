-- `rewrite::frames::frames_body` meets its contract: after i turns i frames are written behind the 140's first numbers.
-- Assumes nothing.
use lib.ListN.{length}
use Rattle.rewrite.proofs.Framing.{Framing}
use Rattle.rewrite.proofs.frames.frames_body.Given as goal

abbrev pub invariant-loop-i : goal.invariant-loop-i
invariant-loop-i l = Framing l.w l.file l.cs l.t l.filled l.size l.count l.s (length l.initial.d) l.d l.from l.k l.i
