-- `overview::of_frames` meets its contract, by the laws of a loop over frames.
-- Assumes nothing.
use Prim.Native.Nat.{◌+◌, ◌*◌}
use Rattle.overview.proofs.Framed.{Framing}
use Rattle.overview.proofs.of_frames.Given as goal

abbrev pub invariant-loop-i : goal.invariant-loop-i
invariant-loop-i l = Framing l.file l.t l.n l.end l.x (l.n + 1 + 2 * l.i)
