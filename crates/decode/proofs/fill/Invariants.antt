-- `decode::fill` meets its contract: the numbers up to i are those of their places.
-- Assumes nothing.
use Prim.Native.Nat.{ℕ, ◌<◌}
use lib.ListN.{get_or}
use Rattle.decode.proofs.fill.Given as goal

abbrev pub invariant-loop-i : goal.invariant-loop-i
invariant-loop-i g l = (x : _) (y : _) (q : ℕ) → q < l.i → goal.F-post g l.means (get_or l.places q x) (get_or l.d q y)
