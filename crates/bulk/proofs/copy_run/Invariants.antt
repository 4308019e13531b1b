-- `bulk::copy_run` meets its contract: after i turns the first i bytes are written.
-- Assumes nothing.
use mathlib.Core.Path.{◌≡◌}
use lib.ListN.{length, take}
use Rattle.bulk.proofs.copy_run.Given as goal

abbrev pub invariant-loop-i : goal.invariant-loop-i
invariant-loop-i l = (take l.i l.dst ≡ take l.i l.src) × (length l.dst ≡ length l.src)
