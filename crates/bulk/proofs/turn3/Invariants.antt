-- `bulk::turn3` meets its contract, by the laws of a turning loop.
-- Assumes nothing.
use Prim.Native.Nat.{◌+◌, ◌*◌}
use Rattle.bulk.proofs.Loops.{Turning}
use Rattle.bulk.proofs.turn3.Given as goal

abbrev pub invariant-loop-block : goal.invariant-loop-block
invariant-loop-block l = Turning 3 l.n l.src l.dst (1 + 16 * l.block) (3 + 48 * l.block)
