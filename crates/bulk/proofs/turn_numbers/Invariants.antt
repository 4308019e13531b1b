-- `bulk::turn_numbers` meets its contract, by the laws of a turning loop.
-- Assumes nothing.
use Prim.Native.Nat.{◌*◌}
use Rattle.bulk.proofs.Loops.{Turning}
use Rattle.bulk.proofs.turn_numbers.Given as goal

abbrev pub invariant-loop-i : goal.invariant-loop-i
invariant-loop-i g l = Turning g.row.W l.n l.src l.dst l.i (l.i * g.row.W)
