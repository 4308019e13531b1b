-- `bulk::turn_numbers` meets its contract, by the laws of a turning loop.
-- Assumes nothing.
use native.Mathlib.Nat.{zero-mul}
use Rattle.bulk.proofs.Loops.{turning-none, turning-all}
use Rattle.bulk.proofs.turn_numbers.Goals as goal

pub loop-i-init : goal.loop-i-init
loop-i-init g c = rw zero-mul (turning-none c.requires.run)

pub returns : goal.returns
returns g c = turning-all c.loop-i.invariant c.loop-i-test.false
