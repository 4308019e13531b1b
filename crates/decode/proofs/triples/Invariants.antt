-- `decode::triples` meets its contract, by the laws of a decoding loop.
-- Assumes nothing.
use Prim.Native.Nat.{◌*◌}
use lib.IntN.{pos}
use Rattle.words.specs.Values.{signed}
use Rattle.decode.specs.Wide.{order_for}
use Rattle.decode.proofs.Loops.{Decoding}
use Rattle.decode.proofs.triples.Given as goal

abbrev pub invariant-loop-i : goal.invariant-loop-i
invariant-loop-i l = Decoding (pos 0) (signed 3) (order_for l.fn.big) 3 l.s l.initial.d l.d l.i (l.i * 3)
