-- `bodies::channel_numbers` meets its contract: what is written piece by piece are the sub's numbers.
-- Assumes nothing.
use mathlib.Core.Path.{sym, ◌∙◌}
use native.Mathlib.Omega.{arith}
use lib.ListN.{length-take}
use Rattle.bodies.proofs.Pieces.{numbers-written}
use Rattle.bodies.proofs.channel_numbers.Goals as goal

pub slice_bounds-numbers-end : goal.slice_bounds-numbers-end
slice_bounds-numbers-end c = simp length-take (omega arith)

pub slice_bounds-numbers-end-3 : goal.slice_bounds-numbers-end-3
slice_bounds-numbers-end-3 c = simp length-take (omega arith)

pub numbers-requires : goal.numbers-requires
numbers-requires c = record {
  wide = record { least = omega arith; most = omega arith };
  run =
      record { source = simp length-take (omega arith); room = simp length-take (omega arith) };
}

pub returns : goal.returns
returns c =
    let a = c.args in
    numbers-written a.w a.s.now a.calibrated a.d.now _ _ _ _ c.requires.source (c.requires.room ∙ sym c.requires.source)
    c.numbers.ensures
    c.number_if.ensures
    c.numbers-2.ensures
    c.number_if-2.ensures
