-- `bodies::channel` meets its contract: what is written piece by piece is the record.
-- Assumes nothing.
use mathlib.Core.Path.{sym, ◌∙◌}
use native.Mathlib.Omega.{arith}
use lib.ListN.{length-take}
use Rattle.bodies.proofs.Pieces.{channel-written}
use Rattle.bodies.proofs.channel.Goals as goal

pub slice_bounds-channel_numbers-end : goal.slice_bounds-channel_numbers-end
slice_bounds-channel_numbers-end c = simp length-take (omega arith)

pub slice_bounds-channel_numbers-end-3 : goal.slice_bounds-channel_numbers-end-3
slice_bounds-channel_numbers-end-3 c = simp length-take (omega arith)

pub channel_numbers-requires : goal.channel_numbers-requires
channel_numbers-requires c = record { source = simp length-take (omega arith); room = simp length-take (omega arith) }

pub returns : goal.returns
returns c =
    let a = c.args in
    channel-written a.w a.s.now a.k a.d.now _ _ _ _ _ _ _ c.requires.source (c.requires.room ∙ sym c.requires.source)
    c.channel_numbers.ensures
    c.reserved.ensures
    c.copy_run.ensures
    c.number_if.ensures
    c.number_if-2.ensures
    c.reserved-2.ensures
    c.copy_run-2.ensures
