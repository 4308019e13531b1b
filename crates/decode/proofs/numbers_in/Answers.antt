-- `decode::numbers_in` meets its contract: each arm fills the buffer at its width.
-- Assumes nothing.
use mathlib.Core.List.{[]}
use mathlib.Core.Path.{◌≡◌}
use Prim.Native.Nat.{◌*◌}
use native.Mathlib.Omega.{arith}
use lib.IntN.{pos}
use lib.ListN.{length}
use Rattle.rules.specs.Rules as R
use Rattle.samples.proofs.Stretch.{width-2, width-3, width-4}
use Rattle.decode.proofs.Filled.{decoded}
use Rattle.decode.proofs.numbers_in.Goals as goal

pub fill-requires-clause-room : goal.fill-requires-clause-room
fill-requires-clause-room c =
    let h : length c.args.s.now ≡ length c.args.d.now * 2 = rw (width-2 _ c.in-1.is) at c.requires in
    omega (arith, c.as_chunks.ensures.front_len)

pub returns-in-1 : goal.returns-in-1
returns-in-1 c =
    let w : R.width c.args.format ≡ 2 = width-2 _ c.in-1.is in
    let h : length c.args.s.now ≡ length c.args.d.now * 2 = rw w at c.requires in
    rw w (decoded h (omega arith) c.as_chunks.ensures.front c.fill.auto.d (λ q l _. c.fill.ensures [] (pos 0) q l))

pub triples-requires : goal.triples-requires
triples-requires c = rw (width-3 _ c.in-2.is) at c.requires

pub returns-in-2 : goal.returns-in-2
returns-in-2 c = rw (width-3 _ c.in-2.is) c.triples.ensures

pub fill-requires-in_default-clause-room : goal.fill-requires-in_default-clause-room
fill-requires-in_default-clause-room c =
    let h : length c.args.s.now ≡ length c.args.d.now * 4 = rw (width-4 c.args.format (omega arith) (omega arith)) at c.requires in
    omega (arith, c.as_chunks-in_default.ensures.front_len)

pub returns-in_default : goal.returns-in_default
returns-in_default c =
    let w : R.width c.args.format ≡ 4 = width-4 c.args.format (omega arith) (omega arith) in
    let h : length c.args.s.now ≡ length c.args.d.now * 4 = rw w at c.requires in
    rw w (decoded h (omega arith) c.as_chunks-in_default.ensures.front c.fill-in_default.auto.d (λ q l _. c.fill-in_default.ensures [] (pos 0) q l))
