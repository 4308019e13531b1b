-- `bulk::turn3` meets its contract, by the laws of a turning loop.
-- Assumes nothing.
use mathlib.Core.Path.{◌≡◌, refl}
use Prim.Native.Nat.{◌+◌, ◌-◌, ◌*◌, ◌/◌}
use native.Mathlib.Omega.{arith}
use Rattle.bulk.proofs.Loops.{Turning, turning-none, turning-more, turning-within, turning-rest}
use Rattle.bulk.proofs.turn3.Goals as goal
use Rattle.bulk.proofs.turn3.Goals.{After-loop-block}

pub loop-block-init : goal.loop-block-init
loop-block-init c = turning-more 1 3 (turning-none c.requires) (omega (arith, c.if-n-lt2.false)) refl c.turn_number.ensures

pub loop-block-preserved : goal.loop-block-preserved
loop-block-preserved c =
    let l = c.loop-block in
    let i : 1 + 16 * (l.block + 1) ≡ 1 + 16 * l.block + 16 = omega arith in
    let at : 3 + 48 * (l.block + 1) ≡ 3 + 48 * l.block + 48 = omega arith in
    rw (i, at) (turning-within 16 2 2 (3 + 48 * l.block + 48) l.invariant (omega arith) refl (omega arith) (omega arith) c.sixteen_of_3.ensures)

-- after the blocks of sixteen
passed : (c : After-loop-block) → let b = (c.args.n - 2) / 16 in Turning 3 c.args.n c.args.src.now c.loop-block.dst (1 + 16 * b) (3 + 48 * b)
passed c = let e : c.loop-block.block ≡ (c.args.n - 2) / 16 = omega arith in rw e at c.loop-block.invariant

pub returns-then-left-le8 : goal.returns-then-left-le8
returns-then-left-le8 c = turning-rest _ (passed (goal.at.returns-then-left-le8 c).After-loop-block) (omega arith) c.turn_numbers-then-left-le8.ensures

pub returns : goal.returns
returns c =
    let t = passed (goal.at.returns c).After-loop-block in
    let e = 3 + 48 * ((c.args.n - 2) / 16) + 24 in
    turning-rest _ (turning-within 8 2 2 e t (omega arith) refl (omega arith) (omega arith) c.eight_of_3.ensures) (omega arith) c.turn_numbers-2.ensures
