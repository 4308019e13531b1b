-- `rows::put` meets its contract: four numbers are stored where there is room for them.
-- Assumes nothing.
use native.Mathlib.Omega.{arith}
use mir.Syntax.{w64}
use mir.Val.{SFits}
use mir.ValLaws.{to_z_pos, to_z-of_z}
use lib.IntN.{ℤ}
use lib.Signed.{mag}
use Prim.Native.Nat.{◌<◌, ◌^◌}
use Rattle.words.proofs.Ints.{kept}
use Rattle.rows.proofs.Written.{wrote-counted, wrote_one}
use Rattle.rows.proofs.put.Goals as goal

-- what an i32 holds, an i64 holds
wide : (z : ℤ) → mag z < 2 ^ 31 → SFits w64 z
wide z h = record { sfits = omega arith }

pub returns-then-not-write : goal.returns-then-not-write
returns-then-not-write c = wrote-counted _ _ _ _ (c.if-not-write.true)

pub returns : goal.returns
returns c =
    let a = c.args in
    wrote_one _ _ _ _ _ _ _ _ (c.if-not-write.false) (omega arith) (to_z_pos w64 a.start (omega arith)) (to_z_pos w64 a.size (omega arith)) (to_z_pos w64 a.code (omega arith)) (rw (kept c.signed.result c.signed.type_inv, to_z-of_z w64 c.signed.result (wide c.signed.result c.signed.type_inv)) c.signed.ensures)
