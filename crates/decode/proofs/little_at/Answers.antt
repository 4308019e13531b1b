-- `decode::little_at` meets its contract: the bits of the number at the place.
-- Assumes nothing.
use mathlib.Core.Path.{refl}
use native.Mathlib.Omega.{arith}
use mir.Syntax.{w32}
use Rattle.words.specs.declared.Order.TheVariants.{Little}
use Rattle.decode.proofs.Casts.{cast-is}
use Rattle.decode.proofs.Places.{number-4}
use Rattle.decode.proofs.little_at.Goals as goal

pub returns : goal.returns
returns c =
    let h = number-4 Little c.args.s.now c.args.at c.requires in
    cast-is w32 4 refl refl (record { sfits = c.from_le_bytes.type_inv }) c.from_le_bytes.ensures (omega arith)
