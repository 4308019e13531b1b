-- `decode::short` meets its contract.
-- Assumes nothing.
use mathlib.Core.Path.{refl}
use native.Mathlib.Omega.{arith}
use borrow.Author.Rules.{rules}
use mir.Syntax.{w16}
use Rattle.words.specs.declared.Order.TheVariants.{Little, Big}
use Rattle.decode.proofs.Casts.{cast-is}
use Rattle.decode.proofs.Places.{word-2}
use Rattle.decode.proofs.short.Goals as goal

pub returns-then-big : goal.returns-then-big
returns-then-big c =
    let h = word-2 Big c.args.bytes (search rules) in
    rw c.if-big.true (cast-is w16 2 refl refl (record { sfits = c.from_be_bytes.type_inv }) c.from_be_bytes.ensures (omega arith))

pub returns : goal.returns
returns c =
    let h = word-2 Little c.args.bytes (search rules) in
    rw c.if-big.false (cast-is w16 2 refl refl (record { sfits = c.from_le_bytes.type_inv }) c.from_le_bytes.ensures (omega arith))
