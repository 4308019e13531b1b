-- `decode::triple` meets its contract: the bits of its word above an empty byte, moved down.
-- Assumes nothing.
use native.Mathlib.Omega.{arith}
use borrow.Author.Rules.{rules}
use Rattle.words.specs.declared.Order.TheVariants.{Little, Big}
use Rattle.decode.proofs.Casts.{moved-is}
use Rattle.decode.proofs.Places.{word-3}
use Rattle.decode.proofs.triple.Goals as goal

pub returns-then-big : goal.returns-then-big
returns-then-big c =
    let h = word-3 Big c.args.bytes (search rules) in
    rw c.if-big.true (moved-is _ (record { sfits = c.from_be_bytes.type_inv }) c.from_be_bytes.ensures (omega arith))

pub returns : goal.returns
returns c =
    let h = word-3 Little c.args.bytes (search rules) in
    rw c.if-big.false (moved-is _ (record { sfits = c.from_le_bytes.type_inv }) c.from_le_bytes.ensures (omega arith))
