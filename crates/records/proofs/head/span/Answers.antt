-- `records::head::span` meets its contract: the size, or its product with the multiplier, which is short. Assumes nothing.
use Rattle.records.proofs.Facts.{length_none, length-times, length-short}
use Prim.Native.Nat.{◌*◌, ◌<◌}
use native.Mathlib.Omega.{arith}
use Rattle.records.proofs.head.span.Goals as goal

-- the product is short
short : (c : goal.After-struct_known-3-1) →
    let h = c.args.h in
    h.size * h.multiplier < 274877906945
short c = length-short _ _ c.requires.small c.requires.few

pub returns-then-h-eq0 : goal.returns-then-h-eq0
returns-then-h-eq0 c = (length_none _ _ c.if-h-eq0.true, omega arith)

pub returns : goal.returns
returns c = (length-times _ _ c.if-h-eq0.false, short c)
