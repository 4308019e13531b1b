-- `decode::triples` meets its contract, by the laws of a decoding loop.
-- Assumes nothing.
use mathlib.Core.Path.{◌∙◌}
use native.Mathlib.Omega.{arith}
use borrow.Author.Rules.{rules}
use mir.Facts.{to_z-of_z}
use mir.Syntax.{w32, w64}
use Rattle.decode.proofs.Loops.{decoding-none, decoding-more, decoding-all}
use Rattle.decode.proofs.triples.Goals as goal

pub loop-i-init : goal.loop-i-init
loop-i-init c = decoding-none c.requires

pub loop-i-preserved : goal.loop-i-preserved
loop-i-preserved c =
    let is = to_z-of_z {w = w32} (record { sfits = c.triple_at.type_inv }) ∙ c.triple_at.ensures in
    decoding-more c.loop-i.invariant _ _ (search rules) (omega arith) (to_z-of_z {w = w64} (record { sfits = c.from.type_inv }) ∙ (c.from.ensures ∙ is))

pub returns : goal.returns
returns c = decoding-all c.loop-i.invariant (omega arith)
