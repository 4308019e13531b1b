-- `bulk::put_words` meets its contract: three parts, one behind the other.
-- Assumes nothing.
use mathlib.Core.Path.{refl, ◌∙◌}
use mathlib.Core.List.{[]}
use native.Mathlib.Omega.{arith}
use Rattle.words.specs.Numbers.{bytes_of}
use Rattle.words.proofs.Fronts.{begun, begun_more}
use Rattle.bulk.proofs.Blocks.{eight-written, begun_all}
use Rattle.bulk.proofs.put_words.Goals as goal

pub returns : goal.returns
unfolding bytes_of
returns c =
    let w = c.args.w in
    let x = c.copy_from_slice.ensures.after ∙ (c.to_le_bytes.ensures ∙ eight-written w.a) in
    let y = c.copy_from_slice-2.ensures.after ∙ (c.to_le_bytes-2.ensures ∙ eight-written w.b) in
    let z = c.copy_from_slice-3.ensures.after ∙ (c.to_le_bytes-3.ensures ∙ eight-written w.c) in
    begun_all
    (begun_more _ 16 8 _ _ [] z refl (omega arith)
    (begun_more _ 8 8 _ _ _ y refl (omega arith) (begun_more c.args.d.now 0 8 _ _ _ x refl (omega arith) (begun _ c.requires))))
    (omega arith)
