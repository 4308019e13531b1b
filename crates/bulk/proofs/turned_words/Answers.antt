-- `bulk::turned_words` meets its contract, by the law of masks.
-- Assumes nothing.
use mathlib.Core.Path.{◌∙◌}
use mathlib.Core.List.{◌++◌}
use lib.ListN.{take, drop}
use Rattle.words.specs.Numbers.{word}
use Rattle.words.proofs.Words.{bytes, bytes_take, bytes_drop}
use Rattle.bulk.proofs.Masks.{woven-bytes, first, second, third, eight-turned}
use Rattle.bulk.proofs.turned_words.Goals as goal

pub returns : goal.returns
unfolding word
returns c =
    let s = c.args.s.now in
    let b = bytes s (λ i. (c.type_inv.s i).fits) in
    let x = woven-bytes first (take 12 s) _ (bytes_take 12 s b) c.woven-a.ensures in
    let y = woven-bytes second (take 12 (drop 8 s)) _ (bytes_take 12 (drop 8 s) (bytes_drop 8 s b)) c.woven-b.ensures in
    let z = woven-bytes third (take 12 (drop 16 s)) _ (bytes_take 12 (drop 16 s) (bytes_drop 16 s b)) c.woven-c.ensures in
    (λ i. (x i ++ y i) ++ z i) ∙ eight-turned s c.requires
