-- `bulk::sixteen_of_3` meets its contract: two blocks of eight.
-- Assumes nothing.
use mathlib.Core.Path.{refl, ap₂, ◌∙◌}
use mathlib.Core.List.{[], ◌++◌}
use native.Mathlib.Omega.{arith}
use Rattle.words.specs.Numbers.{bytes_of}
use Rattle.words.proofs.Fronts.{begun, begun_more}
use Rattle.bulk.proofs.Blocks.{begun_all}
use Rattle.bulk.proofs.Masks.{sixteen-turned}
use Rattle.bulk.proofs.sixteen_of_3.Goals as goal

pub returns : goal.returns
unfolding bytes_of
returns c =
    begun_all
    (begun_more _ 24 24 _ _ [] c.put_words-2.ensures refl (omega arith) (begun_more c.args.d.now 0 24 _ _ _ c.put_words.ensures refl (omega arith) (begun _ c.requires.room)))
    (omega arith)
    ∙ (ap₂ ◌++◌ c.turned_words-v.ensures c.turned_words-w.ensures ∙ sixteen-turned c.args.s.now c.requires.source)
