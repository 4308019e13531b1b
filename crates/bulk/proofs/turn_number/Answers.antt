-- `bulk::turn_number` meets its contract, by the law of a number that is turned.
-- Assumes nothing.
use mathlib.Core.Path.{ap, ◌∙◌}
use Rattle.words.specs.Numbers.{bytes_in}
use Rattle.words.specs.declared.Order.TheVariants.{Big}
use Rattle.words.proofs.Words.{bytes}
use Rattle.bulk.proofs.Blocks.{one-turned}
use Rattle.bulk.proofs.turn_number.Goals as goal

pub returns : goal.returns
returns g c =
    let s = c.args.s.now in
    let b = bytes s (λ i. (c.type_inv.s i).fits) in
    c.put.ensures ∙ (ap (bytes_in Big g.row.W) c.number.ensures.0 ∙ one-turned g.row.W s c.requires.run.source b)
