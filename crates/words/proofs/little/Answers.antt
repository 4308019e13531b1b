-- `words::little` meets its contract: its bytes, with zeros behind them, are those of a number of four.
-- Assumes nothing.
use mathlib.Core.Path.{refl}
use Rattle.words.specs.declared.Order.TheVariants.{Little}
use Rattle.words.proofs.Fours.{number-little}
use Rattle.words.proofs.little.Goals as goal

pub returns : goal.returns
returns g c =
    let q = c.requires in
    number-little Little g.row.W c.args.s.now _ c.args.at _ q.width q.within (λ i. (c.type_inv.s i).fits) c.copy_from_slice.ensures.after refl c.from_le_bytes.ensures
