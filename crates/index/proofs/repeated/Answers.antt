-- `index::repeated` meets its contract: eights of samples, and then one at a time.
-- Assumes nothing.
use native.Mathlib.Omega.{arith}
use Rattle.words.proofs.Words.{bytes}
use Rattle.index.proofs.Pairs.{same_code}
use Rattle.index.proofs.repeated.Goals as goal

pub loop-i-init : goal.loop-i-init
loop-i-init c =
    same_code (bytes c.args.s.now (λ i. omega (arith, c.type_inv.s i))) c.requires.long c.requires.small (rw c.pair_of.ensures at c.same_eights-i.ensures)
