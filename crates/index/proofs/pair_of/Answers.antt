-- `index::pair_of` meets its contract, case by case.
-- Assumes nothing.
use native.Mathlib.Omega.{arith}
use Rattle.index.specs.Listing.{pair_of}
use Rattle.index.proofs.pair_of.Goals as goal

pub returns-in-Little : goal.returns-in-Little
unfolding pair_of
returns-in-Little c = rw c.in-Little.is

pub returns-in-Big : goal.returns-in-Big
unfolding pair_of
returns-in-Big c = rw (c.in-Big.is, c.swap_bytes.ensures) (omega (arith, c.requires))
