-- `records::channels::shape_of` meets its contract: a test for each field. Assumes nothing.
use mathlib.Core.Path.{refl}
use Rattle.records.specs.Says.{shape_of}
use Rattle.records.proofs.channels.shape_of.Goals as goal

pub returns : goal.returns
unfolding shape_of
returns c = refl
