-- `index::sample_entries` meets its contract, by the laws of Sampling.
-- Assumes nothing.
use mathlib.Core.Path.{◌≡◌}
use Prim.Native.Nat.{◌-◌}
use lib.ListN.{length}
use Rattle.index.specs.Listing.{samples_of}
use Rattle.index.proofs.Sampling.{Sampled}
use Rattle.index.proofs.sample_entries.Given as goal

abbrev pub invariant-loop-p : goal.invariant-loop-p
invariant-loop-p l = Sampled l.o l.s l.before l.spot l.write l.initial.out l.out l.k l.next l.p l.code × (length l.out ≡ length l.initial.out)

abbrev pub decreases-loop-p : goal.decreases-loop-p
decreases-loop-p l = samples_of l.s - l.p
