-- `index::recording_entries` meets its contract, by the laws of Recorded.
-- Assumes nothing.
use mathlib.Core.Path.{◌≡◌}
use lib.ListN.{length}
use Rattle.index.proofs.Recorded.{Framed}
use Rattle.index.proofs.recording_entries.Given as goal

abbrev pub invariant-loop-j : goal.invariant-loop-j
invariant-loop-j l = Framed l.o l.file l.q l.recording l.write l.initial.out l.out l.k l.next l.j × (length l.out ≡ length l.initial.out)
