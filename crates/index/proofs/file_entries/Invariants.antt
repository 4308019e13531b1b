-- `index::file_entries` meets its contract, by the laws of Recorded.
-- Assumes nothing.
use mathlib.Core.Path.{◌≡◌}
use lib.ListN.{length}
use Rattle.index.proofs.Recorded.{Filed}
use Rattle.index.proofs.file_entries.Given as goal

abbrev pub invariant-loop-i : goal.invariant-loop-i
invariant-loop-i l = Filed l.o l.label l.file l.count l.write l.initial.out l.out l.k l.at l.i l.before × (length l.out ≡ length l.initial.out)
