-- `index::frame_entries` meets its contract, by the laws of Framing.
-- Assumes nothing.
use mathlib.Core.Path.{◌≡◌}
use lib.ListN.{length}
use Rattle.index.proofs.Framing.{Channeled}
use Rattle.index.proofs.frame_entries.Given as goal

abbrev pub invariant-loop-c : goal.invariant-loop-c
invariant-loop-c l =
    Channeled l.o l.file l.q l.c-end l.recording l.frame l.write l.initial.out l.out l.k l.next l.c l.at × (length l.out ≡ length l.initial.out)
