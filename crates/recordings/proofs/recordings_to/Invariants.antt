-- `recordings::recordings_to` meets its contract: each answer of `recording_again` is that of the next recording.
-- Assumes nothing.
use Rattle.std.proofs.Common.{Ok}
use Rattle.recordings.proofs.Reach.{Walked}
use Rattle.recordings.proofs.recordings_to.Given as goal

abbrev pub invariant-loop-i : goal.invariant-loop-i
invariant-loop-i l = Walked l.o l.label l.file l.n l._i (Ok l.places)
