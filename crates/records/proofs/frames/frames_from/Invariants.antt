-- `records::frames::frames_from` meets its contract: the frames up to i are passed. Assumes nothing.
use Rattle.walk.specs.See.{see, ends}
use Rattle.rules.specs.Rules.{Channel, frame, sample_bytes, series}
use lib.ListN.{length}
use mathlib.Core.List.{List}
use mathlib.Core.Path.{◌≡◌}
use Prim.Native.Nat.{ℕ, ◌-◌, ◌≤◌, ◌+◌, ◌*◌}
use Rattle.records.proofs.frames.frames_from.Given as goal

abbrev pub invariant-loop-i : goal.invariant-loop-i
invariant-loop-i l = (l.i ≤ l.count) × (l.p ≡ l.from + l.size * l.i) × (l.p ≤ length l.s) × ((t : ℕ) (cs : List Channel) → l.filled ≡ 24 + sample_bytes t cs → ends (see l.o l.base l.s (l.base + l.from) (series l.count 1 l.size (length l.s - l.from) (frame l.label l.size t cs))) ≡ ends (see l.o l.base l.s (l.base + l.p) (series (l.count - l.i) (l.i + 1) l.size (length l.s - l.p) (frame l.label l.size t cs))))

abbrev pub decreases-loop-i : goal.decreases-loop-i
decreases-loop-i l = l.count - l.i
