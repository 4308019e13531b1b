-- `turn::recordings::body` meets its contract. The loop's invariant: the records up to byte p are written. The measure is what is left of the part.
-- Assumes nothing.
use mathlib.Core.Option.{Option}
use mathlib.Core.Path.{◌≡◌}
use Prim.Native.Nat.{ℕ, ◌+◌, ◌-◌, ◌≤◌}
use lib.ListN.{length}
use Rattle.walk.specs.See.{goes, see}
use Rattle.rules.specs.Rules.{Held, Head, Placed, span, recording_body}
use Rattle.records.specs.Says.{ChannelsStand}
use Rattle.children.specs.Children.{known_of}
use Rattle.bodies.specs.Copy.{copy}
use Rattle.turn.proofs.Sent.{SentUpTo}
use Rattle.turn.proofs.recordings.body.Given as goal

abbrev pub invariant-loop-h : goal.invariant-loop-h
invariant-loop-h l = (l.p ≤ length l.s) × (l.next ≤ length l.out) × (length l.out ≡ length l.initial.out) ×
    ((held : Option Held) (h : Head) (x : Placed) (e : ℕ) → span h ≡ 16 + length l.s → ChannelsStand l.w.from l.file l.cs x.recording.channels →
    see l.w.from l.base l.s l.base (recording_body l.w.label held h) ≡ goes x e →
    SentUpTo l.w l.base l.s (known_of l.w.label x) l.initial.out l.out l.k l.next l.p (copy l.w l.base l.s l.base (recording_body l.w.label held h)))

abbrev pub decreases-loop-h : goal.decreases-loop-h
decreases-loop-h l = length l.s - l.p
