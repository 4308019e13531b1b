-- `turn::frames::frames_body` meets its contract. The loop's invariant: what is written of the body is what stands before the next frame, which is read where
-- it is written.
-- Assumes nothing.
use mathlib.Core.Path.{◌≡◌}
use mathlib.Core.List.{List}
use Prim.Native.Nat.{ℕ, ◌+◌, ◌*◌, ◌≤◌}
use lib.ListN.{length}
use Rattle.words.specs.Numbers.{number_at}
use Rattle.walk.specs.See.{see, goes}
use Rattle.rules.specs.Rules as R
use Rattle.records.specs.Says.{ChannelsStand}
use Rattle.bodies.specs.Copy.{copy}
use Rattle.turn.proofs.Turning.{Framing}
use Rattle.turn.proofs.frames.frames_body.Given as goal

abbrev pub invariant-loop-i : goal.invariant-loop-i
invariant-loop-i l = (l._i ≤ l.count) × (l.k ≡ 16 + l.size * l._i) × (l.k ≤ length l.s) × (length l.d ≡ length l.s) × (l.from ≡ l.k) ×
    ((b : ℕ) (c : R.Basic) (ch : List R.Channel) (hd : R.Head) (f : R.Frames) (e : ℕ) → ChannelsStand l.w.from l.file l.cs ch →
    l.filled ≡ 24 + R.sample_bytes l.t ch →
    number_at l.w.from 4 l.s 0 ≡ l.t → number_at l.w.from 4 l.s 4 ≡ l.size → number_at l.w.from 4 l.s 8 ≡ l.count → R.span hd ≡ 16 + length l.s →
    see l.w.from b l.s b (R.frames_body l.w.label c ch hd) ≡ goes f e →
    Framing l.w b l.s l.d ch l.t l.size l.count (copy l.w b l.s b (R.frames_body l.w.label c ch hd)) l.k l._i)
