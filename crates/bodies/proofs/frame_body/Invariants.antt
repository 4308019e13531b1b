-- `bodies::frame_body` meets its contract: the samples stand as they are, or are one run; or after each turn what stands before p is written, and the
-- channels that are left stand in the file from q on.
-- Assumes nothing.
use mathlib.Core.Path.{◌≡◌}
use mathlib.Core.List.{List}
use Prim.Native.Nat.{ℕ, ◌+◌, ◌*◌, ◌-◌, ◌≤◌}
use lib.ListN.{length}
use Rattle.rules.specs.Rules.{Channel, sample_bytes}
use Rattle.records.specs.Says.{Kept}
use Rattle.bodies.proofs.Filling.{Samples}
use Rattle.bodies.proofs.frame_body.Given as goal

abbrev pub invariant-loop-i : goal.invariant-loop-i
invariant-loop-i l =
    (l._i ≤ l.fn.cs.count) × (l.q ≡ l.fn.cs.subs + 256 * l._i) × (l.p ≤ length l.s) × (length l.d ≡ length l.s) ×
    ((b : ℕ) (ch : List Channel) → length ch ≡ l.fn.cs.count → Kept l.w.from l.file l.fn.cs.subs ch →
    length l.s ≡ 8 + sample_bytes l.t ch → Samples l.w l.file l.t b l.s ch (l.fn.cs.count - l._i) l.q l.p l.d)
