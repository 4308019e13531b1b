-- `rewrite::recordings::body` meets its contract. The loop's invariant: the records up to byte p are written, and take the first k bytes.
-- The measure is what is left of the part.
-- Assumes nothing.
use mathlib.Core.Path.{◌≡◌}
use Prim.Native.Nat.{◌-◌, ◌≤◌}
use lib.ListN.{length}
use Rattle.rules.specs.Rules.{Placed}
use Rattle.rewrite.specs.FramesAnew.{BodyMeasured}
use Rattle.rewrite.proofs.Bodied.{RenewedUpTo}
use Rattle.rewrite.proofs.recordings.body.Given as goal

abbrev pub invariant-loop-h : goal.invariant-loop-h
invariant-loop-h l = (l.p ≤ length l.s) × (l.k ≤ length l.d) × (length l.d ≡ length l.initial.d) × ((x : Placed) →
    BodyMeasured l.w l.file l.s l.cs l.f l.base x → RenewedUpTo l.w l.base l.s x l.initial.d l.d l.k l.p)

abbrev pub decreases-loop-h : goal.decreases-loop-h
decreases-loop-h l = length l.s - l.p
