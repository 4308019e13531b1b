-- `bodies::items_body` meets its contract: after each turn what stands before p is written, and the walk goes on from p with the items that are left.
-- Assumes nothing.
use mathlib.Core.Path.{◌≡◌}
use mathlib.Core.Bool.{Bool}
use mathlib.Core.List.{List}
use Prim.Native.Nat.{ℕ, ◌+◌, ◌-◌, ◌≤◌}
use lib.ListN.{length}
use Rattle.walk.specs.See.{see, goes}
use Rattle.rules.specs.Rules.{Item, items_body}
use Rattle.bodies.proofs.Filling.{Items}
use Rattle.bodies.proofs.items_body.Given as goal

abbrev pub invariant-loop-i : goal.invariant-loop-i
invariant-loop-i m =
    (m._i ≤ m.count) × (m.p ≤ length m.s) × (length m.d ≡ length m.s) ×
    ((b : ℕ) (ok : ℕ → Bool) (l : List Item) (e : ℕ) → see m.w.from b m.s b (items_body ok (16 + length m.s)) ≡ goes l e →
    Items m.w b m.s ok (m.count - m._i) m.p m.d)
