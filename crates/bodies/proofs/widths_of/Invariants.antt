-- `bodies::widths_of` meets its contract: whether all channels have the width of the first is whether those have it that are left.
-- Assumes nothing.
use mathlib.Core.Path.{◌≡◌}
use Prim.Native.Nat.{◌+◌, ◌*◌, ◌-◌, ◌≤◌, ◌<◌}
use Rattle.words.specs.Numbers.{number_at}
use Rattle.rules.specs.Rules as R
use Rattle.bodies.specs.Copy.{all_wide}
use Rattle.bodies.proofs.widths_of.Given as goal

abbrev pub invariant-loop-i : goal.invariant-loop-i
invariant-loop-i l =
    (l._i ≤ l.fn.cs.count) × (0 < l.fn.cs.count) × (l.sub ≡ l.fn.cs.subs + 256 * l._i) ×
    (l.width ≡ R.width (number_at l.o 4 l.file (l.fn.cs.subs + 28))) ×
    (all_wide l.o l.file l.fn.cs.subs l.fn.cs.count l.width ≡ all_wide l.o l.file l.sub (l.fn.cs.count - l._i) l.width)
