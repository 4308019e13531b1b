-- `records::items::items_from` meets its contract: the items up to i are passed. Assumes nothing.
use Rattle.walk.specs.See.{see, ends}
use Rattle.rules.specs.Rules.{item_list}
use Rattle.records.specs.Says.{ok_of}
use lib.ListN.{length}
use mathlib.Core.Path.{◌≡◌}
use Prim.Native.Nat.{◌-◌, ◌≤◌, ◌+◌}
use Rattle.records.proofs.items.items_from.Given as goal

abbrev pub invariant-loop-i : goal.invariant-loop-i
invariant-loop-i l = (l.i ≤ l.count) × (l.from ≤ l.p) × (l.p ≤ length l.s) × (ends (see l.o l.base l.s (l.base + l.from) (item_list (ok_of l.k) l.count (length l.s - l.from))) ≡ ends (see l.o l.base l.s (l.base + l.p) (item_list (ok_of l.k) (l.count - l.i) (length l.s - l.p))))

abbrev pub decreases-loop-i : goal.decreases-loop-i
decreases-loop-i l = l.count - l.i
