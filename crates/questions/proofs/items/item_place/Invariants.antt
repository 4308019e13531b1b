-- `questions::items::item_place` meets its contract: after each turn p is the place of the item i places behind the first, in each list that the walk passes there.
-- Assumes nothing.
use Prim.Native.Nat.{◌≤◌}
use lib.ListN.{length}
use Rattle.questions.specs.Holding.{ReachesTo}
use Rattle.questions.proofs.items.item_place.Given as goal

abbrev pub invariant-loop-i : goal.invariant-loop-i
invariant-loop-i l = (l.p ≤ length l.s) × (l._i ≤ l.n) × ReachesTo l.o l.s l.first l.n l._i l.p
