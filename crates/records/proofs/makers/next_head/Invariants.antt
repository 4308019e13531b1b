-- `records::makers::next_head` meets its contract: the makers' records up to p are passed. Assumes nothing.
use Rattle.records.proofs.Laws.{Fueled}
use lib.ListN.{length}
use Prim.Native.Nat.{ℕ, ◌-◌, ◌≤◌, ◌<◌, ◌+◌}
use Rattle.records.proofs.makers.next_head.Given as goal

abbrev pub invariant-loop-h : goal.invariant-loop-h
invariant-loop-h l = (l.from ≤ l.p) × (l.p ≤ length l.s) × ((fuel : ℕ) → length l.s < l.from + fuel → Fueled l.o l.label l.base l.s l.from l.p fuel)

abbrev pub decreases-loop-h : goal.decreases-loop-h
decreases-loop-h l = length l.s - l.p
