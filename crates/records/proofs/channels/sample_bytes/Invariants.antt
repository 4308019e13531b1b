-- `records::channels::sample_bytes` meets its contract: the channels up to i are summed. Assumes nothing.
use Rattle.rules.specs.Rules as R
use Rattle.records.specs.Says.{Kept}
use Rattle.records.proofs.Steps.{Rest}
use lib.ListN.{length}
use mathlib.Core.List.{List}
use mathlib.Core.Path.{◌≡◌}
use Prim.Native.Nat.{◌-◌, ◌≤◌, ◌+◌, ◌*◌}
use Rattle.records.proofs.channels.sample_bytes.Given as goal

abbrev pub invariant-loop-i : goal.invariant-loop-i
invariant-loop-i l = (l._i ≤ l.m) × (l.p ≡ l.subs + 256 * l._i) × (l.sum ≤ 61847529062400 * l._i) × ((cs : List R.Channel) → length cs ≡ l.m → Kept l.o l.s l.subs cs → Rest l.o l.s l.p l.t (l.m - l._i) l.sum cs)
