-- `header::count_of` meets its contract. The loop's invariant: the value so far is that of the digits passed. The measure is how many bytes are left. Assumes nothing.
use mathlib.Core.Path.{◌≡◌}
use Prim.Native.Nat.{◌^◌, ◌<◌}
use lib.ListN.{drop}
use Rattle.rules.specs.Rules.{decimal, count_of, count_is}
use Rattle.header.proofs.count_of.Given as goal

-- the value of the first i bytes, all digits, and what the count comes to from there on
abbrev pub invariant-loop-i : goal.invariant-loop-i
invariant-loop-i l = (l.value < 10 ^ l.i) × (count_is (count_of l.s) ≡ count_is (decimal l.value (drop l.i l.s)))
