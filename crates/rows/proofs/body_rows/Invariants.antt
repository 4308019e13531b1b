-- `rows::body_rows` meets its contract. The loop's invariant: the rows up to byte p are written. The measure is what is left of the part.
-- Assumes nothing.
use mathlib.Core.Bool.{Bool}
use mathlib.Core.List.{List}
use mathlib.Core.Path.{◌≡◌}
use Prim.Native.Nat.{ℕ, ◌+◌, ◌-◌, ◌≤◌}
use lib.IntN.{ℤ}
use lib.ListN.{length}
use Rattle.words.specs.declared.Order.{Order}
use Rattle.children.specs.Recordings.{OfBody}
use Rattle.rows.proofs.Body.{Listed}
use Rattle.rows.proofs.body_rows.Given as goal

pub record Going (o : Order) (s : List ℕ) (base : ℕ) (out₀ : List ℤ) (k : ℕ) (write : Bool) (out : List ℤ) (p next : ℕ) : Type 0 where
  pub inside : p ≤ length s
  pub reaches : next ≤ base + p
  pub same : length out ≡ length out₀
  pub listed : OfBody o base s (Listed o base s write out₀ out k next p)

abbrev pub invariant-loop-h : goal.invariant-loop-h
invariant-loop-h l = Going l.o l.s l.base l.initial.out l.k l.write l.out l.p l.next

abbrev pub decreases-loop-h : goal.decreases-loop-h
decreases-loop-h l = length l.s - l.p
