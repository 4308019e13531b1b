-- `makers::in_body` meets its contract. The loop's invariant: the first of the body is the first from byte p on. The measure is what is left of the part.
-- Assumes nothing.
use mathlib.Core.List.{List}
use Prim.Native.Nat.{ℕ, ◌-◌, ◌≤◌}
use lib.ListN.{length}
use Rattle.words.specs.declared.Order.{Order}
use Rattle.children.specs.Recordings.{OfBody}
use Rattle.makers.specs.Makers.{first_maker}
use Rattle.makers.proofs.Search.{Sought}
use Rattle.makers.proofs.in_body.Given as goal

pub record Going (o : Order) (s : List ℕ) (base p : ℕ) : Type 0 where
  pub inside : p ≤ length s
  pub sought : OfBody o base s (λ rs. Sought o base s p (first_maker rs))

abbrev pub invariant-loop-h : goal.invariant-loop-h
invariant-loop-h l = Going l.o l.s l.base l.p

abbrev pub decreases-loop-h : goal.decreases-loop-h
decreases-loop-h l = length l.s - l.p
