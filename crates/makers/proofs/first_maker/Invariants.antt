-- `makers::first_maker` meets its contract. The loop's invariant: the first of all recordings is the first of those that are left.
-- Assumes nothing.
use mathlib.Core.List.{List}
use Prim.Native.Nat.{ℕ, ◌≤◌}
use lib.ListN.{length}
use Rattle.words.specs.declared.Order.{Order}
use Rattle.rules.specs.Rules.{Placed}
use Rattle.rules.specs.declared.Label.{Label}
use Rattle.children.specs.Recordings.{ReadAs}
use Rattle.children.proofs.Recordings.{Sofar}
use Rattle.makers.proofs.Recorded.{Clear}
use Rattle.makers.proofs.first_maker.Given as goal

pub record Going (o : Order) (file : List ℕ) (count p i : ℕ) : Type 0 where
  pub few : i ≤ count
  pub inside : p ≤ length file
  pub clear : (label : Label) (ps : List Placed) (e : ℕ) → ReadAs o label file count ps e → Sofar o label file count ps p i Clear

abbrev pub invariant-loop-i : goal.invariant-loop-i
invariant-loop-i l = Going l.o l.file l.count l.p l._i
