-- `judge::recordings_from` meets its contract. The loop's invariant: the recordings up to i are read, and the walk goes on at byte p.
-- The measure is how many are left. Assumes nothing.
use Rattle.descriptions.specs.declared.Places.{Places}
use Rattle.std.proofs.Common.{Option}
use mathlib.Core.List.{List}
use Prim.Native.Nat.{ℕ, ◌-◌, ◌≤◌}
use lib.ListN.{length}
use Rattle.words.specs.declared.Order.{Order}
use Rattle.rules.specs.declared.Label.{Label}
use Rattle.records.specs.Says.{From}
use Rattle.descriptions.specs.DescriptionsJudged.{HeldWithin}
use Rattle.judge.proofs.Recordings.{Going}
use Rattle.judge.proofs.recordings_from.Given as goal

pub record Read (o : Order) (label : Label) (file : List ℕ) (count p i : ℕ) (before : Option Places) : Type 0 where
  pub few : i ≤ count
  pub place : From 32 (length file) p
  pub held : HeldWithin (length file) before
  pub going : Going o label file count p i before

abbrev pub invariant-loop-i : goal.invariant-loop-i
invariant-loop-i l = Read l.o l.label l.file l.count l.p l.i l.before

abbrev pub decreases-loop-i : goal.decreases-loop-i
decreases-loop-i l = l.count - l.i
