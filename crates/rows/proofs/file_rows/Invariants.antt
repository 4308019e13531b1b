-- `rows::file_rows` meets its contract. The loop's invariant: what is listed of all recordings is what was written, and what the rest lists.
-- The measure is how many recordings are left. Assumes nothing.
use mathlib.Core.Bool.{Bool}
use mathlib.Core.Path.{◌≡◌}
use mathlib.Core.List.{List}
use Prim.Native.Nat.{ℕ, ◌≤◌}
use lib.IntN.{ℤ}
use lib.ListN.{length}
use Rattle.words.specs.declared.Order.{Order}
use Rattle.rules.specs.Rules.{Placed}
use Rattle.rules.specs.declared.Label.{Label}
use Rattle.children.specs.Recordings.{ReadAs}
use Rattle.children.proofs.Recordings.{Sofar}
use Rattle.rows.proofs.Recorded.{Listed}
use Rattle.rows.proofs.file_rows.Given as goal

pub record Going (o : Order) (file : List ℕ) (count : ℕ) (out₀ : List ℤ) (write : Bool) (out : List ℤ) (at k i : ℕ) : Type 0 where
  pub few : i ≤ count
  pub inside : at ≤ length file
  pub reaches : k ≤ at
  pub same : length out ≡ length out₀
  pub listed : (label : Label) (ps : List Placed) (e : ℕ) → ReadAs o label file count ps e → Sofar o label file count ps at i (Listed write out₀ out k)

abbrev pub invariant-loop-i : goal.invariant-loop-i
invariant-loop-i l = Going l.o l.file l.count l.initial.out l.write l.out l.at l.k l._i
