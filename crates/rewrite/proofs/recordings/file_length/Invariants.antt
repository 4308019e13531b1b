-- `rewrite::recordings::file_length` meets its contract. The loop's invariant: the sum is what the header and the recordings that are passed take.
-- Assumes nothing.
use Rattle.descriptions.specs.declared.Places.{Places}
use Rattle.std.proofs.Common.{Option}
use mathlib.Core.Path.{◌≡◌}
use mathlib.Core.List.{List}
use Prim.Native.Nat.{ℕ, ◌+◌, ◌*◌, ◌≤◌}
use Rattle.words.specs.declared.Order.{Order}
use Rattle.rules.specs.declared.Label.{Label}
use Rattle.children.proofs.Again.{Along}
use Rattle.rewrite.specs.RecordingsAnew.{length_anew}
use Rattle.rewrite.proofs.recordings.file_length.Given as goal

pub record Going (o : Order) (label : Label) (file : List ℕ) (count p sum : ℕ) (before : Option Places) (i : ℕ) : Type 0 where
  pub most : sum ≤ 32 + 549755813888 * i
  pub along : Along o label file count p i before (λ done _. sum ≡ length_anew label done)

abbrev pub invariant-loop-i : goal.invariant-loop-i
invariant-loop-i l = Going l.o l.label l.file l.count l.p l.sum l.before l._i
