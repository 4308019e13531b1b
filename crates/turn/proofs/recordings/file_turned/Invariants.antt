-- `turn::recordings::file_turned` meets its contract. The loop's invariant: the recordings that are passed stand in the buffer, behind the header.
-- Assumes nothing.
use Rattle.descriptions.specs.declared.Places.{Places}
use Rattle.std.proofs.Common.{Option}
use mathlib.Core.Path.{◌≡◌}
use mathlib.Core.List.{List}
use Prim.Native.Nat.{ℕ, ◌≤◌}
use lib.ListN.{length}
use Rattle.children.proofs.Again.{Along}
use Rattle.bodies.specs.declared.Way.{Way}
use Rattle.turn.proofs.Sent.{AfterHeader, sent_of}
use Rattle.turn.proofs.recordings.file_turned.Given as goal

pub record Going (w : Way) (file : List ℕ) (count : ℕ) (out₀ out : List ℕ) (p : ℕ) (before : Option Places) (i : ℕ) : Type 0 where
  pub room : length file ≤ length out₀
  pub same : length out ≡ length out₀
  pub along : Along w.from w.label file count p i before (λ _ l. AfterHeader out₀ out p (sent_of w l))

abbrev pub invariant-loop-i : goal.invariant-loop-i
invariant-loop-i l = Going l.w l.file l.count l.initial.out l.out l.p l.before l._i
