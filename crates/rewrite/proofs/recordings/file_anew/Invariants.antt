-- `rewrite::recordings::file_anew` meets its contract. The loop's invariant: behind the header stands the canonical form of the recordings that are passed.
-- Assumes nothing.
use Rattle.descriptions.specs.declared.Places.{Places}
use Rattle.std.proofs.Common.{Option}
use mathlib.Core.Path.{◌≡◌}
use mathlib.Core.List.{List}
use Prim.Native.Nat.{ℕ, ◌≤◌}
use lib.ListN.{length}
use Rattle.walk.specs.Walk.{render}
use Rattle.children.proofs.Again.{Along}
use Rattle.bodies.specs.declared.Way.{Way}
use Rattle.turn.proofs.Sent.{AfterHeader}
use Rattle.rewrite.proofs.Files.{events_of}
use Rattle.rewrite.proofs.recordings.file_anew.Given as goal

pub record Going (w : Way) (file : List ℕ) (count : ℕ) (out₀ out : List ℕ) (p k : ℕ) (before : Option Places) (i : ℕ) : Type 0 where
  pub fits : k ≤ length out₀
  pub same : length out ≡ length out₀
  pub along : Along w.from w.label file count p i before (λ done _. AfterHeader out₀ out k (render w.to (events_of w.label 1 done)))

abbrev pub invariant-loop-i : goal.invariant-loop-i
invariant-loop-i l = Going l.w l.file l.count l.initial.out l.out l.p l.k l.before l.i
