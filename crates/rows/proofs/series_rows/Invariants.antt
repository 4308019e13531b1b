-- `rows::series_rows` meets its contract: after i turns the rows of i records are there.
-- Assumes nothing.
use mathlib.Core.Bool.{Bool}
use mathlib.Core.List.{List}
use mathlib.Core.Path.{◌≡◌}
use Prim.Native.Nat.{ℕ, ◌≤◌, ◌+◌, ◌*◌}
use lib.IntN.{ℤ}
use lib.ListN.{length}
use Rattle.rows.specs.Listing.{series_rows, Wrote}
use Rattle.rows.proofs.series_rows.Given as goal

pub record Going (out₀ : List ℤ) (k : ℕ) (write : Bool) (start step code count : ℕ) (out : List ℤ) (at next i : ℕ) : Type 0 where
  pub few : i ≤ count
  pub place : at ≡ start + step * i
  pub low : next ≤ at
  pub wrote : Wrote write out₀ out k next (series_rows i 1 start step code)
  pub same : length out ≡ length out₀

abbrev pub invariant-loop-i : goal.invariant-loop-i
invariant-loop-i l = Going l.initial.out l.k l.write l.start l.step l.code l.count l.out l.at l.next l.i
