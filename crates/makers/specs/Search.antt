-- What the search for the first maker's record says.
-- Assumes nothing.
use Rattle.std.specs.Prelude.{Some, None}
use Rattle.std.specs.Prelude as Std
use Rattle.std.specs.Prelude.{◌≡◌, List, ℕ, ◌≤◌, length}
use Rattle.std.proofs.Math.Option.{Option, none, some}
use Rattle.words.specs.declared.Order.{Order}
use Rattle.walk.specs.Walk.{Row}
use Rattle.children.specs.Recordings.{OfRecording}
use Rattle.makers.specs.declared.Searched.{Searched}
use Rattle.makers.specs.Makers.{first_maker}

abbrev pub found : Std.Option ℕ → Option ℕ
found (Some p) = some p
found None = none

-- the search found the first of these rows
abbrev pub First : Std.Option ℕ → List Row → Type 0
First r rs = found r ≡ first_maker rs

-- the search in the recording from byte p of the file s on
pub record SearchedAs (o : Order) (s : List ℕ) (p : ℕ) (r : Searched) : Type 0 where
  pub on : p ≤ r.end
  pub inside : r.end ≤ length s
  pub first : OfRecording o s p r.end (First r.found)
