-- The table's numbers, and what a buffer holds when rows were written into it.
-- Assumes nothing.
use Rattle.std.specs.Prelude.{Bool, List, [], ◌∷◌, ℕ, ℤ, pos}
use Rattle.words.specs.Lent as Lent
use Rattle.words.specs.Values.{signed}
use Rattle.walk.specs.Walk.{Row}

-- the four signed numbers of a row: position, length, code, serial
abbrev pub numbers : Row → List ℤ
numbers r = pos r.start ∷ pos r.size ∷ pos r.code ∷ signed 4 r.serial ∷ []

abbrev pub flat : List Row → List ℤ
flat = Lent.flat numbers

-- the buffer with the rows from index k on, or as it was where they are only counted
abbrev pub written : Bool → List ℤ → ℕ → List Row → List ℤ
written = Lent.written numbers 4
