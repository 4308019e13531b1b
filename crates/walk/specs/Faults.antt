-- Tests that fail on what was read: the places, which of them is the refusal, and that they stand in file order.
-- Assumes nothing.
use Rattle.std.specs.Prelude.{List, [], ◌∷◌, ℕ, suc, ◌≤◌}
use Rattle.walk.specs.Walk.{Event, numeral, piece, blank, row, Outcome, refused}

-- a test that fails: the refusal's number and position
pub record Fault : Type 0 where
  pub number : ℕ
  pub place : ℕ

-- the first of them is the refusal
abbrev pub first : {A : Type 0} → List Fault → Outcome A → Outcome A
first [] x = x
first (f ∷ fs) x = refused f.number f.place

-- faults at rising places, from `low` on and before `high`
abbrev pub Rising : ℕ → List Fault → ℕ → Type 0
Rising low [] high = low ≤ high
Rising low (f ∷ fs) high = (low ≤ f.place) × Rising (suc f.place) fs high

-- the bytes that were read first
abbrev pub piece_of : List Event → List ℕ
piece_of [] = []
piece_of (numeral n v ∷ t) = []
piece_of (piece k bs ∷ t) = bs
piece_of (blank bs ∷ t) = []
piece_of (row p l c s ∷ t) = []

-- the events behind the first
abbrev pub behind : List Event → List Event
behind [] = []
behind (v ∷ t) = t
