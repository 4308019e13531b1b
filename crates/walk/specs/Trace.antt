-- The events of a walk over a part of the file, for code that writes what it reads: no test, and no test of room.
-- Assumes nothing.
use Rattle.std.specs.Prelude.{Bool, List, [], ◌∷◌, ℕ, ◌+◌, ◌-◌}
use Rattle.words.specs.Numbers.{bytes_at, number_at}
use Rattle.words.specs.declared.Order.{Order}
use Rattle.walk.specs.Walk.{laid, Event, numeral, piece, blank, row, render, cleared, Walk, give, refuse, check, number, read, skip, list, pick}

-- the events that the walk comes to from the position at, over the part s of the file, which stands at b
unfoldable pub trace : {A : Type 0} → Order → ℕ → List ℕ → ℕ → Walk A → List Event
trace o b s at (give a) = []
trace o b s at (refuse n p) = []
trace o b s at (check c n p w) = trace o b s at w
trace o b s at (number n f) = numeral n (number_at o n s (at - b)) ∷ trace o b s (at + n) (f (number_at o n s (at - b)))
trace o b s at (read k n f) = piece k (laid o k (bytes_at n s (at - b))) ∷ trace o b s (at + n) (f (laid o k (bytes_at n s (at - b))))
trace o b s at (skip n w) = blank (bytes_at n s (at - b)) ∷ trace o b s (at + n) w
trace o b s at (list p l c m w) = row p l c m ∷ trace o b s at w

-- events written in an order: the bytes that are not judged stand, or are zero
abbrev pub written : Bool → Order → List Event → List ℕ
written keep o t = render o (pick keep t (cleared t))
