-- The table's rows that a walk lists over a part of the file, for code that writes them by position.
-- Assumes nothing.
use Rattle.std.specs.Prelude.{List, [], ◌∷◌, ℕ, ◌+◌, ◌-◌}
use Rattle.words.specs.Numbers.{bytes_at, number_at}
use Rattle.words.specs.declared.Order.{Order}
use Rattle.walk.specs.Walk.{laid, Row, Walk, give, refuse, check, number, read, skip, list, pick}

-- the rows that the walk lists from the position at, over the part s of the file, which stands at b
unfoldable pub tell : {A : Type 0} → Order → ℕ → List ℕ → ℕ → Walk A → List Row
tell o b s at (give a) = []
tell o b s at (refuse n p) = []
tell o b s at (check c n p w) = pick c (tell o b s at w) []
tell o b s at (number n f) = tell o b s (at + n) (f (number_at o n s (at - b)))
tell o b s at (read k n f) = tell o b s (at + n) (f (laid o k (bytes_at n s (at - b))))
tell o b s at (skip n w) = tell o b s (at + n) w
tell o b s at (list p l c m w) = record { start = at - p; size = l; code = c; serial = m } ∷ tell o b s at w
