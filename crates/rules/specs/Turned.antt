-- A file turned to the other byte order.
-- Assumes nothing.
use Rattle.std.specs.Prelude.{List, [], ◌∷◌, ◌++◌, map, reverse, ℕ, length, take, drop}
use Rattle.words.specs.Numbers.{other}
use Rattle.walk.specs.Walk.{Kind, Letter, Text, Padding, swap, Event, numeral, piece, blank, row, refused, passed, render}
use Rattle.rules.specs.Rules.{order_of, judge}

-- the same events, in the other order
unfoldable pub turned : List ℕ → List ℕ
turned s = elim (judge s) [ refused n p ↦ s | passed v r t ↦ render (other (order_of s)) t ]

-- The same, said of bytes: each number is reversed, the letter is changed, and every other byte stands
unfoldable pub flipped_piece : Kind → List ℕ → List ℕ
flipped_piece Letter s = map swap s
flipped_piece Text s = s
flipped_piece Padding s = s

unfoldable pub flipped : List Event → List ℕ → List ℕ
flipped [] s = []
flipped (numeral n v ∷ t) s = reverse (take n s) ++ flipped t (drop n s)
flipped (piece k bs ∷ t) s = flipped_piece k (take (length bs) s) ++ flipped t (drop (length bs) s)
flipped (blank bs ∷ t) s = take (length bs) s ++ flipped t (drop (length bs) s)
flipped (row p l c m ∷ t) s = flipped t s
