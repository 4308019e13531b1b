-- The text of a listing: a line for each row, of its four numbers, or the refusal's line; by the rules' outcome for the file.
-- Assumes nothing.
use Rattle.std.specs.Fmt.{decimal, signed_decimal}
use Rattle.std.specs.Prelude.{List, [], ◌∷◌, ◌++◌, ℕ, zero, suc, ◌+◌, ◌*◌, ℤ, pos, codes, drop, get_or, leb, length}
use Rattle.words.specs.Values.{signed}
use Rattle.walk.specs.Walk as W
use Rattle.walk.specs.Walk.{pick, Row, Outcome, refused, passed}
use Rattle.rules.specs.Rules as R

-- four numbers, a space between two of them, and the line's end
abbrev pub line : ℤ → ℤ → ℤ → ℤ → List ℕ
line a b c d = signed_decimal a ++ codes " " ++ signed_decimal b ++ codes " " ++ signed_decimal c ++ codes " " ++ signed_decimal d ++ codes "\n"

-- position, length, code, serial
abbrev pub line_of : Row → List ℕ
line_of r = line (pos r.start) (pos r.size) (pos r.code) (signed 4 r.serial)

unfoldable pub lines : List Row → List ℕ
lines [] = []
lines (r ∷ rs) = line_of r ++ lines rs

abbrev pub refusal_line : ℕ → ℕ → List ℕ
refusal_line n p = codes "refused " ++ decimal n ++ codes " at " ++ decimal p ++ codes "\n"

-- the rows of a file that has at most 2,048, else refusal 17 of the table
abbrev pub shown : List Row → List ℕ
shown rs = pick (leb (4 * length rs) 8192) (lines rs) (refusal_line 17 (4 * length rs))

abbrev pub told : Outcome R.File → List ℕ
told (refused n p) = refusal_line n p
told (passed v r t) = shown (W.rows 0 t)

-- what is printed of the file s
abbrev pub listing_of : List ℕ → List ℕ
listing_of s = told (R.judge s)

-- what is printed of an input that has s
abbrev pub printed_of : List ℕ → List ℕ
printed_of s = pick (leb (length s) 32768) (listing_of s) (refusal_line 17 32768)

-- the line of the four numbers in xs from index k on
abbrev pub line_at : List ℤ → ℕ → List ℕ
line_at xs k = line (get_or xs k (pos 0)) (get_or xs (k + 1) (pos 0)) (get_or xs (k + 2) (pos 0)) (get_or xs (k + 3) (pos 0))

-- the lines of the n rows whose numbers xs begins with
unfoldable pub lines_in : ℕ → List ℤ → List ℕ
lines_in zero xs = []
lines_in (suc n) xs = line_at xs 0 ++ lines_in n (drop 4 xs)
