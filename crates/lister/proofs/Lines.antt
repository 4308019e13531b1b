-- The lines of rows whose numbers stand in a list, one behind the other.
-- Assumes nothing.
use Rattle.std.proofs.Common.{◌≡◌, ℕ, zero, suc, ◌+◌, ◌*◌, List, [], ◌∷◌, ◌++◌, ℤ, pos, refl, sym, ap, ◌∙◌, arith, get_or, drop, length, append_assoc, append-nil}
use Rattle.std.proofs.lemmas.List.{get_or-drop}
use Rattle.walk.specs.Walk.{Row}
use Rattle.rows.specs.Rows.{flat}
use Rattle.words.specs.Lent as Lent
use Rattle.lister.specs.Listing.{line_at, line_of, lines, lines_in}

behind : (xs : List ℤ) (i m : ℕ) → m ≡ 4 + i → get_or (drop 4 xs) i (pos 0) ≡ get_or xs m (pos 0)
behind xs i m e = get_or-drop 4 xs i (pos 0) ∙ ap (λ j. get_or xs j (pos 0)) (sym e)

line_at-drop : (xs : List ℤ) (k m : ℕ) → m ≡ 4 + k → line_at (drop 4 xs) k ≡ line_at xs m
line_at-drop xs k m e =
    rw (behind xs k m e, behind xs (k + 1) (m + 1) (omega arith), behind xs (k + 2) (m + 2) (omega arith), behind xs (k + 3) (m + 3) (omega arith)) refl

pub lines_in-none : (xs : List ℤ) → lines_in 0 xs ≡ []
unfolding lines_in
lines_in-none xs = refl

lines_in-suc : (n : ℕ) (xs : List ℤ) → lines_in (suc n) xs ≡ lines_in n xs ++ line_at xs (4 * n)
unfolding lines_in
lines_in-suc zero xs = append-nil (line_at xs 0)
lines_in-suc (suc n) xs =
    ap (λ l. line_at xs 0 ++ l) (lines_in-suc n (drop 4 xs) ∙ ap (λ l. lines_in n (drop 4 xs) ++ l) (line_at-drop xs (4 * n) (4 * suc n) (omega arith)))
    ∙ sym (append_assoc (line_at xs 0) (lines_in n (drop 4 xs)) (line_at xs (4 * suc n)))

-- one row more
pub lines_in-next : (n : ℕ) (xs : List ℤ) → lines_in (n + 1) xs ≡ lines_in n xs ++ line_at xs (4 * n)
lines_in-next n xs = let e : n + 1 ≡ suc n = omega arith in ap (λ m. lines_in m xs) e ∙ lines_in-suc n xs

-- those of rows, where their numbers are what the list begins with
pub lines_in-flat : (rs : List Row) (ys : List ℤ) → lines_in (length rs) (flat rs ++ ys) ≡ lines rs
unfolding lines lines_in Lent.flat
lines_in-flat [] ys = refl
lines_in-flat (r ∷ rs) ys = ap (λ l. line_of r ++ l) (lines_in-flat rs ys)
