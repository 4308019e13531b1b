-- Facts on the rules that the code's proofs cite.
-- Assumes nothing.
use mathlib.Core.Path.{◌≡◌, refl, sym, ap, ◌∙◌}
use mathlib.Core.Bool.{Bool, true, false, ◌&&◌, ◌||◌}
use mathlib.Core.List.{List, [], ◌∷◌}
use Prim.Native.Nat.{ℕ, zero, suc, ◌*◌, ◌≤◌, ◌<◌, max}
use native.Mathlib.Nat.{mul-le-mul_left}
use native.Mathlib.Omega.{arith}
use borrow.Author.Tests.{leb-true, le-leb, eq-eqb, eqb-true}
use lib.Dec.{leb, eqb}
use lib.Pointwise.{pointwise}
use Rattle.walk.proofs.Apart.{false-true}
use Rattle.walk.proofs.Seen.{and_left, and_right}
use Rattle.rules.specs.Rules.{between, length_of, is_in, same_bytes}

-- a number in a range
pub between_in : (low high n : ℕ) → between low high n ≡ true → (low ≤ n) × (n ≤ high)
unfolding between
between_in low high n h = (leb-true low n (and_left (leb low n) (leb n high) h), leb-true n high (and_right (leb low n) (leb n high) h))

-- two tests of the code, r, where they hold and where one does not
module _ (a b c d : ℕ) (r : Bool) (is : r ≡ leb a b && leb c d) where
  pub both_true : r ≡ true → (a ≤ b) × (c ≤ d)
  both_true h =
      let t : leb a b && leb c d ≡ true = sym is ∙ h in
      (leb-true a b (and_left (leb a b) (leb c d) t), leb-true c d (and_right (leb a b) (leb c d) t))

  pub both_false : r ≡ false → a ≤ b → c ≤ d → ⊥
  both_false h i j =
      let t : leb a b && leb c d ≡ true = rw (le-leb a b i, le-leb c d j) in
      false-true (sym h ∙ (is ∙ t))

pub length_none : (size m : ℕ) → m ≡ 0 → size ≡ length_of size m
unfolding length_of
length_none size m h = rw h

pub length-times : (size m : ℕ) → (m ≡ 0 → ⊥) → size * m ≡ length_of size m
unfolding length_of
length-times size zero h = absurd (h refl)
length-times size (suc m) h = refl

pub length-short : (size m : ℕ) → size < 2147483648 → m ≤ 128 → size * m < 274877906945
length-short size m h k = omega (arith, mul-le-mul_left size k)

pub max-one : (m : ℕ) → (m ≡ 0 → ⊥) → max 1 m ≡ m
max-one m h = omega arith

-- what the library's search of a table answers
swapped : (a b : ℕ) → eqb a b ≡ eqb b a
swapped a b = both (eqb a b) (eqb b a) refl refl
  where
    both : (x y : Bool) → eqb a b ≡ x → eqb b a ≡ y → x ≡ y
    both true true h k = refl
    both true false h k = sym (sym k ∙ eq-eqb b a (sym (eqb-true a b h)))
    both false true h k = sym h ∙ eq-eqb a b (sym (eqb-true b a k))
    both false false h k = refl

abbrev any_of : ℕ → List ℕ → Bool
any_of x [] = false
any_of x (y ∷ ys) = eqb y x || any_of x ys

pub found : (x : ℕ) (l : List ℕ) → any_of x l ≡ is_in x l
unfolding is_in
found x [] = refl
found x (y ∷ ys) = rw (swapped y x, found x ys)

-- and what it answers of two byte strings
pub same-pointwise : (a b : List ℕ) → pointwise eqb a b ≡ same_bytes a b
unfolding same_bytes
same-pointwise [] [] = refl
same-pointwise [] (y ∷ b) = refl
same-pointwise (x ∷ a) [] = refl
same-pointwise (x ∷ a) (y ∷ b) = ap (λ t. eqb x y && t) (same-pointwise a b)

-- bounds of products
pub product : (n m : ℕ) → n < 4294967296 → m < 4294967296 → n * m ≤ 18446744065119617025
product n m h k = let l : m ≤ 4294967295 = omega arith in omega (arith, mul-le-mul_left n l)

pub samples-short : (rate t : ℕ) → rate < 4294967296 → t ≤ 3600 → rate * t ≤ 15461882265600
samples-short rate t h k = omega (arith, mul-le-mul_left rate k)

pub bytes-short : (w n : ℕ) → w ≤ 4 → n ≤ 15461882265600 → w * n ≤ 61847529062400
bytes-short w n h k = omega (arith, mul-le-mul_left w k)
