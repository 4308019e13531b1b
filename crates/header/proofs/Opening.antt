-- What the walk of the file header comes to, and what its texts say, byte by byte.
-- Assumes nothing.
use Rattle.std.proofs.Common.{Some, None}
use mathlib.Core.Path.{◌≡◌, refl, ap, ◌∙◌}
use mathlib.Core.Bool.{Bool, true, false, ◌&&◌}
use mathlib.Core.List.{List, [], ◌∷◌, map}
use mathlib.Core.Option.{Option, none, some}
use Prim.Native.Nat.{ℕ, zero, suc, ◌+◌, ◌*◌, ◌-◌, ◌^◌, ◌≤◌, ◌<◌}
use native.Mathlib.Nat.{add-zero}
use native.Mathlib.Numerals.{add-one}
use native.Mathlib.Omega.{arith, pow_step}
use borrow.Author.Tests.{eq-eqb, ne_eqb, eqb-true}
use lib.Dec.{leb, eqb}
use lib.ListN.{length, get_or, take, drop, length-drop, drop_of_length-le}
use Rattle.std.proofs.lemmas.List.{take_all}
use lib.Seq.{drop-cons, get_or-take, get_or-drop}
use Rattle.words.specs.Numbers.{bytes_at}
use Rattle.words.specs.declared.Order.{Order}
use Rattle.words.specs.declared.Order.TheVariants.{Little, Big}
use Rattle.walk.specs.See.{Verdict, gate, see, stops, goes}
use Rattle.walk.specs.Walk.{pick, swap, laid, Letter, ◌>>=◌, ◌>>◌}
use Rattle.walk.proofs.Apart.{zero_one}
use Rattle.walk.proofs.Laid.{laid-text}
use Rattle.rules.specs.Rules.{between, same_bytes, one_of, is_spelling, spelling_of, is_version, version_of, is_form, form_of, all_spaces, is_digit, decimal, count_of, count_fits, count_is, is_script, FileHeader, file_header, order_of}
use Rattle.header.specs.Letters.{lettered}
use Rattle.header.specs.Opened.{names}

-- which of several things bytes name, by the answer of the comparison with the text of the first
module _ {A : Type 0} (text : A → List ℕ) (a b : A) (others : List A) (bs : List ℕ) (x : Bool) (is : x ≡ same_bytes bs (text a)) where
  pub names-first : x ≡ true → a ≡ one_of text a (b ∷ others) bs
  unfolding one_of
  names-first e = simp (← is, e)

  pub names-other : x ≡ false → {c : A} → c ≡ one_of text b others bs → c ≡ one_of text a (b ∷ others) bs
  unfolding one_of
  names-other e f = simp (← is, e) f

-- where there is no other
pub names-last : {A : Type 0} (text : A → List ℕ) (a : A) (bs : List ℕ) → a ≡ one_of text a [] bs
unfolding one_of
names-last text a bs = refl

-- where something is allowed, what is and what is not
pub and_none : (e : Bool) → e && false ≡ false
and_none true = refl
and_none false = refl

pub and-all : (e : Bool) → e && true ≡ e
and-all true = refl
and-all false = refl

-- spaces, one more and none
module _ (s : List ℕ) (i : ℕ) where
  pub spaces-end : length s ≤ i → all_spaces (drop i s) ≡ true
  unfolding all_spaces
  spaces-end h = rw (drop_of_length-le s h)

  pub spaces-more : i < length s → get_or s i 0 ≡ 32 → all_spaces (drop i s) ≡ all_spaces (drop (i + 1) s)
  unfolding all_spaces
  spaces-more h e = rw (add-one, drop-cons s i 0 h, eq-eqb (get_or s i 0) 32 e)

  pub spaces-not : i < length s → (get_or s i 0 ≡ 32 → ⊥) → all_spaces (drop i s) ≡ false
  unfolding all_spaces
  spaces-not h e = rw (drop-cons s i 0 h, ne_eqb (get_or s i 0) 32 e)

-- the bytes from i on, as a part of the code's
pub spaces-rest : (s : List ℕ) (i : ℕ) {x : Bool} → all_spaces (take (length s - i) (drop i s)) ≡ x → all_spaces (drop i s) ≡ x
spaces-rest s i h = rw (take_all (length s - i) (drop i s) (omega (arith, length-drop i s))) at h

-- a count that is none is 0, which is outside the range
pub count_fits_lem : (x : Option ℕ) → count_fits x ≡ between 1 64 (count_is x)
unfolding between
count_fits_lem none = refl
count_fits_lem (some k) = refl

-- a count, digit by digit
pub count-start : (s : List ℕ) → count_is (count_of s) ≡ count_is (decimal 0 s)
unfolding count_of decimal
count-start [] = refl
count-start (b ∷ s) = go (is_digit b) (all_spaces (b ∷ s)) refl refl
  where
    go : (x y : Bool) → is_digit b ≡ x → all_spaces (b ∷ s) ≡ y → count_is (count_of (b ∷ s)) ≡ count_is (decimal 0 (b ∷ s))
    go true y e f = rw (count_of, e)
    go false true e f = rw (count_of, decimal, e, f)
    go false false e f = rw (count_of, decimal, e, f)

pub count-end : (s : List ℕ) (i v : ℕ) → length s ≤ i → count_is (decimal v (drop i s)) ≡ v
unfolding decimal
count-end s i v h = rw (drop_of_length-le s h)

-- b: the byte at i
module _ (s : List ℕ) (i v b : ℕ) (h : i < length s) (is : b ≡ get_or s i 0) where
  pub count-more : is_digit b ≡ true → count_is (decimal v (drop i s)) ≡ count_is (decimal (10 * v + (b - 48)) (drop (i + 1) s))
  unfolding decimal
  count-more e = let d : is_digit (get_or s i 0) ≡ true = rw is at e in rw (is, add-one, drop-cons s i 0 h, decimal, d)

  pub count-rest : (x : Bool) → is_digit b ≡ false → all_spaces (drop i s) ≡ x → count_is (decimal v (drop i s)) ≡ pick x v 0
  unfolding decimal
  count-rest x e f =
      let d : is_digit (get_or s i 0) ≡ false = rw is at e in
      rw (drop-cons s i 0 h, decimal, d, rw (drop-cons s i 0 h) at f) (elim x as (λ y. count_is (elim y [ true ↦ some v | false ↦ none ]) ≡ pick y v 0) [ true ↦ refl | false ↦ refl ])

-- the value of fewer than 4 digits, and one more
pub digits-short : (i n v : ℕ) → i < n → n ≤ 4 → v < 10 ^ i → v < 1000
digits-short i n v h k l = go i (omega arith) l
  where
    go : (j : ℕ) → j < 4 → v < 10 ^ j → v < 1000
    go zero a b = omega arith
    go (suc zero) a b = omega arith
    go (suc (suc zero)) a b = omega arith
    go (suc (suc (suc zero))) a b = b
    go (suc (suc (suc (suc j)))) a b = absurd (omega arith)

pub digits_more : (i v b : ℕ) → v < 10 ^ i → b ≤ 57 → 10 * v + (b - 48) < 10 ^ (i + 1)
digits_more i v b h k = rw add-one (omega (arith, pow_step 10 i))

-- one byte
byte_at : (s : List ℕ) (k : ℕ) → get_or (bytes_at 1 s k) 0 0 ≡ get_or s k 0
unfolding bytes_at
byte_at s k = get_or-take 1 (drop k s) 0 0 (omega arith) ∙ (get_or-drop k s 0 0 ∙ ap (λ (n : ℕ). get_or s n 0) (add-zero k))

swap-first : (bs : List ℕ) → get_or (map swap bs) 0 0 ≡ swap (get_or bs 0 0)
unfolding swap
swap-first [] = refl
swap-first (b ∷ bs) = refl

-- the letter as the walk reads it, in the order that it names
letter-names : (s : List ℕ) → eqb (get_or (laid (order_of s) Letter (bytes_at 1 s 16)) 0 0) 76 ≡ names (lettered (get_or s 16 0))
unfolding order_of laid lettered swap
letter-names s = go (eqb (get_or s 16 0) 76) (eqb (get_or s 16 0) 66) refl refl
  where
    go : (x y : Bool) → eqb (get_or s 16 0) 76 ≡ x → eqb (get_or s 16 0) 66 ≡ y → eqb (get_or (laid (order_of s) Letter (bytes_at 1 s 16)) 0 0) 76 ≡ names (lettered (get_or s 16 0))
    go x true e f = rw (order_of, f, swap-first, byte_at, eqb-true (get_or s 16 0) 66 f)
    go true false e f = rw (order_of, f, byte_at, lettered, e)
    go false false e f = rw (order_of, f, byte_at, lettered, e)

-- a letter that names nothing names no order
nothing-names : {X : Type 0} {o : Order} → None ≡ Some o → X
nothing-names h = zero_one (cc)

pub letter-order : (s : List ℕ) (o : Order) → lettered (get_or s 16 0) ≡ Some o → order_of s ≡ o
unfolding order_of lettered
letter-order s o h = go (eqb (get_or s 16 0) 76) (eqb (get_or s 16 0) 66) refl refl
  where
    go : (x y : Bool) → eqb (get_or s 16 0) 76 ≡ x → eqb (get_or s 16 0) 66 ≡ y → order_of s ≡ o
    go true y e f = let l : Some Little ≡ Some o = rw (lettered, e) at h in rw (order_of, eqb-true (get_or s 16 0) 76 e) (cc)
    go false true e f = let l : Some Big ≡ Some o = rw (lettered, e, f) at h in rw (order_of, f) (cc)
    go false false e f = nothing-names (rw (lettered, e, f) at h)

-- the walk of the file header: its tests, one after the other, each with those behind it
module _ (s : List ℕ) where
  abbrev pub walk : Verdict FileHeader
  walk = see (order_of s) 0 s 0 (file_header (length s))

  abbrev pub holds : Verdict FileHeader
  holds = goes (record { heading = record { spelling = spelling_of (bytes_at 8 s 0); label = record { version = version_of (bytes_at 6 s 8); form = form_of (bytes_at 2 s 14) }; script = get_or s 17 0 }; count = count_is (count_of (bytes_at 4 s 18)) }) 32

  abbrev pub from_spaces : Verdict FileHeader
  from_spaces = gate (all_spaces (bytes_at 10 s 22)) holds 8 22

  abbrev pub from_count : Verdict FileHeader
  from_count = gate (between 1 64 (count_is (count_of (bytes_at 4 s 18)))) from_spaces 7 18

  abbrev pub from_script : Verdict FileHeader
  from_script = gate (is_script (version_of (bytes_at 6 s 8)) (get_or s 17 0)) from_count 6 17

  abbrev pub from_letter : Verdict FileHeader
  from_letter = gate (names (lettered (get_or s 16 0))) from_script 5 16

  abbrev pub from_form : Verdict FileHeader
  from_form = gate (is_form (version_of (bytes_at 6 s 8)) (bytes_at 2 s 14)) from_letter 4 14

  abbrev pub from_version : Verdict FileHeader
  from_version = gate (is_version (bytes_at 6 s 8)) from_form 3 8

  abbrev pub from_spelling : Verdict FileHeader
  from_spelling = gate (is_spelling (bytes_at 8 s 0)) from_version 2 0

  pub header-open : walk ≡ gate (leb 32 (length s)) from_spelling 1 0
  unfolding file_header see ◌>>=◌ ◌>>◌
  header-open = simp (laid-text, byte_at, letter-names, count_fits_lem)

-- a test that is passed, and one that is not
pub passing : {A : Type 0} {w : Verdict A} (c : Bool) (v : Verdict A) (n p : ℕ) → w ≡ gate c v n p → c ≡ true → w ≡ v
unfolding gate
passing c v n p g e = g ∙ rw e

pub stopping : {A : Type 0} {w : Verdict A} (c : Bool) (v : Verdict A) (n p : ℕ) → w ≡ gate c v n p → c ≡ false → w ≡ stops n p
unfolding gate
stopping c v n p g e = g ∙ rw e
