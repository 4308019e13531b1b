-- One of a list, by its number: the element inside the range, and 19 outside. And what is known of a recording that was asked for and found.
-- Assumes nothing.
use mathlib.Core.Path.{◌≡◌, refl, sym, ap, ◌∙◌}
use mathlib.Core.Bool.{Bool, true, false}
use mathlib.Core.List.{List, [], ◌∷◌}
use Prim.Native.Nat.{ℕ, zero, suc, ◌-◌, ◌≤◌, ◌<◌}
use native.Mathlib.Omega.{arith}
use borrow.Author.Tests.{leb-true, leb-false, le-leb}
use lib.Dec.{leb}
use lib.ListN.{length, get_or}
use Rattle.words.specs.Numbers.{Bytes}
use Rattle.walk.specs.Walk.{Event, Outcome, refused, passed}
use Rattle.walk.proofs.Apart.{zero_one, false-true}
use Rattle.rules.specs.Rules as R
use Rattle.rules.proofs.Turn.{nothing_left}
use Rattle.records.proofs.Facts.{between_in}
use Rattle.recordings.specs.Answers.{Answer, value, refusal, outside, ◌>>=◌, indexed, numbered}
use Rattle.recordings.specs.Recordings.{Chosen, judged, recording_of}

-- a number from `low` to `high`
pub in_between : (low high n : ℕ) → low ≤ n → n ≤ high → R.between low high n ≡ true
unfolding R.between
in_between low high n l m = rw (R.between, le-leb low n l, le-leb n high m)

module _ {A : Type 0} where
  -- a refusal is no value
  pub refusal-value : {X : Type 0} {n p : ℕ} {a : A} → ◌≡◌ {A = Answer A} (refusal n p) (value a) → X
  refusal-value h = zero_one (cc)

  value-one : (a b : A) → ◌≡◌ {A = Answer A} (value a) (value b) → a ≡ b
  value-one a b e = cc

  -- the element of a list
  pub indexed-in : (d : A) (l : List A) (i : ℕ) → i < length l → indexed l i ≡ value (get_or l i d)
  unfolding indexed
  indexed-in d [] i h = absurd (omega arith)
  indexed-in d (a ∷ l) zero h = refl
  indexed-in d (a ∷ l) (suc i) h = indexed-in d l i (omega arith)

  pub indexed-out : (l : List A) (i : ℕ) → length l ≤ i → indexed l i ≡ outside
  unfolding indexed
  indexed-out [] i h = refl
  indexed-out (a ∷ l) zero h = absurd (omega arith)
  indexed-out (a ∷ l) (suc i) h = indexed-out l i (omega arith)

  pub numbered-in : (d : A) (l : List A) (n : ℕ) → R.between 1 (length l) n ≡ true → numbered l n ≡ value (get_or l (n - 1) d)
  unfolding numbered
  numbered-in d l zero h = absurd (let x = between_in 1 (length l) 0 h in omega (arith, x.0))
  numbered-in d l (suc i) h =
      let x = between_in 1 (length l) (suc i) h in
      let e : suc i - 1 ≡ i = omega arith in
      rw e (indexed-in d l i (omega (arith, x.1)))

  pub numbered-out : (l : List A) (n : ℕ) → R.between 1 (length l) n ≡ false → numbered l n ≡ outside
  unfolding numbered
  numbered-out l zero h = refl
  numbered-out l (suc i) h = go (leb (length l) i) refl
    where
      go : (x : Bool) → leb (length l) i ≡ x → indexed l i ≡ outside
      go true e = indexed-out l i (leb-true (length l) i e)
      go false e = let f = leb-false (length l) i e in false-true (sym h ∙ in_between 1 (length l) (suc i) (omega arith) (omega arith))

  -- an element that was found: it stands inside the list, whatever would stand outside
  pub record One (l : List A) (i : ℕ) (a : A) : Type 0 where
    pub inside : i < length l
    pub is : (d : A) → get_or l i d ≡ a

  pub indexed-one : (l : List A) (i : ℕ) {a : A} → indexed l i ≡ value a → One l i a
  unfolding indexed
  indexed-one [] i h = refusal-value h
  indexed-one (x ∷ l) zero {a} h = record { inside = omega arith; is = λ d. value-one x a h }
  indexed-one (x ∷ l) (suc i) h = let o = indexed-one l i h in record { inside = omega (arith, o.inside); is = o.is }

  pub numbered-one : (l : List A) (n : ℕ) {a : A} → numbered l n ≡ value a → (1 ≤ n) × One l (n - 1) a
  unfolding numbered
  numbered-one l zero h = refusal-value h
  numbered-one l (suc i) h = let e : suc i - 1 ≡ i = omega arith in (omega arith, rw e (indexed-one l i h))

-- an answer by what it was answered before
pub answered : {A B : Type 0} (x : Answer A) (k : A → Answer B) {b : B} → x >>= k ≡ value b → (a : A) × (x ≡ value a) × (k a ≡ value b)
answered (value a) k h = (a, refl, h)
answered (refusal n p) k h = refusal-value h

-- the file of a recording that was found, and its place among the file's recordings
pub record ChosenIn (s : List ℕ) (i : ℕ) (r : Chosen) : Type 0 where
  pub file : R.File
  pub events : List Event
  pub judged : R.judge s ≡ passed file [] events
  pub all : r.all ≡ file.recordings
  pub index : r.index ≡ i - 1
  pub first : 1 ≤ i
  pub one : One file.recordings r.index r.this

pub chosen-in : (s : List ℕ) → Bytes s → (i : ℕ) (r : Chosen) → recording_of s i ≡ value r → ChosenIn s i r
chosen-in s b i r h = go (R.judge s) refl h
  where
    go : (x : Outcome R.File) → R.judge s ≡ x → judged x i ≡ value r → ChosenIn s i r
    go (refused n p) e k = refusal-value k
    go (passed v u t) e k =
        let a = answered (numbered v.recordings i) (λ x. value (record { all = v.recordings; index = i - 1; this = x })) k in
        let c : record { all = v.recordings; index = i - 1; this = a.0 } ≡ r = value-one _ _ a.2 in
        let o = numbered-one v.recordings i a.1 in
        record {
          file = v;
          events = t;
          judged = e ∙ ap (λ (y : List ℕ). passed v y t) (nothing_left s b e);
          all = sym (ap (λ (y : Chosen). y.all) c);
          index = sym (ap (λ (y : Chosen). y.index) c);
          first = o.0;
          one = rw (← c) o.1;
        }
