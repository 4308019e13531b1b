-- Things written into a lent buffer, some behind the others: once over what they are, and how many numbers each of them is.
-- Assumes nothing.
use mathlib.Core.Path.{◌≡◌, refl, sym, ap, ◌∙◌}
use mathlib.Core.Bool.{Bool, true, false}
use mathlib.Core.List.{List, [], ◌∷◌, ◌++◌, append_assoc, append-nil}
use Prim.Native.Nat.{ℕ, ◌+◌, ◌*◌, ◌≤◌, ◌<◌}
use native.Mathlib.Nat.{add-zero, zero-add, add_assoc, mul-add, mul-zero, mul-one, mul-suc}
use native.Mathlib.Omega.{arith}
use lib.IntN.{ℤ}
use lib.ListN.{length, take, drop, length-append, length-take, length-drop, take-append-drop}
use lib.Seq.{sets, sets-eq, take_at, drop_at, drop-append-add, drop-drop, length-take-le}
use Rattle.words.specs.Lent.{flat, written, Wrote}

-- two runs of elements, one behind the other
joined : {A : Type 0} (out f g : List A) (k m n : ℕ) → length f ≡ m → k + m + n ≤ length out →
    take (k + m) (take k out ++ (f ++ drop (k + m) out)) ++ (g ++ drop (k + m + n) (take k out ++ (f ++ drop (k + m) out))) ≡ take k out ++ ((f ++ g) ++ drop (k + (m + n)) out)
joined out f g k m n h room =
    let l : length (take k out) ≡ k = length-take-le k out (omega arith) in
    let e : length (take k out ++ f) ≡ k + m = rw (length-append, l, h) in
    let a : take k out ++ (f ++ drop (k + m) out) ≡ (take k out ++ f) ++ drop (k + m) out = sym (append_assoc (take k out) f (drop (k + m) out)) in
    let x : take (k + m) (take k out ++ (f ++ drop (k + m) out)) ≡ take k out ++ f = ap (take (k + m)) a ∙ take_at (take k out ++ f) (drop (k + m) out) (k + m) e in
    let y : drop (k + m + n) (take k out ++ (f ++ drop (k + m) out)) ≡ drop (k + (m + n)) out =
    ap (drop (k + m + n)) a ∙ (ap (λ (z : ℕ). drop (z + n) ((take k out ++ f) ++ drop (k + m) out)) (sym e) ∙ (drop-append-add (take k out ++ f) (drop (k + m) out) n ∙ (drop-drop n (k + m) out ∙ ap (λ (z : ℕ). drop z out) (add_assoc k m n)))) in
    rw (x, y) (simp append_assoc)

module _ {A : Type 0} (numbers : A → List ℤ) (n : ℕ) (each : (a : A) → length (numbers a) ≡ n) where
  pub length-flat : (xs : List A) → length (flat numbers xs) ≡ n * length xs
  unfolding flat
  length-flat [] = sym (mul-zero n)
  length-flat (a ∷ xs) = rw (length-append, each a, length-flat xs) (omega (arith, mul-suc n (length xs)))

  pub flat_append : (xs bs : List A) → flat numbers (xs ++ bs) ≡ flat numbers xs ++ flat numbers bs
  unfolding flat
  flat_append [] bs = refl
  flat_append (a ∷ xs) bs = rw (flat_append xs bs, append_assoc)

  -- so many numbers are two lists of things
  both : (xs bs : List A) → n * length (xs ++ bs) ≡ n * length xs + n * length bs
  both xs bs = rw (length-append, mul-add)

  written_none : (w : Bool) (out : List ℤ) (k : ℕ) → written numbers n w out k [] ≡ out
  unfolding written flat
  written_none true out k = rw (mul-zero, add-zero) (take-append-drop k out)
  written_none false out k = refl

  -- the buffer keeps its length
  pub length-written : (w : Bool) (out : List ℤ) (k : ℕ) (xs : List A) → (w ≡ true → k + n * length xs ≤ length out) → length (written numbers n w out k xs) ≡ length out
  unfolding written
  length-written true out k xs room = let r = room refl in simp (length-append, length-take, length-drop, length-flat) (omega arith)
  length-written false out k xs room = refl

  -- things behind the first ones
  written-joined : (w : Bool) (out : List ℤ) (k : ℕ) (xs bs : List A) → (w ≡ true → k + n * length (xs ++ bs) ≤ length out) →
      written numbers n w (written numbers n w out k xs) (k + n * length xs) bs ≡ written numbers n w out k (xs ++ bs)
  unfolding written
  written-joined true out k xs bs room =
      joined out (flat numbers xs) (flat numbers bs) k (n * length xs) (n * length bs) (length-flat xs) (omega (arith, both xs bs, room refl)) ∙ rw (flat_append xs bs, both xs bs)
  written-joined false out k xs bs room = refl

  one : (a : A) → n * length (a ∷ []) ≡ n
  one a = mul-one n

  -- one thing: its numbers stored one after the other
  written_one : (out : List ℤ) (k : ℕ) (a : A) → k + n ≤ length out → sets out k (numbers a) ≡ written numbers n true out k (a ∷ [])
  unfolding written flat
  written_one out k a h =
      rw (one a, append-nil (numbers a)) (sets-eq (numbers a) out k (omega (arith, each a)) ∙ rw (each a) (append_assoc (take k out) (numbers a) (drop (k + n) out)))

  -- counted, kept out for want of room, or written
  module _ (w : Bool) (out : List ℤ) (k : ℕ) (a : A) where
    pub wrote-counted : w ≡ false → Wrote numbers n w out out k (k + n) (a ∷ [])
    unfolding written
    wrote-counted h = record { next = rw (one a); holds = λ _. rw h }

    pub wrote-out : w ≡ true → length out < k + n → Wrote numbers n w out out k (k + n) (a ∷ [])
    wrote-out h l = record { next = rw (one a); holds = λ room. absurd (omega (arith, room h, one a)) }

    pub wrote_one : w ≡ true → k + n ≤ length out → Wrote numbers n w out (sets out k (numbers a)) k (k + n) (a ∷ [])
    wrote_one h l = record { next = rw (one a); holds = λ _. rw h (written_one out k a l) }

  pub wrote_nothing : (w : Bool) (out : List ℤ) (k : ℕ) → Wrote numbers n w out out k k []
  wrote_nothing w out k = record { next = rw (mul-zero, add-zero); holds = λ _. sym (written_none w out k) }

  pub wrote-join : (w : Bool) (out out₁ out₂ : List ℤ) (k k₁ k₂ : ℕ) (xs bs : List A) → Wrote numbers n w out out₁ k k₁ xs → Wrote numbers n w out₁ out₂ k₁ k₂ bs → Wrote numbers n w out out₂ k k₂ (xs ++ bs)
  wrote-join w out out₁ out₂ k k₁ k₂ xs bs x y = record {
    next = omega (arith, x.next, y.next, both xs bs);
    holds = λ room.
        let first : w ≡ true → k + n * length xs ≤ length out = λ t. omega (arith, both xs bs, room t) in
        let a : out₁ ≡ written numbers n w out k xs = x.holds first in
        let l : length out₁ ≡ length out = ap length a ∙ length-written w out k xs first in
        let second : w ≡ true → k₁ + n * length bs ≤ length out₁ = λ t. omega (arith, both xs bs, room t, x.next) in
        y.holds second ∙ rw (a, x.next) (written-joined w out k xs bs room);
  }

  -- in front: their numbers, and behind them the buffer as it was
  pub written-front : (out : List ℤ) (xs : List A) → take (n * length xs) (written numbers n true out 0 xs) ≡ flat numbers xs
  unfolding written
  written-front out xs = take_at (flat numbers xs) (drop (0 + n * length xs) out) (n * length xs) (length-flat xs)

  pub written-beyond : (out : List ℤ) (xs : List A) → drop (n * length xs) (written numbers n true out 0 xs) ≡ drop (n * length xs) out
  unfolding written
  written-beyond out xs = rw zero-add (drop_at (flat numbers xs) (drop (n * length xs) out) (n * length xs) (length-flat xs))
