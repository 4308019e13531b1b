-- The first byte that is not 0.
-- Assumes nothing.
use mathlib.Core.Path.{◌≡◌, refl, sym, ap, ◌∙◌}
use mathlib.Core.List.{List, [], ◌∷◌, ◌++◌}
use Prim.Native.Nat.{ℕ, zero, suc, ◌+◌, ◌-◌, ◌*◌, ◌/◌, ◌<◌, ◌≤◌, zero-le}
use native.Mathlib.Nat.{zero-add}
use native.Mathlib.Numerals.{add-one}
use native.Mathlib.Omega.{arith}
use lib.ListN.{length, get_or, take, drop, replicate, length-drop, take-append-drop}
use lib.Seq.{drop-drop, take_all, length-take-le}
use borrow.Author.Tests.{eq-eqb, ne_eqb}
use Rattle.std.specs.Prelude.{Option}
use Rattle.std.specs.Prelude.{None, Some}
use Rattle.std.specs.Int.{w32, from_le_bytes}
use Rattle.std.specs.Simd.{first_chunks}
use Rattle.words.proofs.Fours.{four-little}
use Rattle.std.specs.Option.{MatchOption, unwrap_or}
use Rattle.std.specs.List.{AllWithin, HoldsAt}
use Rattle.std.proofs.lemmas.Iterator.{index_from_first}
use Rattle.words.specs.Numbers.{word}
use Rattle.words.specs.Runs.{first_nonzero, Zeros}

first-cons-zero : (b : ℕ) (s : List ℕ) → b ≡ 0 → first_nonzero (b ∷ s) ≡ suc (first_nonzero s)
unfolding first_nonzero
first-cons-zero b s z = simp (eq-eqb b 0 z)

first-cons-other : (b : ℕ) (s : List ℕ) → (b ≡ 0 → ⊥) → first_nonzero (b ∷ s) ≡ 0
unfolding first_nonzero
first-cons-other b s z = simp (ne_eqb b 0 z)

-- bytes whose number is 0 are passed
first_word : (bs t : List ℕ) → word bs ≡ 0 → first_nonzero (bs ++ t) ≡ length bs + first_nonzero t
unfolding word
first_word [] t h = sym (zero-add _)
first_word (b ∷ bs) t h = first-cons-zero b (bs ++ t) (omega arith) ∙ rw (first_word bs t (omega arith)) (omega arith)

-- a search: none is passed yet; w bytes whose number is 0 are passed; a byte that is 0 is passed; the end
pub zeros-none : (s : List ℕ) → Zeros s 0
zeros-none s = record { within = zero-le; passed = sym (zero-add _) }

-- four bytes whose number is 0 are passed, and i bytes behind them
zeros-four : (s : List ℕ) (i : ℕ) → 4 ≤ length s → from_le_bytes w32 (take 4 s) ≡ 0 → Zeros (drop 4 s) i → Zeros s (4 + i)
zeros-four s i h n z =
    let l : length (take 4 s) ≡ 4 = length-take-le 4 s h in
    let p : first_nonzero s ≡ 4 + first_nonzero (drop 4 s) =
    ap first_nonzero (sym (take-append-drop 4 s)) ∙ first_word (take 4 s) (drop 4 s) (sym (four-little (take 4 s) l) ∙ n) ∙ rw l in
    let q : first_nonzero (drop i (drop 4 s)) ≡ first_nonzero (drop (4 + i) s) = rw drop-drop in
    record { within = omega (arith, z.within, length-drop 4 s); passed = omega (arith, p, q, z.passed) }

-- so are the first k of m fours
zeros-fours : (k m : ℕ) (s : List ℕ) → k ≤ m → m * 4 ≤ length s →
    AllWithin (λ x. from_le_bytes w32 x ≡ 0) (first_chunks 4 m s) 0 k → Zeros s (4 * k)
zeros-fours zero m s l h a = zeros-none s
zeros-fours (suc k) zero s l h a = absurd (omega arith)
zeros-fours (suc k) (suc m) s l h a =
    let e : 4 * suc k ≡ 4 + 4 * k = omega arith in
    let f : m * 4 ≤ length (drop 4 s) = rw length-drop (omega arith) in
    let t = zeros-fours k m (drop 4 s) (omega arith) f (λ j d x y. a (suc j) d zero-le (omega arith)) in
    rw e (zeros-four s (4 * k) (omega arith) (a 0 [] zero-le (omega arith)) t)

-- what a search answers for the first of xs whose number v is not 0
abbrev pub Found : {X : Type 0} → (X → ℕ) → List X → Option ℕ → Type 0
Found v xs r =
    MatchOption r (AllWithin (λ x. v x ≡ 0) xs 0 (length xs))
    (λ j. (j < length xs) × HoldsAt (λ x. v x ≡ 0 → ⊥) xs j × AllWithin (λ x. v x ≡ 0) xs 0 j)

-- the fours before the first that is not 0
pub zeros-passed : (s : List ℕ) (k : ℕ) (r : Option ℕ) → let fours = first_chunks 4 (length s / 4) s in
    Found (from_le_bytes w32) fours r → length fours ≡ length s / 4 → k ≡ unwrap_or r (length fours) → Zeros s (4 * k)
zeros-passed s k None a l e = rw (e, l) (zeros-fours (length s / 4) (length s / 4) s (omega arith) (omega arith) (rw l at a))
zeros-passed s k (Some j) a l e = rw e (zeros-fours j (length s / 4) s (omega (arith, a.0)) (omega arith) a.2)

-- and the first byte that is not 0 of the rest behind them
pub zeros-rest : (s : List ℕ) (i k : ℕ) (r : Option ℕ) → let t = take (length s - i) (drop i s) in
    Zeros s i → Found (λ x. x) t r → k ≡ unwrap_or r (length t) → i + k ≡ first_nonzero s
unfolding first_nonzero
zeros-rest s i k r z h e =
    let t = take (length s - i) (drop i s) in
    let all : t ≡ drop i s = take_all (length s - i) (drop i s) (rw length-drop (omega arith)) in
    let none = λ (x : ℕ) (xs : List ℕ) (n : x ≡ 0). first-cons-zero x xs n ∙ sym (add-one _) in
    let first : first_nonzero t ≡ unwrap_or r (length t) =
    index_from_first first_nonzero (λ x. x ≡ 0 → ⊥) (λ x. x ≡ 0) refl (λ x xs n. first-cons-other x xs n) none t r h in
    omega (arith, z.passed, ap first_nonzero all, first, e)

-- what the first byte that is not 0 means
pub first-le : (s : List ℕ) → first_nonzero s ≤ length s
unfolding first_nonzero
first-le [] = zero-le
first-le (zero ∷ s) = omega (arith, first-le s)
first-le (suc b ∷ s) = rw (first-cons-other (suc b) s (λ e. omega arith)) zero-le

pub first-before : (s : List ℕ) (k : ℕ) → k < first_nonzero s → get_or s k 0 ≡ 0
unfolding first_nonzero
first-before [] k h = absurd (omega arith)
first-before (zero ∷ s) zero h = refl
first-before (zero ∷ s) (suc k) h = first-before s k (omega arith)
first-before (suc b ∷ s) k h = absurd (omega (arith, first-cons-other (suc b) s (λ e. omega arith)))

pub first-there : (s : List ℕ) → first_nonzero s < length s → get_or s (first_nonzero s) 0 ≡ 0 → ⊥
unfolding first_nonzero
first-there [] h e = omega arith
first-there (zero ∷ s) h e = first-there s (omega arith) e
first-there (suc b ∷ s) h e = let q : suc b ≡ 0 = rw (first-cons-other (suc b) s (λ x. omega arith)) at e in omega arith

-- a run is all 0 exactly when there is none
pub first-zeros : (n : ℕ) → first_nonzero (replicate n 0) ≡ n
unfolding first_nonzero
first-zeros zero = refl
first-zeros (suc n) = ap suc (first-zeros n)

pub zeros-first : (s : List ℕ) → first_nonzero s ≡ length s → s ≡ replicate (length s) 0
unfolding first_nonzero
zeros-first [] h = refl
zeros-first (zero ∷ s) h = ap (λ (t : List ℕ). 0 ∷ t) (zeros-first s (omega arith))
zeros-first (suc b ∷ s) h = absurd (omega (arith, first-cons-other (suc b) s (λ e. omega arith)))
