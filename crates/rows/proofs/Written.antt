-- Rows written into a buffer, some after the others. Assumes nothing.
use mathlib.Core.Path.{◌≡◌, refl}
use mathlib.Core.Bool.{Bool, true, false}
use mathlib.Core.List.{List, [], ◌∷◌, ◌++◌}
use Prim.Native.Nat.{ℕ, zero, suc, ◌+◌, ◌*◌, ◌≤◌, ◌<◌}
use native.Mathlib.Nat.{add-zero, mul-add, mul-zero, mul-suc, mul-le-mul_left}
use native.Mathlib.Numerals.{add-one}
use native.Mathlib.Omega.{arith}
use lib.IntN.{ℤ, pos}
use lib.ListN.{length, set}
use Rattle.words.specs.Values.{signed}
use Rattle.words.proofs.Lent as Lent
use Rattle.walk.specs.Walk.{Row}
use Rattle.rows.specs.Rows.{numbers, flat, written}
use Rattle.rows.specs.Listing.{series_rows, Wrote}

-- the laws of things written, of four numbers each
pub length-flat : (rs : List Row) → length (flat rs) ≡ 4 * length rs
length-flat = Lent.length-flat numbers 4 (λ _. refl)

pub length-written : (w : Bool) (out : List ℤ) (k : ℕ) (rs : List Row) → (w ≡ true → k + 4 * length rs ≤ length out) → length (written w out k rs) ≡ length out
length-written = Lent.length-written numbers 4 (λ _. refl)

pub wrote_nothing : (w : Bool) (out : List ℤ) (k : ℕ) → Wrote w out out k k []
wrote_nothing = Lent.wrote_nothing numbers 4 (λ _. refl)

pub wrote-join : (w : Bool) (out out₁ out₂ : List ℤ) (k k₁ k₂ : ℕ) (rs qs : List Row) → Wrote w out out₁ k k₁ rs → Wrote w out₁ out₂ k₁ k₂ qs → Wrote w out out₂ k k₂ (rs ++ qs)
wrote-join = Lent.wrote-join numbers 4 (λ _. refl)

-- one row: counted, kept out for want of room, or its four numbers stored one after the other
module _ (w : Bool) (out : List ℤ) (k : ℕ) (r : Row) where
  pub wrote-counted : w ≡ false → Wrote w out out k (k + 4) (r ∷ [])
  wrote-counted = Lent.wrote-counted numbers 4 (λ _. refl) w out k r

  pub wrote-out : w ≡ true → length out < k + 4 → Wrote w out out k (k + 4) (r ∷ [])
  wrote-out = Lent.wrote-out numbers 4 (λ _. refl) w out k r

  pub wrote_one : (a b c d : ℤ) → w ≡ true → k + 4 ≤ length out → a ≡ pos r.start → b ≡ pos r.size → c ≡ pos r.code → d ≡ signed 4 r.serial →
      Wrote w out (set (set (set (set out k a) (k + 1) b) (k + 2) c) (k + 3) d) k (k + 4) (r ∷ [])
  wrote_one a b c d h l e₁ e₂ e₃ e₄ =
      let i : k + 1 ≡ suc k = omega arith in
      let j : k + 2 ≡ suc (suc k) = omega arith in
      let m : k + 3 ≡ suc (suc (suc k)) = omega arith in
      rw (i, j, m, e₁, e₂, e₃, e₄) (Lent.wrote_one numbers 4 (λ _. refl) w out k r h l)

-- one record more of a series
series-more : (n i start step code : ℕ) → series_rows (suc n) i start step code ≡ series_rows n i start step code ++ (record { start = start + step * n; size = step; code = code; serial = i + n } ∷ [])
unfolding series_rows
series-more zero i start step code = rw (mul-zero, add-zero, add-zero)
series-more (suc n) i start step code =
    let a : start + step + step * n ≡ start + step * suc n = omega (arith, mul-suc step n) in
    let b : suc i + n ≡ i + suc n = omega arith in
    rw (series-more n (suc i) (start + step) step code, a, b)

pub wrote-series : (w : Bool) (out out₁ out₂ : List ℤ) (k k₁ k₂ i at start step code : ℕ) → Wrote w out out₁ k k₁ (series_rows i 1 start step code) → at ≡ start + step * i →
    Wrote w out₁ out₂ k₁ k₂ (record { start = at; size = step; code = code; serial = i + 1 } ∷ []) → Wrote w out out₂ k k₂ (series_rows (i + 1) 1 start step code)
wrote-series w out out₁ out₂ k k₁ k₂ i at start step code x e y =
    let a : i + 1 ≡ 1 + i = omega arith in
    rw (add-one, series-more i 1 start step code) (wrote-join w out out₁ out₂ k k₁ k₂ (series_rows i 1 start step code) _ x (rw (a, e) at y))

pub series-none : (i start step code : ℕ) → series_rows 0 i start step code ≡ []
unfolding series_rows
series-none i start step code = refl

-- so many records reach so far
pub series-reach : (n m start step : ℕ) → n + 1 ≤ m → start + step * n + step ≤ start + step * m
series-reach n m start step h = omega (arith, mul-le-mul_left step h, mul-add step n 1)
