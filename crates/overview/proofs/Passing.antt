-- A loop over the numbers of a part, front to back, once over the width and the type that keeps them.
-- Assumes nothing.
use mathlib.Core.Path.{◌≡◌, ◌∙◌}
use mathlib.Core.Bool.{not}
use mathlib.Core.List.{List, [], ◌∷◌}
use Prim.Native.Nat.{ℕ, zero, suc, ◌+◌, ◌*◌, ◌/◌, ◌≤◌, ◌<◌}
use native.Mathlib.Nat.{zero-add, zero-mul, mul_comm, add-mul}
use native.Mathlib.Omega.{arith}
use lib.IntN.{ℤ}
use lib.ListN.{length}
use Rattle.std.proofs.Common.{nat_eq}
use Rattle.std.proofs.lemmas.Nat.{div-mul-add}
use Rattle.words.specs.Numbers.{number_at}
use Rattle.words.specs.Values.{signed}
use Rattle.words.specs.declared.Order.{Order}
use Rattle.decode.specs.Wide.{order_for}
use Rattle.overview.specs.Overview.{foremost}
use Rattle.overview.specs.Steps.{wholes_at, NumbersOf, widened, extremes_of, ExtremesAre, PairOf}
use Rattle.overview.specs.declared.extremes.Extremes.{Extremes}

-- the order that a const parameter tells
abbrev pub order_by : ℕ → Order
order_by big = order_for (not (nat_eq big 0))

-- the second of two parts is numbers too
pub other-numbers : {w : ℕ} {s t : List ℕ} → PairOf w s t → NumbersOf w t
other-numbers h = record { wide = h.numbers.wide; more = h.numbers.more; long = h.alike ∙ h.numbers.long }

-- the first i numbers of s are passed: with the ones that are left, x comes to what all come to
pub record Passing (o : Order) (w : ℕ) (s : List ℕ) (x : Extremes) (i : ℕ) : Type 0 where
  pub left : ℕ
  pub place : i + left ≡ length s / w
  pub same : widened x (wholes_at o w left s (i * w)) ≡ extremes_of (wholes_at o w (length s / w) s 0)

module _ (o : Order) (w : ℕ) (s : List ℕ) where
  abbrev pub value_at : ℕ → ℤ
  value_at at = signed w (number_at o w s at)

  module _ (h : NumbersOf w s) where
    -- as many numbers as its bytes hold
    counted : (n : ℕ) → length s ≡ w * suc n → length s / w ≡ suc n
    counted n e =
        let f : length s ≡ suc n * w + 0 = omega (arith, e, mul_comm w (suc n)) in
        rw f (div-mul-add (suc n) w 0 (omega (arith, h.wide.least)))

    -- the first is passed
    pub passing-first : (x : Extremes) {z : ℤ} → x ≡ extremes_of (z ∷ []) → z ≡ value_at (0 * w) → Passing o w s x 1
    unfolding wholes_at foremost
    passing-first x e v =
        let c = counted h.more h.long in
        let k : 1 * w ≡ w = omega arith in
        record { left = h.more; place = omega (arith, c); same = rw (c, e, v, k, zero-mul w, zero-add w) }

    pub passing-all : {x : Extremes} {i : ℕ} → Passing o w s x i → length s / w ≤ i → ExtremesAre o w s x
    unfolding wholes_at foremost
    passing-all {x} {i} p l n e = rw (counted n e) at (none p.left (omega (arith, p.place)) p.same)
      where
        none : (left : ℕ) → left ≡ 0 → widened x (wholes_at o w left s (i * w)) ≡ extremes_of (wholes_at o w (length s / w) s 0) →
            x ≡ extremes_of (wholes_at o w (length s / w) s 0)
        none zero z g = g
        none (suc m) z g = absurd (omega (arith, z))

  -- one more is passed
  pub passing-more : {x : Extremes} {i : ℕ} → Passing o w s x i → i < length s / w → (y : Extremes) {z : ℤ} → y ≡ widened x (z ∷ []) →
      z ≡ value_at (i * w) → Passing o w s y (i + 1)
  unfolding wholes_at foremost
  passing-more {x} {i} p l y e v = some p.left p.place p.same
    where
      some : (left : ℕ) → i + left ≡ length s / w →
          widened x (wholes_at o w left s (i * w)) ≡ extremes_of (wholes_at o w (length s / w) s 0) → Passing o w s y (i + 1)
      some zero n g = absurd (omega arith)
      some (suc m) n g =
          let k : (i + 1) * w ≡ i * w + w = omega (arith, add-mul i 1 w) in
          record { left = m; place = omega (arith, n); same = rw (e, v, k) g }
