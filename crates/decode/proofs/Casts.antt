-- The bits of a word, read as signed, are its signed value: whole, or of three bytes above an empty one and moved down, or the last three of four.
-- Assumes nothing.
use mathlib.Core.Path.{◌≡◌, refl, sym, ap, ◌∙◌}
use mathlib.Core.List.{List}
use mathlib.Core.Bool.{Bool, true, false}
use Prim.Native.Nat.{ℕ, suc, ◌-◌, ◌*◌, ◌+◌, ◌/◌, ◌%◌, ◌^◌, ◌≤◌, ◌<◌}
use native.Mathlib.Omega.{arith}
use borrow.Author.Tests.{ltb-true, ltb-false}
use lib.Dec.{ltb}
use lib.IntN.{ℤ, pos, negsuc}
use lib.ListN.{length, get_or}
use lib.Signed.{shr_z, mag_shr}
use mir.Facts.{to_z-of_z, of_z-to_z, sfits_to_z}
use mir.Syntax.{Width, w8, w32}
use mir.Val.{Fits, SFits, to_z, of_z, sel, bits, hbits}
use Rattle.words.specs.Numbers.{number_at}
use Rattle.words.specs.declared.Order.{Order}
use Rattle.words.specs.declared.Order.TheVariants.{Little, Big}
use Rattle.words.proofs.Joins.{number_step}
use Rattle.words.proofs.Words.{bytes, number_lt}
use Rattle.words.specs.Values.{word_count, half, signed}
use Rattle.words.proofs.Values.{signed-pos, signed-neg}

module _ (w : Width) (k : ℕ) (e : word_count k ≡ 2 ^ bits w) (f : half k ≡ 2 ^ hbits w) where
  cast : (n : ℕ) → to_z w n ≡ signed k n
  cast n = go (ltb n (2 ^ hbits w)) refl
    where
      go : (b : Bool) → ltb n (2 ^ hbits w) ≡ b → sel b (pos n) (negsuc (2 ^ bits w - suc n)) ≡ signed k n
      go true t =
          let l : n < 2 ^ hbits w = ltb-true n (2 ^ hbits w) t in
          sym (signed-pos k n (omega arith))
      go false t =
          let l : 2 ^ hbits w ≤ n = ltb-false n (2 ^ hbits w) t in
          let d : 2 ^ bits w - suc n ≡ word_count k - 1 - n = omega arith in
          ap negsuc d ∙ sym (signed-neg k n (omega arith))

  -- as a call gives it
  pub cast-is : {z : ℤ} {n m : ℕ} → SFits w z → z ≡ to_z w n → n ≡ m → to_z w (of_z w z) ≡ signed k m
  cast-is {z} {n} {m} h is p = to_z-of_z h ∙ (is ∙ (cast n ∙ ap (signed k) p))

moved : (m n : ℕ) → m / 256 ≡ n → shr_z (to_z w32 m) 256 ≡ signed 3 n
moved m n e = go (ltb m 2147483648) refl
  where
    go : (b : Bool) → ltb m 2147483648 ≡ b → shr_z (sel b (pos m) (negsuc (4294967296 - suc m))) 256 ≡ signed 3 n
    go true t =
        let l : m < 2147483648 = ltb-true m 2147483648 t in
        ap pos e ∙ sym (signed-pos 3 n (omega arith))
    go false t =
        let l : 2147483648 ≤ m = ltb-false m 2147483648 t in
        let d : (4294967296 - suc m) / 256 ≡ word_count 3 - 1 - n = omega arith in
        ap negsuc d ∙ sym (signed-neg 3 n (omega arith))

shifted : {z : ℤ} (m : ℕ) {n : ℕ} → SFits w32 z → z ≡ to_z w32 m → m / 256 ≡ n → to_z w32 (of_z w32 (shr_z z 256)) ≡ signed 3 n
shifted {z} m {n} h is e =
    let k : SFits w32 (shr_z z 256) = record { sfits = omega (arith, mag_shr z 256, h.sfits) } in
    to_z-of_z k ∙ (ap (λ (x : ℤ). shr_z x 256) is ∙ moved m n e)

pub moved-is : {z : ℤ} (m : ℕ) {n : ℕ} → SFits w32 z → z ≡ to_z w32 m → m / 256 ≡ n → to_z w32 (of_z w32 (shr_z (to_z w32 (of_z w32 z)) 256)) ≡ signed 3 n
moved-is m h is e = rw (to_z-of_z h) (shifted m h is e)

-- of the four bytes at k the last three, in either order
module _ (s : List ℕ) (k : ℕ) (b : (i : ℕ) → Fits w8 (get_or s i 0)) (h : k + 4 ≤ length s) where
  bits-are : (o : Order) {z : ℤ} → z ≡ signed 4 (number_at o 4 s k) → of_z w32 z ≡ number_at o 4 s k
  bits-are o is =
      let f : number_at o 4 s k < 4294967296 = number_lt o 4 s k (bytes s (λ i. (b i).fits)) h in
      ap (of_z w32) (is ∙ sym (cast w32 4 refl refl (number_at o 4 s k))) ∙ of_z-to_z {w = w32} (record { fits = f })

  pub last-little :
      {z : ℤ} → z ≡ signed 4 (number_at Little 4 s k) →
      to_z w32 (of_z w32 (shr_z (to_z w32 (of_z w32 z)) 256)) ≡ signed 3 (number_at Little 3 s (k + 1))
  last-little is =
      let f : number_at Little 4 s k < 4294967296 = number_lt Little 4 s k (bytes s (λ i. (b i).fits)) h in
      let e = number_step Little 3 s k h in
      let g : get_or s k 0 < 256 = (b k).fits in
      rw (bits-are Little is) (shifted _ (sfits_to_z (record { fits = f })) refl (omega (arith, e, g)))

  pub last-big :
      {z : ℤ} → z ≡ signed 4 (number_at Big 4 s k) →
      to_z w32 (of_z w32 (shr_z (to_z w32 (of_z w32 z * 256 % 4294967296)) 256)) ≡ signed 3 (number_at Big 3 s (k + 1))
  last-big is =
      let e = number_step Big 3 s k h in
      let g : number_at Big 3 s (k + 1) < 16777216 = number_lt Big 3 s (k + 1) (bytes s (λ i. (b i).fits)) (omega arith) in
      let f : Fits w32 (number_at Big 4 s k * 256 % 4294967296) = record { fits = omega arith } in
      rw (bits-are Big is) (shifted _ (sfits_to_z f) refl (omega (arith, e, g)))
