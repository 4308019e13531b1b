-- Signed values as an i32 holds them.
-- Assumes nothing.
use mathlib.Core.Path.{◌≡◌, refl, sym, ap, ◌∙◌}
use Prim.Native.Nat.{ℕ, zero, suc, ◌-◌, ◌^◌, ◌≤◌, ◌<◌}
use native.Mathlib.Omega.{arith}
use lib.IntN.{ℤ, pos, negsuc, ◌-ℤ◌}
use lib.Signed.{mag}
use mir.Syntax.{w32}
use mir.Val.{SFits, to_z, of_z}
use mir.Facts.{to_z_pos, to_z-of_z}
use Rattle.words.specs.Values.{word_count, signed, Halved}
use Rattle.words.proofs.Values.{signed-pos, signed-neg}

-- a signed number that a call gave, as a local holds it
pub kept : (z : ℤ) → mag z < 2 ^ 31 → to_z w32 (of_z w32 z) ≡ z
kept z h = to_z-of_z {w = w32} (record { sfits = h })

-- -1 - k, as the code computes it
minus : (k : ℕ) → negsuc 0 -ℤ pos k ≡ negsuc k
minus zero = refl
minus (suc k) = ap negsuc (omega arith)

minus_one : (k : ℕ) → k < 2 ^ 31 → negsuc 0 -ℤ to_z w32 k ≡ negsuc k
minus_one k h = rw (to_z_pos w32 h) (minus k)

pub minus-fits : (k : ℕ) → k < 2 ^ 31 → SFits w32 (negsuc 0 -ℤ to_z w32 k)
minus-fits k h = rw (minus_one k h) (record { sfits = h })

-- a word below it is its own value; one above is -1 less what is left of the words
pub held-pos : {w h n : ℕ} → Halved w h → n < h → to_z w32 n ≡ signed w n
held-pos {w} {h} {n} f l = let k : n < 2 ^ 31 = omega (arith, f.fits) in to_z_pos w32 k ∙ sym (signed-pos w n (omega (arith, f.double)))

pub held-neg : {w h n : ℕ} → Halved w h → h ≤ n → n < word_count w → to_z w32 (of_z w32 (negsuc 0 -ℤ to_z w32 (h - 1 - (n - h)))) ≡ signed w n
held-neg {w} {h} {n} f l b =
    let k = h - 1 - (n - h) in
    let s : k < 2 ^ 31 = omega (arith, f.double, f.fits) in
    let d : k ≡ word_count w - 1 - n = omega (arith, f.double) in
    to_z-of_z (minus-fits k s) ∙ minus_one k s ∙ ap negsuc d ∙ sym (signed-neg w n (omega (arith, f.double)))
