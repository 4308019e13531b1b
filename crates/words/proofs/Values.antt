-- A word and its value determine each other, once over the width.
-- Assumes nothing.
use mathlib.Core.Path.{◌≡◌, refl, sym, ap, ◌∙◌}
use mathlib.Core.Bool.{Bool, true, false}
use Prim.Native.Nat.{ℕ, ◌*◌, ◌-◌, ◌≤◌, ◌<◌}
use native.Mathlib.Omega.{arith}
use lib.Dec.{ltb}
use lib.IntN.{ℤ, pos, negsuc}
use borrow.Author.Tests.{lt-ltb, le-ltb, ltb-true, ltb-false}
use Rattle.words.specs.Values.{word_count, half, signed, unsigned}

pub signed-pos : (w n : ℕ) → n < half w → signed w n ≡ pos n
unfolding signed
signed-pos w n h = simp (lt-ltb n (half w) h)

pub signed-neg : (w n : ℕ) → half w ≤ n → signed w n ≡ negsuc (word_count w - 1 - n)
unfolding signed
signed-neg w n h = simp (le-ltb n (half w) h)

pub unsigned_signed : (w n : ℕ) → n < word_count w → unsigned w (signed w n) ≡ n
unfolding unsigned
unsigned_signed w n h = go (ltb n (half w)) refl
  where
    go : (x : Bool) → ltb n (half w) ≡ x → unsigned w (signed w n) ≡ n
    go true e = rw (signed-pos w n (ltb-true n (half w) e))
    go false e = rw (signed-neg w n (ltb-false n (half w) e)) (omega arith)

-- so two words with one value are one word
pub signed-one : (w n m : ℕ) → n < word_count w → m < word_count w → signed w n ≡ signed w m → n ≡ m
signed-one w n m h k e = sym (unsigned_signed w n h) ∙ ap (unsigned w) e ∙ unsigned_signed w m k

-- the values of w bytes
abbrev pub Fits : ℕ → ℤ → Type 0
Fits w (pos n) = n < half w
Fits w (negsuc k) = k < half w

pub signed-unsigned : (w : ℕ) (z : ℤ) → Fits w z → signed w (unsigned w z) ≡ z
unfolding unsigned
signed-unsigned w (pos n) h = signed-pos w n h
signed-unsigned w (negsuc k) h =
    let d : half w * 2 ≤ word_count w = omega arith in
    let e : word_count w - 1 - (word_count w - 1 - k) ≡ k = omega arith in
    signed-neg w (word_count w - 1 - k) (omega arith) ∙ ap negsuc e
