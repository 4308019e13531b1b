-- A float has the bits that it was made of.
-- Assumes nothing.
use mathlib.Core.Path.{◌≡◌, sym, subst}
use mathlib.Core.Bool.{Bool, false, not}
use Prim.Native.Nat.{ℕ, ◌%◌, ◌^◌, ◌<◌}
use lib.Dec.{T, ltb}
use lib.Ieee.{binary32}
use lib.Ieee.Bits.{to_bits-of_bits, nan_bits_is, nan_bits_above}
use Rattle.words.specs.Floats.{nan_pattern, float_of, bits_of}

-- a NaN's bits, below the sign's, are more than an infinity's
pub nan_pattern-above : (n : ℕ) → nan_pattern n ≡ ltb 2139095040 (n % 2147483648)
nan_pattern-above n = nan_bits_above binary32 n

-- no NaN's pattern, as `from_bits` asks it
pub no_nan : (n : ℕ) → nan_pattern n ≡ false → T (not (nan_pattern n))
no_nan n e = subst (λ (b : Bool). T (not b)) (sym e) tt

pub bits_of-float_of : (n : ℕ) → n < 2 ^ 32 → nan_pattern n ≡ false → bits_of (float_of n) ≡ n
bits_of-float_of n h e = to_bits-of_bits binary32 n h (rw nan_bits_is at (no_nan n e))
