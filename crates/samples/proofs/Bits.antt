-- A sample of 32 bits keeps them: as a float, or as a NaN's pattern.
-- Assumes nothing.
use mathlib.Core.Path.{◌≡◌, refl, sym, ap, ◌∙◌}
use mathlib.Core.Bool.{Bool, true, false}
use Prim.Native.Nat.{ℕ, ◌^◌, ◌<◌}
use Rattle.words.specs.Floats.{nan_pattern, float_of}
use Rattle.words.proofs.Floats.{bits_of-float_of}
use Rattle.samples.specs.Frames.{float_in, bits_in}
use Rattle.samples.specs.declared.Number.TheVariants as Number

pub a-pattern : (n : ℕ) → nan_pattern n ≡ true → float_in n ≡ Number.Pattern n
unfolding float_in
a-pattern n e = simp e

pub a-float : (n : ℕ) → nan_pattern n ≡ false → float_in n ≡ Number.Float (float_of n)
unfolding float_in
a-float n e = simp e

pub bits-kept : (n : ℕ) → n < 2 ^ 32 → bits_in (float_in n) ≡ n
bits-kept n h = go (nan_pattern n) refl
  where
    go : (b : Bool) → nan_pattern n ≡ b → bits_in (float_in n) ≡ n
    go true e = rw (a-pattern n e)
    go false e = rw (a-float n e) (bits_of-float_of n h e)

-- so two of them are answered alike only if they are the same
pub bits-one : (n m : ℕ) → n < 2 ^ 32 → m < 2 ^ 32 → float_in n ≡ float_in m → n ≡ m
bits-one n m h k e = sym (bits-kept n h) ∙ ap bits_in e ∙ bits-kept m k
