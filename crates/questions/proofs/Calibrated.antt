-- Four calibration words: whether one is a NaN's pattern, and that each keeps its 32 bits, whatever the four are answered as.
-- Assumes nothing.
use mathlib.Core.Path.{◌≡◌, refl, sym}
use mathlib.Core.Bool.{Bool, true, false, ◌||◌}
use Prim.Native.Nat.{ℕ, ◌^◌, ◌<◌}
use lib.Dec.{eqb}
use Rattle.words.specs.Floats.{nan_pattern, float_of}
use Rattle.words.proofs.Floats.{bits_of-float_of}
use Rattle.words.proofs.Values.{unsigned_signed}
use Rattle.walk.proofs.Apart.{false-true}
use Rattle.questions.specs.Values.{some_nan, floats_of, calibration_of, Words, words_of}
use Rattle.questions.specs.declared.channels.Calibration.{Calibration}

-- the words are tested one after the other
pub nan-here : (b : Bool) {a : Bool} → a ≡ true → true ≡ a || b
nan-here b e = rw e

pub nan-later : (b : Bool) {a : Bool} → a ≡ false → b ≡ a || b
nan-later b e = rw e

or_left : (a b : Bool) → a || b ≡ false → a ≡ false
or_left true b e = e
or_left false b e = refl

or_right : (a b : Bool) → a || b ≡ false → b ≡ false
or_right true b e = false-true (sym e)
or_right false b e = e

module _ (a b c d : ℕ) where
  -- none of the four is a NaN's
  pub record Plain : Type 0 where
    pub cal : nan_pattern a ≡ false
    pub cal_ad : nan_pattern b ≡ false
    pub offset_ad : nan_pattern c ≡ false
    pub offset_cal : nan_pattern d ≡ false

  pub plain : some_nan a b c d ≡ false → Plain
  unfolding some_nan
  plain e =
      let f = or_right (nan_pattern a) _ e in
      let g = or_right (nan_pattern b) _ f in
      record { cal = or_left (nan_pattern a) _ e; cal_ad = or_left (nan_pattern b) _ f; offset_ad = or_left (nan_pattern c) _ g; offset_cal = or_right (nan_pattern c) _ g }

  pub patterns : some_nan a b c d ≡ true → floats_of a b c d ≡ Calibration.Patterns a b c d
  unfolding floats_of
  patterns e = rw e

  pub floats : some_nan a b c d ≡ false → floats_of a b c d ≡ Calibration.Floats (float_of a) (float_of b) (float_of c) (float_of d)
  unfolding floats_of
  floats e = rw e

  -- each word of the file is among the bits of the answer
  abbrev these : Words
  these = record { cal = a; cal_ad = b; offset_ad = c; offset_cal = d }

  module _ (h₁ : a < 2 ^ 32) (h₂ : b < 2 ^ 32) (h₃ : c < 2 ^ 32) (h₄ : d < 2 ^ 32) where
    floats-words : (n : Bool) → some_nan a b c d ≡ n → words_of (floats_of a b c d) ≡ these
    floats-words true e = rw (patterns e)
    floats-words false e =
        let p = plain e in
        rw (floats e)
        (λ j. record { cal = bits_of-float_of a h₁ p.cal j; cal_ad = bits_of-float_of b h₂ p.cal_ad j; offset_ad = bits_of-float_of c h₃ p.offset_ad j; offset_cal = bits_of-float_of d h₄ p.offset_cal j })

    pub words-kept : (format : ℕ) → words_of (calibration_of format a b c d) ≡ these
    unfolding calibration_of
    words-kept format = go (eqb format 4) refl
      where
        go : (t : Bool) → eqb format 4 ≡ t → words_of (calibration_of format a b c d) ≡ these
        go true e = rw e (floats-words (some_nan a b c d) refl)
        go false e =
            rw e
            (λ j. record { cal = unsigned_signed 4 a h₁ j; cal_ad = unsigned_signed 4 b h₂ j; offset_ad = unsigned_signed 4 c h₃ j; offset_cal = unsigned_signed 4 d h₄ j })
