-- What a word of w bytes means: a signed whole number, or a float of 32 bits.
-- Assumes nothing.
use Rattle.std.specs.Prelude.{◌≡◌, Bool, true, false, ℕ, ◌+◌, ◌-◌, ◌/◌, ◌^◌, ◌≤◌, ◌<◌, ltb, ℤ, pos, negsuc}

-- how many words of w bytes there are, and where the negative ones begin
abbrev pub word_count : ℕ → ℕ
word_count w = 256 ^ w

abbrev pub half : ℕ → ℕ
half w = 256 ^ w / 2

abbrev pick_z : Bool → ℤ → ℤ → ℤ
pick_z true a b = a
pick_z false a b = b

-- the signed number whose two's complement at w bytes is n
unfoldable pub signed : ℕ → ℕ → ℤ
signed w n = pick_z (ltb n (half w)) (pos n) (negsuc (word_count w - 1 - n))

-- and back
unfoldable pub unsigned : ℕ → ℤ → ℕ
unsigned w (pos n) = n
unsigned w (negsuc k) = word_count w - 1 - k

-- n is a word of a width whose negative words begin at `from`
pub record WordOf (from n : ℕ) : Type 0 where
  -- no width is larger than four bytes
  pub fits : from ≤ 2147483648
  -- half of the words are below `from`
  pub word : n < from + from

-- h is the first negative word of w bytes
pub record Halved (w h : ℕ) : Type 0 where
  -- as many words are below it as from it on
  pub double : word_count w ≡ h + h
  -- no width is larger than four bytes
  pub fits : h ≤ 2147483648
