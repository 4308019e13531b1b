-- What 32 bits mean as a float. A NaN's pattern is no float: it is answered as its bits.
-- Assumes nothing.
use Rattle.std.specs.Prelude.{Bool, ℕ, Float}
use Rattle.std.specs.Float.{binary32}
use Rattle.std.specs.Float.Ieee.{nan_bits, of_bits, to_bits}

-- whether the bits are those of a NaN, as IEEE 754 has it
abbrev pub nan_pattern : ℕ → Bool
nan_pattern n = nan_bits binary32 n

-- the float of bits that are not, and the bits of a float
abbrev pub float_of : ℕ → Float
float_of n = of_bits binary32 n

abbrev pub bits_of : Float → ℕ
bits_of v = to_bits binary32 v
