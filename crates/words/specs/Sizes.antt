-- What a slice can hold.
-- Assumes nothing.
use Rattle.std.specs.Prelude.{ℕ, ◌<◌}

-- a slice has fewer bytes than this: 2 to the power of 63
abbrev pub addressable : ℕ
addressable = 9223372036854775808

-- a length, a place or an end that a slice can have
abbrev pub Addressable : ℕ → Type 0
Addressable n = n < addressable
