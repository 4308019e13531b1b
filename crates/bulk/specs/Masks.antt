-- Words of eight bytes, put together from three, each under a mask.
-- Assumes nothing.
use Rattle.std.specs.Prelude.{List, ℕ, take, drop}
use Rattle.std.specs.Int.Bits.{bit_and, bit_or}
use Rattle.words.specs.Numbers.{word}

-- what x has under the mask a, y under b and z under c
abbrev pub masked : ℕ → ℕ → ℕ → ℕ → ℕ → ℕ → ℕ
masked x y z a b c = bit_or (bit_or (bit_and x a) (bit_and y b)) (bit_and z c)

-- of twelve bytes: the last eight under a, the middle eight under b and the first eight under c
abbrev pub woven_word : List ℕ → ℕ → ℕ → ℕ → ℕ
woven_word s a b c = masked (word (take 8 (drop 4 s))) (word (take 8 (drop 2 s))) (word (take 8 s)) a b c
