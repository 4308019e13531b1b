-- Numbers in bytes, in either byte order.
-- Assumes nothing.
use Rattle.std.specs.Prelude.{List, [], ◌∷◌, reverse, ℕ, zero, suc, ◌+◌, ◌*◌, ◌/◌, ◌%◌, ◌<◌, take, drop}
use Rattle.words.specs.declared.Order.{Order}
use Rattle.words.specs.declared.Order.TheVariants.{Little, Big}

unfoldable pub other : Order → Order
other Little = Big
other Big = Little

-- the letter that names an order in a file: L and B
abbrev pub letter_of : Order → ℕ
letter_of Little = 76
letter_of Big = 66

-- bytes in an order, from those of a little-endian number, and back
unfoldable pub ordered : Order → List ℕ → List ℕ
ordered Little bs = bs
ordered Big bs = reverse bs

-- the number that bytes stand for, the least byte first; and the bytes of a number
unfoldable pub word : List ℕ → ℕ
word [] = 0
word (b ∷ s) = b + 256 * word s

unfoldable pub bytes_of : ℕ → ℕ → List ℕ
bytes_of zero v = []
bytes_of (suc w) v = v % 256 ∷ bytes_of w (v / 256)

-- in an order
unfoldable pub word_in : Order → List ℕ → ℕ
word_in o s = word (ordered o s)

unfoldable pub bytes_in : Order → ℕ → ℕ → List ℕ
bytes_in o w v = ordered o (bytes_of w v)

-- the bytes at k of a list, and the number that they stand for
unfoldable pub bytes_at : ℕ → List ℕ → ℕ → List ℕ
bytes_at n s k = take n (drop k s)

unfoldable pub number_at : Order → ℕ → List ℕ → ℕ → ℕ
number_at o n s k = word_in o (take n (drop k s))

-- n numbers of w bytes each, one after the other from k on
abbrev pub numbers_at : Order → (w n : ℕ) → List ℕ → ℕ → List ℕ
numbers_at o w zero s k = []
numbers_at o w (suc n) s k = number_at o w s k ∷ numbers_at o w n s (k + w)

-- numbers that are bytes
abbrev pub Bytes : List ℕ → Type 0
Bytes [] = Unit {0}
Bytes (b ∷ s) = (b < 256) × Bytes s
