-- Numbers of one width, decoded into a buffer.
-- Assumes nothing.
use Rattle.std.specs.Prelude.{◌≡◌, List, ℕ, ◌*◌, ◌<◌, length, get_or}
use Rattle.words.specs.Numbers.{number_at}
use Rattle.words.specs.declared.Order.{Order}

-- a word that is answered as it is
abbrev pub itself : ℕ → ℕ
itself n = n

-- the buffer d afterwards, d': its numbers are the words of s, of w bytes each in the order o, each by what it means
pub record Decoded {A : Type 0} (none : A) (means : ℕ → A) (o : Order) (w : ℕ) (s : List ℕ) (d d' : List A) : Type 0 where
  -- it is as long as it was
  pub long : length d' ≡ length d
  -- each number is that of the bytes at its place
  pub each : (q : ℕ) → q < length d → get_or d' q none ≡ means (number_at o w s (q * w))
