-- What the bytes have to be that a run of numbers is turned from and into.
-- Assumes nothing.
use Rattle.std.specs.Prelude.{◌≡◌, List, ℕ, ◌+◌, ◌*◌, ◌≤◌, length}

-- n numbers of w bytes, and their room
pub record Run (w n : ℕ) (s d : List ℕ) : Type 0 where
  -- s is the numbers, and nothing else
  pub source : length s ≡ n * w
  -- d has room for them, and for nothing else
  pub room : length d ≡ n * w

-- the numbers that the format knows have two, three or four bytes
pub record NumberWidth (width : ℕ) : Type 0 where
  -- the clock's and the narrowest samples
  pub least : 2 ≤ width
  -- the fields of records and the widest samples
  pub most : width ≤ 4

-- s is a run of numbers
pub record NumbersPart (width n : ℕ) (s d : List ℕ) : Type 0 where
  -- each of this width
  pub wide : NumberWidth width
  -- so many, and d has room for them
  pub run : Run width n s d

-- n numbers of three bytes among their neighbours, and their room
pub record RunFits (n : ℕ) (s d : List ℕ) : Type 0 where
  -- s is the numbers, with two bytes before them and two behind them
  pub source : length s ≡ n * 3 + 4
  -- d has room for the numbers alone
  pub room : length d ≡ n * 3
