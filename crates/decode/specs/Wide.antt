-- Numbers of two, three or four bytes, where they stand, and a byte order told by a bool.
-- Assumes nothing.
use Rattle.std.specs.Prelude.{Bool, true, false, List, ℕ, ◌+◌, ◌≤◌, ℤ, length}
use Rattle.words.specs.Numbers.{word_in}
use Rattle.words.specs.Values.{signed}
use Rattle.words.specs.declared.Order.{Order}
use Rattle.words.specs.declared.Order.TheVariants.{Little, Big}

-- whether it is the big-endian order
abbrev pub order_for : Bool → Order
order_for true = Big
order_for false = Little

-- the signed number that w bytes stand for
abbrev pub whole : Bool → ℕ → List ℕ → ℤ
whole big w bytes = signed w (word_in (order_for big) bytes)

-- the widths of whole numbers
pub record Wide (w : ℕ) : Type 0 where
  pub least : 2 ≤ w
  pub most : w ≤ 4

-- a number of w bytes stands at a place of s
pub record NumberAt (w : ℕ) (s : List ℕ) (at : ℕ) : Type 0 where
  pub wide : Wide w
  pub inside : at + w ≤ length s
