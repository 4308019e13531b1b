-- Runs of bytes: turned, pasted, searched.
-- Assumes nothing.
use Rattle.std.specs.Prelude.{◌≡◌, cond, List, [], ◌∷◌, ◌++◌, reverse, ℕ, zero, suc, ◌+◌, ◌≤◌, eqb, length, take, drop}
use Rattle.words.specs.declared.Order.{Order}
use Rattle.words.specs.Numbers.{bytes_in}

-- the first n numbers of s, each of w bytes, each with its bytes in the other order
unfoldable pub turned : ℕ → ℕ → List ℕ → List ℕ
turned w zero s = []
turned w (suc n) s = reverse (take w s) ++ turned w n (drop w s)

-- numbers, one after the other, each in w bytes
unfoldable pub numbers_in : Order → ℕ → List ℕ → List ℕ
numbers_in o w [] = []
numbers_in o w (v ∷ vs) = bytes_in o w v ++ numbers_in o w vs

-- xs in the place of what stands at `at` in out
unfoldable pub pasted : List ℕ → ℕ → List ℕ → List ℕ
pasted out at xs = take at out ++ (xs ++ drop (at + length xs) out)

-- where the first byte stands that is not 0, or the length
unfoldable pub first_nonzero : List ℕ → ℕ
first_nonzero [] = 0
first_nonzero (b ∷ s) = cond (eqb b 0) (suc (first_nonzero s)) 0

-- the first k bytes of s are 0, so that the search may go on at k
pub record Zeros (s : List ℕ) (k : ℕ) : Type 0 where
  pub within : k ≤ length s
  pub passed : first_nonzero s ≡ k + first_nonzero (drop k s)
