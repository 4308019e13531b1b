-- Things written into a lent buffer, so many numbers each: what the buffer holds afterwards.
-- Assumes nothing.
use Rattle.std.specs.Prelude.{◌≡◌, Bool, true, false, List, [], ◌∷◌, ◌++◌, ℕ, ◌+◌, ◌*◌, ◌≤◌, ℤ, length, take, drop}

module _ {A : Type 0} (numbers : A → List ℤ) where
  -- their numbers, one after the other
  unfoldable pub flat : List A → List ℤ
  flat [] = []
  flat (a ∷ xs) = numbers a ++ flat xs

  -- the buffer with those of n numbers each from index k on, or as it was where they are only counted
  unfoldable pub written : ℕ → Bool → List ℤ → ℕ → List A → List ℤ
  written n true out k xs = take k out ++ (flat xs ++ drop (k + n * length xs) out)
  written n false out k xs = out

  -- k numbers were there before them, and k' are there behind them
  pub record Wrote (n : ℕ) (write : Bool) (out out' : List ℤ) (k k' : ℕ) (xs : List A) : Type 0 where
    -- where the next goes
    pub next : k' ≡ k + n * length xs
    -- the buffer, where there is room for them all
    pub holds : (write ≡ true → k + n * length xs ≤ length out) → out' ≡ written n write out k xs
