-- Numbers that stand one after the other, as a list; and words of two bytes.
-- Assumes nothing.
use mathlib.Core.Path.{◌≡◌, refl, sym, ap, ◌∙◌}
use mathlib.Core.List.{List, [], ◌∷◌, ◌++◌}
use Prim.Native.Nat.{ℕ, zero, suc, ◌+◌, ◌*◌, ◌<◌}
use native.Mathlib.Nat.{add-zero}
use native.Mathlib.Omega.{arith}
use lib.ListN.{length, get_or}
use Rattle.words.specs.Numbers.{number_at, numbers_at}
use Rattle.words.specs.declared.Order.{Order}
use Rattle.index.specs.Events.{last_of}
use Rattle.index.specs.Listing.{words_at}

pub length-numbers : (o : Order) (w : ℕ) (s : List ℕ) (at n : ℕ) → length (numbers_at o w n s at) ≡ n
length-numbers o w s at zero = refl
length-numbers o w s at (suc n) = ap suc (length-numbers o w s (at + w) n)

module _ (o : Order) (s : List ℕ) where
  pub length-words : (at n : ℕ) → length (words_at o s at n) ≡ n
  length-words at n = length-numbers o 2 s at n

  -- some, and those behind them
  pub words-add : (at m n : ℕ) → words_at o s at (m + n) ≡ words_at o s at m ++ words_at o s (at + 2 * m) n
  words-add at zero n =
      let c : 0 + n ≡ n = omega arith in
      let d : at + 2 * 0 ≡ at = omega arith in
      rw (c, d)
  words-add at (suc m) n =
      let c : suc m + n ≡ suc (m + n) = omega arith in
      let d : at + 2 + 2 * m ≡ at + 2 * suc m = omega arith in
      ap (words_at o s at) c ∙
      ap (λ (l : List ℕ). number_at o 2 s at ∷ l) (words-add (at + 2) m n ∙ ap (λ (k : ℕ). words_at o s (at + 2) m ++ words_at o s k n) d)

  -- a list that has the word at its place for each
  pub words_are : (l : List ℕ) (at n : ℕ) → length l ≡ n → ((m : ℕ) → m < n → get_or l m 0 ≡ number_at o 2 s (at + 2 * m)) → l ≡ words_at o s at n
  words_are [] at zero e h = refl
  words_are [] at (suc n) e h = absurd (omega arith)
  words_are (x ∷ l) at zero e h = absurd (omega arith)
  words_are (x ∷ l) at (suc n) e h =
      let first : x ≡ number_at o 2 s at = h 0 (omega arith) ∙ ap (number_at o 2 s) (add-zero at) in
      let rest : l ≡ words_at o s (at + 2) n = words_are l (at + 2) n (omega arith) (λ m k. h (suc m) (omega arith) ∙ ap (number_at o 2 s) (omega arith)) in
      rw (first, rest)

  -- the last of them
  pub words_last : (before at n : ℕ) → last_of before (words_at o s at (suc n)) ≡ number_at o 2 s (at + 2 * n)
  unfolding last_of
  words_last before at zero = ap (number_at o 2 s) (sym (add-zero at))
  words_last before at (suc n) = words_last (number_at o 2 s at) (at + 2) n ∙ ap (number_at o 2 s) (omega arith)
