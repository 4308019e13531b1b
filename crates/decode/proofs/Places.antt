-- The number of two, three or four bytes from each of them, at a place and of all that there are, once over the order.
-- Assumes nothing.
use mathlib.Core.Path.{◌≡◌, refl, sym, ap, ◌∙◌}
use mathlib.Core.List.{List, [], ◌∷◌}
use Prim.Native.Nat.{ℕ, ◌+◌, ◌≤◌}
use native.Mathlib.Omega.{arith}
use lib.ListN.{length, get_or}
use lib.Seq.{take_all}
use Rattle.words.specs.Joins.{join}
use Rattle.words.specs.Numbers.{word_in, number_at}
use Rattle.words.specs.declared.Order.{Order}
use Rattle.words.proofs.Joins.{number-1, number_step}

module _ (o : Order) (s : List ℕ) where
  number-2 : (at : ℕ) → at + 2 ≤ length s → number_at o 2 s at ≡ join o 256 (get_or s at 0) (get_or s (at + 1) 0)
  number-2 at h = number_step o 1 s at h ∙ ap (join o 256 (get_or s at 0)) (number-1 o s (at + 1) (omega arith))

  number-3 : (at : ℕ) → at + 3 ≤ length s → number_at o 3 s at ≡ join o 65536 (get_or s at 0) (join o 256 (get_or s (at + 1) 0) (get_or s (at + 2) 0))
  number-3 at h =
      let e : at + 1 + 1 ≡ at + 2 = omega arith in
      number_step o 2 s at h ∙ ap (join o 65536 (get_or s at 0)) (rw e at (number-2 (at + 1) (omega arith)))

  pub number-4 :
      (at : ℕ) → at + 4 ≤ length s →
      number_at o 4 s at ≡ join o 16777216 (get_or s at 0) (join o 65536 (get_or s (at + 1) 0) (join o 256 (get_or s (at + 2) 0) (get_or s (at + 3) 0)))
  number-4 at h =
      let e : at + 1 + 1 ≡ at + 2 = omega arith in
      let f : at + 1 + 2 ≡ at + 3 = omega arith in
      number_step o 3 s at h ∙ ap (join o 16777216 (get_or s at 0)) (rw (e, f) at (number-3 (at + 1) (omega arith)))

  -- of all that there are
  all_of : (w : ℕ) → length s ≡ w → word_in o s ≡ number_at o w s 0
  unfolding number_at
  all_of w h = sym (ap (word_in o) (take_all w s (omega arith)))

  pub word-2 : length s ≡ 2 → word_in o s ≡ join o 256 (get_or s 0 0) (get_or s 1 0)
  word-2 h = all_of 2 h ∙ number-2 0 (omega arith)

  pub word-3 : length s ≡ 3 → word_in o s ≡ join o 65536 (get_or s 0 0) (join o 256 (get_or s 1 0) (get_or s 2 0))
  word-3 h = all_of 3 h ∙ number-3 0 (omega arith)

  pub word-4 : length s ≡ 4 → word_in o s ≡ join o 16777216 (get_or s 0 0) (join o 65536 (get_or s 1 0) (join o 256 (get_or s 2 0) (get_or s 3 0)))
  word-4 h = all_of 4 h ∙ number-4 0 (omega arith)

-- the bytes at a place, told one by one, are its number's
module _ (o : Order) (s : List ℕ) (at : ℕ) where
  pub place-2 : at + 2 ≤ length s → word_in o (get_or s at 0 ∷ get_or s (at + 1) 0 ∷ []) ≡ number_at o 2 s at
  place-2 h = word-2 o _ refl ∙ sym (number-2 o s at h)

  pub place-3 : at + 3 ≤ length s → word_in o (get_or s at 0 ∷ get_or s (at + 1) 0 ∷ get_or s (at + 2) 0 ∷ []) ≡ number_at o 3 s at
  place-3 h = word-3 o _ refl ∙ sym (number-3 o s at h)

  pub place-4 : at + 4 ≤ length s → word_in o (get_or s at 0 ∷ get_or s (at + 1) 0 ∷ get_or s (at + 2) 0 ∷ get_or s (at + 3) 0 ∷ []) ≡ number_at o 4 s at
  place-4 h = word-4 o _ refl ∙ sym (number-4 o s at h)
