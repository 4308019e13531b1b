-- A number of at most four bytes is one of four, with zeros for its greatest bytes.
-- Assumes nothing.
use mathlib.Core.Path.{◌≡◌, refl, sym, ap, ◌∙◌, subst}
use mathlib.Core.List.{List, [], ◌∷◌, ◌++◌, reverse, reverse_aux-eq, append-nil}
use Prim.Native.Nat.{ℕ, zero, suc, ◌+◌, ◌-◌, ◌≤◌, ◌<◌}
use native.Mathlib.Nat.{suc_inj, div-div-eq-div-mul}
use native.Mathlib.Omega.{arith}
use lib.ListN.{length, get_or, take, drop, replicate, length-append, length-drop, length-replicate, drop_of_length-le}
use lib.Seq.{length-take-le}
use Rattle.std.specs.Int.{w32, from_le_bytes, from_be_bytes, to_le_bytes, to_be_bytes}
use Rattle.std.proofs.lemmas.List.{drop-replicate, take-replicate}
use Rattle.words.specs.Numbers.{ordered, word, word_in, number_at, bytes_of}
use Rattle.words.specs.Values.{word_count}
use Rattle.words.specs.declared.Order.{Order}
use Rattle.words.specs.declared.Order.TheVariants.{Little, Big}
use Rattle.words.proofs.Words.{bytes, number_lt}
use Rattle.words.proofs.Joins.{word-append}
use Rattle.words.proofs.Fronts.{put}

-- the first n bytes of s, written out
abbrev pub listed : ℕ → List ℕ → List ℕ
listed zero s = []
listed (suc n) s = get_or s 0 0 ∷ listed n (drop 1 s)

is-listed : (n : ℕ) (s : List ℕ) → length s ≡ n → s ≡ listed n s
is-listed zero [] h = refl
is-listed zero (x ∷ s) h = absurd (omega arith)
is-listed (suc n) [] h = absurd (omega arith)
is-listed (suc n) (x ∷ s) h = ap (λ (t : List ℕ). x ∷ t) (is-listed n s (suc_inj h))

-- what holds of the first n bytes of s, written out, holds of s
pub written_out : (n : ℕ) (s : List ℕ) (P : List ℕ → Type 0) → length s ≡ n → P (listed n s) → P s
written_out n s P h p = subst P (sym (is-listed n s h)) p

-- the library's two readings of four bytes
pub four-little : (s : List ℕ) → length s ≡ 4 → from_le_bytes w32 s ≡ word s
unfolding word
four-little s h = written_out 4 s (λ (t : List ℕ). from_le_bytes w32 t ≡ word t) h (omega arith)

four-big : (s : List ℕ) → length s ≡ 4 → from_be_bytes w32 s ≡ word (reverse s)
unfolding word
four-big s h = written_out 4 s (λ (t : List ℕ). from_be_bytes w32 t ≡ word (reverse t)) h (omega arith)

-- and its two ways to write them: the first w bytes of the one, or the last w of the other, are the number's w bytes
module _ (n : ℕ) where
  little-four : to_le_bytes w32 n ≡ bytes_of 4 n
  unfolding bytes_of
  little-four = simp div-div-eq-div-mul

  big-four : to_be_bytes w32 n ≡ reverse (bytes_of 4 n)
  unfolding bytes_of
  big-four = simp div-div-eq-div-mul

  first-bytes : (w : ℕ) → w ≤ 4 → (take w (bytes_of 4 n) ≡ bytes_of w n) × (take (4 - (4 - w)) (drop (4 - w) (reverse (bytes_of 4 n))) ≡ reverse (bytes_of w n))
  unfolding bytes_of
  first-bytes zero h = (refl, refl)
  first-bytes (suc zero) h = (refl, refl)
  first-bytes (suc (suc zero)) h = (refl, refl)
  first-bytes (suc (suc (suc zero))) h = (refl, refl)
  first-bytes (suc (suc (suc (suc zero)))) h = (refl, refl)
  first-bytes (suc (suc (suc (suc (suc w))))) h = absurd (omega arith)

  pub put-little : (w : ℕ) → w ≤ 4 → take w (to_le_bytes w32 n) ≡ bytes_of w n
  put-little w h = rw little-four (first-bytes w h).0

  pub put-big : (w : ℕ) → w ≤ 4 → take (4 - (4 - w)) (drop (4 - w) (to_be_bytes w32 n)) ≡ reverse (bytes_of w n)
  put-big w h = rw big-four (first-bytes w h).1

-- zeros behind bytes that stand the least first, and before those that stand the greatest first
word-zeros : (n : ℕ) → word (replicate n 0) ≡ 0
unfolding word
word-zeros zero = refl
word-zeros (suc n) = omega (arith, word-zeros n)

word-behind : (r : List ℕ) (k : ℕ) → word (r ++ replicate k 0) ≡ word r
unfolding word
word-behind [] k = word-zeros k
word-behind (b ∷ r) k = rw (word-behind r k)

word-before : (k : ℕ) (r : List ℕ) → word (reverse (replicate k 0 ++ r)) ≡ word (reverse r)
word-before zero r = refl
word-before (suc k) r = rw (reverse_aux-eq (replicate k 0 ++ r) (0 ∷ []), word-append, word-before k r) (omega arith)

-- the number of w bytes, as four bytes have it into which they were copied, in front or at the end
module _
    (o : Order) (w : ℕ) (s bs : List ℕ) (at r : ℕ) (f : w ≤ 4) (h : at + w ≤ length s) (b : (i : ℕ) → get_or s i 0 < 256)
    (e : bs ≡ take (at + w - at) (drop at s)) where
  long : length bs ≡ w
  long = rw e (length-take-le (at + w - at) (drop at s) (rw length-drop (omega arith)) ∙ omega arith)

  copied : bs ≡ take w (drop at s)
  copied = let k : at + w - at ≡ w = omega arith in rw k at e

  told : r ≡ number_at o w s at → (r ≡ number_at o w s at) × (r < word_count w)
  told i = (i, rw i (number_lt o w s at (bytes s b) h))

  pub number-little : o ≡ Little → r ≡ from_le_bytes w32 (bs ++ drop w (replicate 4 0)) → (r ≡ number_at o w s at) × (r < word_count w)
  unfolding number_at word_in ordered
  number-little i q =
      let l : length (bs ++ replicate (4 - w) 0) ≡ 4 = rw (length-append, length-replicate, long) (omega arith) in
      told (rw (i, ← copied, q, drop-replicate {X = ℕ} w 4 0) (four-little (bs ++ replicate (4 - w) 0) l ∙ word-behind bs (4 - w)))

  pub number-big : o ≡ Big → r ≡ from_be_bytes w32 (put (4 - w) (4 - (4 - w)) (replicate 4 0) bs) → (r ≡ number_at o w s at) × (r < word_count w)
  unfolding number_at word_in ordered
  number-big i q =
      let k = 4 - w in
      let b = drop k (replicate {A = ℕ} 4 0) in
      let z : drop (4 - k) b ≡ [] = drop_of_length-le b (rw (length-drop, length-replicate) (omega arith)) in
      let p : put k (4 - k) (replicate 4 0) bs ≡ replicate k 0 ++ bs = rw (z, append-nil, take-replicate {X = ℕ} k 4 0 (omega arith)) in
      let l : length (replicate k 0 ++ bs) ≡ 4 = rw (length-append, length-replicate, long) (omega arith) in
      told (rw (i, ← copied, q, p) (four-big (replicate k 0 ++ bs) l ∙ word-before k bs))
