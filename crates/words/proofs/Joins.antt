-- A number of one byte more, once over the width.
-- Assumes nothing.
use mathlib.Core.Path.{◌≡◌}
use mathlib.Core.List.{List, [], ◌∷◌, ◌++◌, reverse_aux-eq}
use Prim.Native.Nat.{ℕ, suc, ◌+◌, ◌*◌, ◌^◌, ◌≤◌, ◌<◌}
use native.Mathlib.Nat.{pow-zero, pow-suc, mul_assoc}
use native.Mathlib.Numerals.{add-one}
use native.Mathlib.Omega.{arith}
use lib.ListN.{length, get_or, take, drop, length-drop, length-reverse}
use lib.Seq.{drop-cons, length-take-le}
use Rattle.words.specs.Numbers.{ordered, word, word_in, number_at}
use Rattle.words.specs.Joins.{join}
use Rattle.words.specs.declared.Order.{Order}
use Rattle.words.specs.declared.Order.TheVariants.{Little, Big}

pub word-append : (r : List ℕ) (x : ℕ) → word (r ++ (x ∷ [])) ≡ x * 256 ^ length r + word r
unfolding word
word-append [] x = rw pow-zero (omega arith)
word-append (y ∷ r) x = rw (word-append r x, pow-suc, ← mul_assoc) (omega arith)

pub number-1 : (o : Order) (s : List ℕ) (at : ℕ) → at < length s → number_at o 1 s at ≡ get_or s at 0
unfolding number_at word_in ordered word
number-1 Little s at k = rw (drop-cons s at 0 k) (omega arith)
number-1 Big s at k = rw (drop-cons s at 0 k) (omega arith)

pub number_step : (o : Order) (w : ℕ) (s : List ℕ) (at : ℕ) → at + suc w ≤ length s → number_at o (suc w) s at ≡ join o (256 ^ w) (get_or s at 0) (number_at o w s (at + 1))
unfolding number_at word_in ordered word
number_step Little w s at h =
    let k : at < length s = omega arith in
    rw (add-one, drop-cons s at 0 k) (omega arith)
number_step Big w s at h =
    let k : at < length s = omega arith in
    let r : w ≤ length (drop (suc at) s) = simp length-drop (omega arith) in
    rw (add-one, drop-cons s at 0 k, reverse_aux-eq (take w (drop (suc at) s)) (get_or s at 0 ∷ []), word-append, length-reverse, length-take-le w (drop (suc at) s) r)
