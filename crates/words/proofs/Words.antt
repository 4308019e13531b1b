-- Bytes and the numbers that they stand for, once over the width.
-- Assumes nothing.
use mathlib.Core.Path.{◌≡◌, refl, sym, ap, ◌∙◌}
use mathlib.Core.List.{List, [], ◌∷◌, reverse, reverse_aux, reverse-reverse}
use Prim.Native.Nat.{ℕ, zero, suc, ◌+◌, ◌*◌, ◌/◌, ◌%◌, ◌^◌, ◌≤◌, ◌<◌}
use native.Mathlib.Nat.{pow-zero, pow-suc, div-lt_iff_lt-mul, zero-lt-suc}
use native.Mathlib.Omega.{arith}
use lib.ListN.{length, take, drop, get_or, length-reverse, length-drop}
use lib.Seq.{length-take-le}
use Rattle.words.specs.Numbers.{other, ordered, word, bytes_of, word_in, bytes_in, number_at, Bytes}
use Rattle.words.specs.declared.Order.{Order}
use Rattle.words.specs.declared.Order.TheVariants.{Little, Big}

-- what a slice of bytes is known to hold, by index
pub bytes : (s : List ℕ) → ((i : ℕ) → get_or s i 0 < 256) → Bytes s
bytes [] h = tt
bytes (b ∷ s) h = (h 0, bytes s (λ i. h (suc i)))

pub bytes_take : (n : ℕ) (s : List ℕ) → Bytes s → Bytes (take n s)
bytes_take zero s h = tt
bytes_take (suc n) [] h = tt
bytes_take (suc n) (b ∷ s) h = (h.0, bytes_take n s h.1)

pub bytes_drop : (n : ℕ) (s : List ℕ) → Bytes s → Bytes (drop n s)
bytes_drop zero s h = h
bytes_drop (suc n) [] h = tt
bytes_drop (suc n) (b ∷ s) h = bytes_drop n s h.1

bytes-reverse : (s r : List ℕ) → Bytes s → Bytes r → Bytes (reverse_aux s r)
bytes-reverse [] r h k = k
bytes-reverse (b ∷ s) r h k = bytes-reverse s (b ∷ r) h.1 (h.0, k)

pub bytes-ordered : (o : Order) (s : List ℕ) → Bytes s → Bytes (ordered o s)
unfolding ordered
bytes-ordered Little s h = h
bytes-ordered Big s h = bytes-reverse s [] h tt

ordered-ordered : (o : Order) (s : List ℕ) → ordered o (ordered o s) ≡ s
unfolding ordered
ordered-ordered Little s = refl
ordered-ordered Big s = reverse-reverse s

length-ordered : (o : Order) (s : List ℕ) → length (ordered o s) ≡ length s
unfolding ordered
length-ordered Little s = refl
length-ordered Big s = length-reverse s

pub length-bytes_of : (w v : ℕ) → length (bytes_of w v) ≡ w
unfolding bytes_of
length-bytes_of zero v = refl
length-bytes_of (suc w) v = ap suc (length-bytes_of w (v / 256))

pub bytes-bytes_of : (w v : ℕ) → Bytes (bytes_of w v)
unfolding bytes_of
bytes-bytes_of zero v = tt
bytes-bytes_of (suc w) v = (omega arith, bytes-bytes_of w (v / 256))

pub word-bytes_of : (w v : ℕ) → v < 256 ^ w → word (bytes_of w v) ≡ v
unfolding word bytes_of
word-bytes_of zero v h = omega (arith, rw pow-zero at h)
word-bytes_of (suc w) v h = rw (word-bytes_of w (v / 256) ((div-lt_iff_lt-mul (zero-lt-suc 255)).1 (rw pow-suc at h))) (omega arith)

pub bytes_of-word : (s : List ℕ) → Bytes s → bytes_of (length s) (word s) ≡ s
unfolding word bytes_of
bytes_of-word [] h = refl
bytes_of-word (b ∷ s) h =
    let m : (b + 256 * word s) % 256 ≡ b = omega (arith, h.0) in
    let d : (b + 256 * word s) / 256 ≡ word s = omega (arith, h.0) in
    rw (m, d, bytes_of-word s h.1)

pub word_lt : (s : List ℕ) → Bytes s → word s < 256 ^ length s
unfolding word
word_lt [] h = rw pow-zero (omega arith)
word_lt (b ∷ s) h = rw pow-suc (omega (arith, h.0, word_lt s h.1))

-- the same in an order
pub word-other : (o : Order) (s : List ℕ) → word_in (other o) (reverse s) ≡ word_in o s
unfolding word_in ordered other
word-other Little s = rw reverse-reverse
word-other Big s = refl

pub word_in-lt : (o : Order) (s : List ℕ) → Bytes s → word_in o s < 256 ^ length s
unfolding word_in
word_in-lt o s h = rw (← length-ordered o s) (word_lt (ordered o s) (bytes-ordered o s h))

pub length-bytes_in : (o : Order) (w v : ℕ) → length (bytes_in o w v) ≡ w
unfolding bytes_in
length-bytes_in o w v = length-ordered o (bytes_of w v) ∙ length-bytes_of w v

pub word_in-bytes_in : (o : Order) (w v : ℕ) → v < 256 ^ w → word_in o (bytes_in o w v) ≡ v
unfolding word_in bytes_in
word_in-bytes_in o w v h = rw ordered-ordered (word-bytes_of w v h)

pub bytes_in-word_in : (o : Order) (s : List ℕ) → Bytes s → bytes_in o (length s) (word_in o s) ≡ s
unfolding word_in bytes_in
bytes_in-word_in o s h = rw (← length-ordered o s, bytes_of-word (ordered o s) (bytes-ordered o s h)) (ordered-ordered o s)

-- the bytes at a place, and their number: it is below the count of words, and in the other order that of the same bytes
length_at : (w : ℕ) (s : List ℕ) (at : ℕ) → at + w ≤ length s → length (take w (drop at s)) ≡ w
length_at w s at l = length-take-le w (drop at s) (rw length-drop (omega arith))

bytes-at : (w : ℕ) (s : List ℕ) (at : ℕ) → Bytes s → Bytes (take w (drop at s))
bytes-at w s at b = bytes_take w (drop at s) (bytes_drop at s b)

pub number_lt : (o : Order) (w : ℕ) (s : List ℕ) (at : ℕ) → Bytes s → at + w ≤ length s → number_at o w s at < 256 ^ w
unfolding number_at
number_lt o w s at b l = rw (length_at w s at l) at (word_in-lt o (take w (drop at s)) (bytes-at w s at b))

pub number-other : (o : Order) (w : ℕ) (s : List ℕ) (at : ℕ) → Bytes s → at + w ≤ length s → number_at (other o) w s at ≡ word_in (other o) (bytes_in o w (number_at o w s at))
unfolding number_at
number-other o w s at b l =
    let t = take w (drop at s) in
    let e : bytes_in o w (word_in o t) ≡ t = ap (λ (n : ℕ). bytes_in o n (word_in o t)) (sym (length_at w s at l)) ∙ bytes_in-word_in o t (bytes-at w s at b) in
    ap (word_in (other o)) (sym e)
