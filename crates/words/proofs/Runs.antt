-- Runs of bytes: what is pasted, and numbers that are turned, once over the width.
-- Assumes nothing.
use mathlib.Core.Path.{◌≡◌, refl, sym, ◌∙◌}
use mathlib.Core.List.{List, [], ◌∷◌, ◌++◌, reverse, append_assoc, append-nil, reverse-reverse}
use Prim.Native.Nat.{ℕ, zero, suc, ◌+◌, ◌-◌, ◌*◌, ◌<◌, ◌≤◌, zero-le}
use native.Mathlib.Nat.{zero-mul, suc-mul, mul-le-mul_right, suc-add, add_comm, add_assoc, zero-add, add-zero}
use native.Mathlib.Numerals.{add-one}
use native.Mathlib.Omega.{arith}
use lib.ListN.{length, take, drop, set, length-append, length-take, length-drop, length-reverse, take-append-drop, drop_of_length-le}
use lib.Seq.{drop-drop, take_at, drop_at, take-add, take-append_seam, length-take-le, set_split}
use Rattle.words.specs.Runs.{turned, numbers_in, pasted}
use Rattle.words.specs.Numbers.{other, ordered, bytes_of, bytes_in, bytes_at, number_at}
use Rattle.words.specs.declared.Order.{Order}
use Rattle.words.specs.declared.Order.TheVariants.{Little, Big}
use Rattle.words.proofs.Words.{length-bytes_in, word-other}

-- pasting

pub pasted-nothing : (out : List ℕ) (at : ℕ) → pasted out at [] ≡ out
unfolding pasted
pasted-nothing out at = rw add-zero (take-append-drop at out)

pub length-pasted : (out : List ℕ) (at : ℕ) (xs : List ℕ) → at + length xs ≤ length out → length (pasted out at xs) ≡ length out
unfolding pasted
length-pasted out at xs h = simp (length-append, length-take, length-drop) (omega arith)

front : (out : List ℕ) (at : ℕ) (xs : List ℕ) → at ≤ length out → length (take at out ++ xs) ≡ at + length xs
front out at xs h = rw (length-append, length-take-le at out h)

-- what stands before the end of what was pasted, and after it
pub take-pasted : (out : List ℕ) (at : ℕ) (xs : List ℕ) → at ≤ length out → take (at + length xs) (pasted out at xs) ≡ take at out ++ xs
unfolding pasted
take-pasted out at xs h = rw (← append_assoc) (take_at (take at out ++ xs) (drop (at + length xs) out) (at + length xs) (front out at xs h))

pub drop-pasted : (out : List ℕ) (at : ℕ) (xs : List ℕ) → at ≤ length out → drop (at + length xs) (pasted out at xs) ≡ drop (at + length xs) out
unfolding pasted
drop-pasted out at xs h = rw (← append_assoc) (drop_at (take at out ++ xs) (drop (at + length xs) out) (at + length xs) (front out at xs h))

-- what was pasted stands there
pub bytes_at-pasted : (out : List ℕ) (at : ℕ) (xs : List ℕ) → at ≤ length out → bytes_at (length xs) (pasted out at xs) at ≡ xs
unfolding bytes_at pasted
bytes_at-pasted out at xs h = rw (drop_at (take at out) (xs ++ drop (at + length xs) out) at (length-take-le at out h)) (take-append_seam xs (drop (at + length xs) out))

-- by what stands before the place and from it on
pasted_at : (d : List ℕ) (at : ℕ) (front rest ys : List ℕ) → take at d ≡ front → drop at d ≡ rest → pasted d at ys ≡ front ++ (ys ++ drop (length ys) rest)
unfolding pasted
pasted_at d at front rest ys p q = rw (← drop-drop (length ys) at d, p, q)

-- two pastes, the second where the first ends, are one
pub pasted-pasted : (out : List ℕ) (at : ℕ) (xs ys : List ℕ) → at ≤ length out → pasted (pasted out at xs) (at + length xs) ys ≡ pasted out at (xs ++ ys)
unfolding pasted
pasted-pasted out at xs ys h =
    pasted_at (pasted out at xs) (at + length xs) _ _ ys (take-pasted out at xs h) (drop-pasted out at xs h)
    ∙ simp (append_assoc, drop-drop, length-append, add_assoc)

-- a part that a call wrote: it is pasted where it begins
pub part-pasted : (d ys : List ℕ) (at m : ℕ) → length ys ≡ m → take at d ++ (ys ++ drop m (drop at d)) ≡ pasted d at ys
unfolding pasted
part-pasted d ys at m h = rw (drop-drop, ← h)

-- a byte that is stored
pub set-pasted : (d : List ℕ) (i v : ℕ) → i < length d → set d i v ≡ pasted d i (v ∷ [])
unfolding pasted
set-pasted d i v h = rw add-one (set_split d i v h)

-- what is written front to back: xs stand in the place of the first bytes of d₀, and ys come next
pub more-written : (d₀ d xs ys : List ℕ) (at : ℕ) → d ≡ pasted d₀ 0 xs → at ≡ length xs → pasted d at ys ≡ pasted d₀ 0 (xs ++ ys)
more-written d₀ d xs ys at e h = rw (e, h, ← zero-add (length xs)) (pasted-pasted d₀ 0 xs ys zero-le)

pub all-written : (d₀ d xs : List ℕ) → d ≡ pasted d₀ 0 xs → length d₀ ≤ length xs → d ≡ xs
unfolding pasted
all-written d₀ d xs e h = e ∙ rw (zero-add, drop_of_length-le d₀ h, append-nil)

-- turned numbers

-- one number, and the others
pub turned-append : (w n : ℕ) (a t : List ℕ) → length a ≡ w → turned w (suc n) (a ++ t) ≡ reverse a ++ turned w n t
unfolding turned
turned-append w n a t h = rw (take_at a t w h, drop_at a t w h)

-- more numbers of a run are those of the run's rest
pub turned-add : (w i k : ℕ) (s : List ℕ) → turned w (i + k) s ≡ turned w i s ++ turned w k (drop (i * w) s)
unfolding turned
turned-add w zero k s = simp (zero-add, zero-mul)
turned-add w (suc i) k s = rw (suc-add, turned-add w i k (drop w s), drop-drop, append_assoc, suc-mul, add_comm w)

-- the room of one number more
room : (w n m : ℕ) → suc n * w ≤ m → n * w + w ≤ m
room w n m h = rw suc-mul at h

pub length-turned : (w n : ℕ) (s : List ℕ) → n * w ≤ length s → length (turned w n s) ≡ n * w
unfolding turned
length-turned w zero s h = sym (zero-mul w)
length-turned w (suc n) s h =
    let g = room w n (length s) h in
    let r : n * w ≤ length (drop w s) = simp length-drop (omega arith) in
    rw (length-append, length-reverse, length-take-le w s (omega arith), length-turned w n (drop w s) r, suc-mul) (add_comm w (n * w))

-- a run's numbers are those of its own bytes alone
pub turned-take : (w n : ℕ) (s : List ℕ) → n * w ≤ length s → turned w n (take (n * w) s) ≡ turned w n s
unfolding turned
turned-take w zero s h = refl
turned-take w (suc n) s h =
    let g = room w n (length s) h in
    let r : n * w ≤ length (drop w s) = simp length-drop (omega arith) in
    rw (suc-mul, add_comm (n * w) w, take-add w (n * w) s)
    (turned-append w n (take w s) (take (n * w) (drop w s)) (length-take-le w s (omega arith))
    ∙ rw (turned-take w n (drop w s) r))

-- turning twice is the run itself
pub turned-turned : (w n : ℕ) (s : List ℕ) → length s ≡ n * w → turned w n (turned w n s) ≡ s
unfolding turned
turned-turned w zero [] h = refl
turned-turned w zero (b ∷ s) h = absurd (omega (arith, zero-mul w))
turned-turned w (suc n) s h =
    let g : length s ≡ n * w + w = h ∙ suc-mul n w in
    let a : length (reverse (take w s)) ≡ w = length-reverse (take w s) ∙ length-take-le w s (omega arith) in
    let r : length (drop w s) ≡ n * w = simp length-drop (omega arith) in
    turned-append w n (reverse (take w s)) (turned w n (drop w s)) a
    ∙ rw (reverse-reverse, turned-turned w n (drop w s) r) (take-append-drop w s)

-- the bytes of a number in the other order
pub bytes_in-other : (o : Order) (w v : ℕ) → bytes_in (other o) w v ≡ reverse (bytes_in o w v)
unfolding bytes_in ordered other
bytes_in-other Little w v = refl
bytes_in-other Big w v = sym (reverse-reverse (bytes_of w v))

-- so a run of numbers, turned, is the run of the same numbers in the other order
pub turned-numbers : (o : Order) (w : ℕ) (vs : List ℕ) → turned w (length vs) (numbers_in o w vs) ≡ numbers_in (other o) w vs
unfolding numbers_in turned
turned-numbers o w [] = refl
turned-numbers o w (v ∷ vs) =
    turned-append w (length vs) (bytes_in o w v) (numbers_in o w vs) (length-bytes_in o w v)
    ∙ rw (bytes_in-other, turned-numbers o w vs)

-- and each number of a turned run, read in the other order, is what it was
pub number-turned : (o : Order) (w n i : ℕ) (s : List ℕ) → i < n → n * w ≤ length s → number_at (other o) w (turned w n s) (i * w) ≡ number_at o w s (i * w)
unfolding number_at turned
number-turned o w n i s h f =
    let k = n - suc i in
    let e : n ≡ i + suc k = omega arith in
    let b = take w (drop (i * w) s) in
    let g : i * w + w ≤ length s = omega (arith, mul-le-mul_right w h, suc-mul i w) in
    let l : length (reverse b) ≡ w = length-reverse b ∙ length-take-le w (drop (i * w) s) (simp length-drop (omega arith)) in
    let rest = turned w k (drop w (drop (i * w) s)) in
    rw (e, turned-add w i (suc k) s, drop_at (turned w i s) (reverse b ++ rest) (i * w) (length-turned w i s (omega arith)), take_at (reverse b) rest w l)
    (word-other o b)
