-- The rows that a walk lists over a part of the file: of one walk after the other, and of a part as of the whole; and the walks that list none.
-- Assumes nothing.
use mathlib.Core.Path.{◌≡◌, refl, ap, ◌∙◌}
use mathlib.Core.Bool.{true, false}
use mathlib.Core.List.{List, [], ◌∷◌, ◌++◌}
use Prim.Native.Nat.{ℕ, ◌+◌, ◌-◌, ◌≤◌}
use native.Mathlib.Nat.{add_assoc}
use native.Mathlib.Omega.{arith}
use lib.ListN.{length, take, drop}
use Rattle.words.specs.Numbers.{bytes_at, number_at}
use Rattle.words.specs.declared.Order.{Order}
use Rattle.walk.specs.See.{goes, gate, see, Stays, numbered}
use Rattle.walk.specs.Tell.{tell}
use Rattle.walk.specs.Walk.{laid, Row, Walk, give, refuse, check, number, read, skip, list, ◌>>◌, ◌>>=◌}
use Rattle.walk.proofs.Apart.{stops-goes}
use Rattle.walk.proofs.Seen.{passes, part_bytes, length-bytes_at}

module _ {A B : Type 0} where
  -- one walk after the other, where the first goes on
  pub tell-bind : (o : Order) (b : ℕ) (s : List ℕ) (at : ℕ) (w : Walk A) (k : A → Walk B) {a : A} {e : ℕ} → see o b s at w ≡ goes a e → tell o b s at (w >>= k) ≡ tell o b s at w ++ tell o b s e (k a)
  unfolding see gate tell ◌>>=◌
  tell-bind o b s at (give x) k {a} {e} h =
      let i : x ≡ a = cc in
      let j : at ≡ e = cc in
      rw (i, j)
  tell-bind o b s at (refuse n p) k h = stops-goes h
  tell-bind o b s at (check true n p w) k h = tell-bind o b s at w k h
  tell-bind o b s at (check false n p w) k h = stops-goes h
  tell-bind o b s at (number n f) k h = tell-bind o b s (at + n) (f (number_at o n s (at - b))) k h
  tell-bind o b s at (read κ n f) k h = tell-bind o b s (at + n) (f (laid o κ (bytes_at n s (at - b)))) k h
  tell-bind o b s at (skip n w) k h = tell-bind o b s (at + n) w k h
  tell-bind o b s at (list p l c m w) k h = ap (λ (t : List Row). record { start = at - p; size = l; code = c; serial = m } ∷ t) (tell-bind o b s at w k h)

  pub tell-then : (o : Order) (b : ℕ) (s : List ℕ) (at : ℕ) (w : Walk A) (v : Walk B) {a : A} {e : ℕ} → see o b s at w ≡ goes a e → tell o b s at (w >> v) ≡ tell o b s at w ++ tell o b s e v
  unfolding ◌>>◌
  tell-then o b s at w v h = tell-bind o b s at w (λ _. v) h

  -- an answer that is mapped at the end lists nothing
  pub tell-give : (o : Order) (b : ℕ) (s : List ℕ) (at : ℕ) (w : Walk A) (f : A → B) → tell o b s at (w >>= λ a. give (f a)) ≡ tell o b s at w
  unfolding tell ◌>>=◌
  tell-give o b s at (give x) f = refl
  tell-give o b s at (refuse n p) f = refl
  tell-give o b s at (check true n p w) f = tell-give o b s at w f
  tell-give o b s at (check false n p w) f = refl
  tell-give o b s at (number n g) f = tell-give o b s (at + n) (g (number_at o n s (at - b))) f
  tell-give o b s at (read κ n g) f = tell-give o b s (at + n) (g (laid o κ (bytes_at n s (at - b)))) f
  tell-give o b s at (skip n w) f = tell-give o b s (at + n) w f
  tell-give o b s at (list p l c m w) f = ap (λ (t : List Row). record { start = at - p; size = l; code = c; serial = m } ∷ t) (tell-give o b s at w f)

module _ {A : Type 0} where
  module _ (o : Order) (b c a m : ℕ) (s : List ℕ) (stands : c ≡ b + a) (fits : a + m ≤ length s) where
    -- a walk that stays in a part lists the same there as in the whole
    pub tell-part : (w : Walk A) (at : ℕ) (Q : A → ℕ → Type 0) → c ≤ at → Stays (c + m) at w Q → tell o c (take m (drop a s)) at w ≡ tell o b s at w
    unfolding tell number_at bytes_at
    tell-part (give x) at Q g h = refl
    tell-part (refuse n p) at Q g h = refl
    tell-part (check true n p w) at Q g h = tell-part w at Q g (passes (numbered n) h refl)
    tell-part (check false n p w) at Q g h = refl
    tell-part (number n f) at Q g h =
        let d : a + (at - c) ≡ at - b = omega arith in
        rw (part_bytes s a m (at - c) n (omega (arith, h.0)), d) (tell-part (f (number_at o n s (at - b))) (at + n) Q (omega arith) (h.1 _))
    tell-part (read k n f) at Q g h =
        let d : a + (at - c) ≡ at - b = omega arith in
        rw (part_bytes s a m (at - c) n (omega (arith, h.0)), d) (tell-part (f (laid o k (bytes_at n s (at - b)))) (at + n) Q (omega arith) (h.1 _ (length-bytes_at o b s k n at (omega (arith, h.0)) (omega arith))))
    tell-part (skip n w) at Q g h = tell-part w (at + n) Q (omega arith) h.1
    tell-part (list p l x y w) at Q g h = ap (λ (t : List Row). record { start = at - p; size = l; code = x; serial = y } ∷ t) (tell-part w at Q g h)

  -- the body of the record at p, handed on as the part up to q
  pub tell-body : (o : Order) (b p q : ℕ) (s : List ℕ) (w : Walk A) (Q : A → ℕ → Type 0) → p + 16 ≤ q → q ≤ length s → Stays (b + q) (b + p + 16) w Q →
      tell o (b + p + 16) (take (q - (p + 16)) (drop (p + 16) s)) (b + p + 16) w ≡ tell o b s (b + (p + 16)) w
  tell-body o b p q s w Q h f k =
      let z : b + q ≡ b + p + 16 + (q - (p + 16)) = omega arith in
      tell-part o b (b + p + 16) (p + 16) (q - (p + 16)) s (add_assoc b p 16) (omega arith) w (b + p + 16) Q (omega arith) (rw z at k) ∙ ap (λ (x : ℕ). tell o b s x w) (add_assoc b p 16)

-- a walk that lists no row
module _ {A : Type 0} where
  abbrev pub Silent : Walk A → Type 0
  Silent (give a) = Unit {0}
  Silent (refuse n p) = Unit {0}
  Silent (check c n p w) = Silent w
  Silent (number n f) = (v : ℕ) → Silent (f v)
  Silent (read k n f) = (bs : List ℕ) → Silent (f bs)
  Silent (skip n w) = Silent w
  Silent (list p l c m w) = ⊥

  pub silent : (o : Order) (b : ℕ) (s : List ℕ) (at : ℕ) (w : Walk A) → Silent w → tell o b s at w ≡ []
  unfolding tell
  silent o b s at (give a) h = refl
  silent o b s at (refuse n p) h = refl
  silent o b s at (check true n p w) h = silent o b s at w h
  silent o b s at (check false n p w) h = refl
  silent o b s at (number n f) h = silent o b s (at + n) (f (number_at o n s (at - b))) (h _)
  silent o b s at (read k n f) h = silent o b s (at + n) (f (laid o k (bytes_at n s (at - b)))) (h _)
  silent o b s at (skip n w) h = silent o b s (at + n) w h
  silent o b s at (list p l c m w) h = absurd h

module _ {A B : Type 0} where
  pub silent-bind : (w : Walk A) (k : A → Walk B) → Silent w → ((a : A) → Silent (k a)) → Silent (w >>= k)
  unfolding ◌>>=◌
  silent-bind (give a) k h g = g a
  silent-bind (refuse n p) k h g = tt
  silent-bind (check c n p w) k h g = silent-bind w k h g
  silent-bind (number n f) k h g = λ v. silent-bind (f v) k (h v) g
  silent-bind (read κ n f) k h g = λ bs. silent-bind (f bs) k (h bs) g
  silent-bind (skip n w) k h g = silent-bind w k h g
  silent-bind (list p l c m w) k h g = absurd h

  pub silent-then : (w : Walk A) (v : Walk B) → Silent w → Silent v → Silent (w >> v)
  unfolding ◌>>◌
  silent-then w v h g = silent-bind w (λ _. v) h (λ _. g)
