-- A stricter walk whose own tests come in file order refuses at the lowest place of all its faults.
-- Assumes nothing.
use mathlib.Core.Path.{◌≡◌}
use mathlib.Core.Bool.{Bool, true, false}
use mathlib.Core.List.{List, [], ◌∷◌}
use Prim.Native.Nat.{ℕ, suc, ◌+◌, ◌-◌, ◌≤◌, ◌<◌}
use native.Mathlib.Omega.{arith}
use lib.ListN.{length}
use Rattle.walk.specs.Faults.{Fault, Rising}
use Rattle.walk.specs.Plays.{Plays, gives, checks, numbers, reads, skips, lists}
use Rattle.walk.specs.Walk.{Kind, Event, Walk, give, refuse, check, number, read, skip, list, size, ◌>>=◌, ◌>>◌}
use Rattle.walk.proofs.Implied.{Implies, same, stop, weaker, word, bytes, past, listed, faults}

-- a stricter walk whose own tests come in file order: `k` bytes back from where the walks stand, no place has been tested by the stricter walk
-- alone, and at their end none `e` bytes back
pub data Orders {A : Type 0} : ℕ → Walk A → Walk A → ℕ → Type 0 where
  gave : {k e : ℕ} {a : A} → e ≤ k → Orders k (give a) (give a) e
  halt : {k e n p : ℕ} → Orders k (refuse n p) (refuse n p) e
  kept : {k e : ℕ} {c : Bool} {n p : ℕ} {w v : Walk A} → Orders k w v e → Orders k (check c n p w) (check c n p v) e
  tighter : {k e : ℕ} {c d : Bool} {n p : ℕ} {w v : Walk A} → (c ≡ true → d ≡ true) → 0 < p → p ≤ k → Orders (p - 1) w v e →
      Orders k (check c n p w) (check d n p v) e
  counts : {k e n : ℕ} {f g : ℕ → Walk A} → ((x : ℕ) → Orders (k + n) (f x) (g x) e) → Orders k (number n f) (number n g) e
  takes : {k e : ℕ} {κ : Kind} {n : ℕ} {f g : List ℕ → Walk A} → ((x : List ℕ) → Orders (k + n) (f x) (g x) e) → Orders k (read κ n f) (read κ n g) e
  steps : {k e n : ℕ} {w v : Walk A} → Orders (k + n) w v e → Orders k (skip n w) (skip n v) e
  rows : {k e : ℕ} {p l c s : ℕ} {w v : Walk A} → Orders k w v e → Orders k (list p l c s w) (list p l c s v) e

module _ {A : Type 0} where
  pub ordered-implies : {k e : ℕ} {w v : Walk A} → Orders k w v e → Implies w v
  ordered-implies (gave l) = same
  ordered-implies halt = stop
  ordered-implies (kept i) = weaker (λ h. h) (ordered-implies i)
  ordered-implies (tighter h z l i) = weaker h (ordered-implies i)
  ordered-implies (counts i) = word (λ x. ordered-implies (i x))
  ordered-implies (takes i) = bytes (λ x. ordered-implies (i x))
  ordered-implies (steps i) = past (ordered-implies i)
  ordered-implies (rows i) = listed (ordered-implies i)

  pub ordered-itself : (w : Walk A) (k e : ℕ) → e ≤ k → Orders k w w e
  ordered-itself (give a) k e l = gave l
  ordered-itself (refuse n p) k e l = halt
  ordered-itself (check c n p w) k e l = kept (ordered-itself w k e l)
  ordered-itself (number n f) k e l = counts (λ x. ordered-itself (f x) (k + n) e (omega arith))
  ordered-itself (read κ n f) k e l = takes (λ x. ordered-itself (f x) (k + n) e (omega arith))
  ordered-itself (skip n w) k e l = steps (ordered-itself w (k + n) e (omega arith))
  ordered-itself (list p q c s w) k e l = rows (ordered-itself w k e l)

  -- more may be free before, and less behind
  pub ordered-weaken : {k k' e e' : ℕ} {w v : Walk A} → k ≤ k' → e' ≤ e → Orders k w v e → Orders k' w v e'
  ordered-weaken {k'} {e'} g h (gave l) = let z : e' ≤ k' = omega arith in gave z
  ordered-weaken g h halt = halt
  ordered-weaken g h (kept i) = kept (ordered-weaken g h i)
  ordered-weaken {k'} g h (tighter {p} t z l i) = let y : p ≤ k' = omega arith in tighter t z y (ordered-weaken {k = p - 1} {k' = p - 1} (omega arith) h i)
  ordered-weaken {k'} g h (counts {k} {n} i) = let y : k + n ≤ k' + n = omega arith in counts (λ x. ordered-weaken y h (i x))
  ordered-weaken {k'} g h (takes {k} {n} i) = let y : k + n ≤ k' + n = omega arith in takes (λ x. ordered-weaken y h (i x))
  ordered-weaken {k'} g h (steps {k} {n} i) = let y : k + n ≤ k' + n = omega arith in steps (ordered-weaken y h i)
  ordered-weaken g h (rows i) = rows (ordered-weaken g h i)

module _ {A B : Type 0} where
  pub ordered-bind : {k m e : ℕ} {w v : Walk A} {f g : A → Walk B} → Orders k w v m → ((a : A) → Orders m (f a) (g a) e) → Orders k (w >>= f) (v >>= g) e
  unfolding ◌>>=◌
  ordered-bind (gave {a} l) j = ordered-weaken l (omega arith) (j a)
  ordered-bind halt j = halt
  ordered-bind (kept i) j = kept (ordered-bind i j)
  ordered-bind (tighter t z l i) j = tighter t z l (ordered-bind i j)
  ordered-bind (counts i) j = counts (λ x. ordered-bind (i x) j)
  ordered-bind (takes i) j = takes (λ x. ordered-bind (i x) j)
  ordered-bind (steps i) j = steps (ordered-bind i j)
  ordered-bind (rows i) j = rows (ordered-bind i j)

  pub ordered-then : {k m e : ℕ} {w v : Walk A} {f g : Walk B} → Orders k w v m → Orders m f g e → Orders k (w >> f) (v >> g) e
  unfolding ◌>>◌
  ordered-then i j = ordered-bind i (λ _. j)

-- the faults come in file order
rising-low : (low low' high : ℕ) (fs : List Fault) → low ≤ low' → Rising low' fs high → Rising low fs high
rising-low low low' high [] l r = omega arith
rising-low low low' high (f ∷ fs) l r = (omega (arith, r.0), r.1)

module _ {A : Type 0} where
  pub rising-faults : {k e : ℕ} {t : List Event} {w v : Walk A} {a : A} → Orders k w v e → Plays t v a → (at : ℕ) → k ≤ at → Rising (at - k) (faults at t w) (at + size t - e)
  unfolding faults size
  rising-faults (gave l) gives at h = omega arith
  rising-faults halt x at h = elim x [ ]
  rising-faults (kept {c} i) (checks q p) at h = rw q (rising-faults i p at h)
  rising-faults {t} (tighter {k} {e} {c = true} {p = b} {w} u z l i) (checks q p) at h = rising-low (at - k) (at - (b - 1)) (at + size t - e) (faults at t w) (omega arith) (rising-faults i p at (omega arith))
  rising-faults (tighter {k} {c = false} {p = b} u z l i) (checks q p) at h =
      let y : suc (at - b) ≡ at - (b - 1) = omega arith in
      (omega arith, rw y (rising-faults i p at (omega arith)))
  rising-faults (counts {k} {n} i) (numbers {v} {t} l p) at h =
      let y : at + n - (k + n) ≡ at - k = omega arith in
      let x : at + n + size t ≡ at + (n + size t) = omega arith in
      rw (y, x) at (rising-faults (i v) p (at + n) (omega arith))
  rising-faults (takes {k} {n} i) (reads {bs} {t} l b p) at h =
      let y : at + n - (k + n) ≡ at - k = omega arith in
      let x : at + n + size t ≡ at + (length bs + size t) = omega arith in
      rw (y, x) at (rising-faults (i bs) p (at + n) (omega arith))
  rising-faults (steps {k} {n} i) (skips {bs} {t} l b p) at h =
      let y : at + n - (k + n) ≡ at - k = omega arith in
      let x : at + n + size t ≡ at + (length bs + size t) = omega arith in
      rw (y, x) at (rising-faults i p (at + n) (omega arith))
  rising-faults (rows i) (lists p) at h = rising-faults i p at h
