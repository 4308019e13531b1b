-- A walk that is stricter than another: what it accepts, the other accepts with the same events and answer; and what the other accepts, the stricter one refuses at its first fault.
-- Assumes nothing.
use mathlib.Core.Path.{◌≡◌, refl, ap}
use mathlib.Core.Bool.{Bool, true, false}
use mathlib.Core.List.{List, [], ◌∷◌, ◌++◌, append_assoc}
use Prim.Native.Nat.{ℕ, ◌+◌, ◌-◌}
use native.Mathlib.Omega.{arith}
use lib.ListN.{length}
use Rattle.words.specs.declared.Order.{Order}
use Rattle.walk.specs.Faults.{Fault, piece_of, behind, first}
use Rattle.walk.specs.Plays.{Plays, gives, checks, numbers, reads, skips, lists}
use Rattle.walk.specs.Walk.{Kind, pick, Event, numeral, piece, blank, row, Walk, give, refuse, check, number, read, skip, list, passed, logged, run, render, size, ◌>>=◌}
use Rattle.walk.proofs.Laws.{run-numeral, run-piece, run-blank}

-- the second walk reads what the first reads and gives what it gives; where a test of the first passes, the second's passes too
pub data Implies {A : Type 0} : Walk A → Walk A → Type 0 where
  same : {a : A} → Implies (give a) (give a)
  stop : {n p : ℕ} → Implies (refuse n p) (refuse n p)
  weaker : {c d : Bool} {n p : ℕ} {w v : Walk A} → (c ≡ true → d ≡ true) → Implies w v → Implies (check c n p w) (check d n p v)
  word : {n : ℕ} {f g : ℕ → Walk A} → ((x : ℕ) → Implies (f x) (g x)) → Implies (number n f) (number n g)
  bytes : {k : Kind} {n : ℕ} {f g : List ℕ → Walk A} → ((x : List ℕ) → Implies (f x) (g x)) → Implies (read k n f) (read k n g)
  past : {n : ℕ} {w v : Walk A} → Implies w v → Implies (skip n w) (skip n v)
  listed : {p l c s : ℕ} {w v : Walk A} → Implies w v → Implies (list p l c s w) (list p l c s v)

-- the number that was read first
abbrev pub word_of : List Event → ℕ
word_of [] = 0
word_of (numeral n v ∷ t) = v
word_of (piece k bs ∷ t) = 0
word_of (blank bs ∷ t) = 0
word_of (row p l c s ∷ t) = 0

-- all tests of a walk that fail on events, from a position on, in the walk's order: it goes on behind one as though it had passed
unfoldable pub faults : {A : Type 0} → ℕ → List Event → Walk A → List Fault
faults at t (give a) = []
faults at t (refuse n p) = record { number = n; place = at - p } ∷ []
faults at t (check c n p w) = pick c (faults at t w) (record { number = n; place = at - p } ∷ faults at t w)
faults at t (number n f) = faults (at + n) (behind t) (f (word_of t))
faults at t (read k n f) = faults (at + n) (behind t) (f (piece_of t))
faults at t (skip n w) = faults (at + n) (behind t) w
faults at t (list p l c s w) = faults at (behind t) w

module _ {A : Type 0} where
  pub itself : (w : Walk A) → Implies w w
  itself (give a) = same
  itself (refuse n p) = stop
  itself (check c n p w) = weaker (λ h. h) (itself w)
  itself (number n f) = word (λ x. itself (f x))
  itself (read k n f) = bytes (λ x. itself (f x))
  itself (skip n w) = past (itself w)
  itself (list p l c s w) = listed (itself w)

  pub implied : {t : List Event} {w v : Walk A} {a : A} → Implies w v → Plays t w a → Plays t v a
  implied same p = p
  implied stop p = p
  implied (weaker h i) (checks c p) = checks (h c) (implied i p)
  implied (word i) (numbers {v} {t} l p) = numbers l (implied {t = t} (i v) p)
  implied (bytes i) (reads {bs} {t} l b p) = reads l b (implied {t = t} (i bs) p)
  implied (past i) (skips {bs} {t} l b p) = skips l b (implied {t = t} i p)
  implied (listed i) (lists {t} p) = lists (implied {t = t} i p)

module _ {A B : Type 0} where
  pub implies-bind : {w v : Walk A} {k l : A → Walk B} → Implies w v → ((a : A) → Implies (k a) (l a)) → Implies (w >>= k) (v >>= l)
  unfolding ◌>>=◌
  implies-bind (same {a}) j = j a
  implies-bind stop j = stop
  implies-bind (weaker h i) j = weaker h (implies-bind i j)
  implies-bind (word i) j = word (λ x. implies-bind (i x) j)
  implies-bind (bytes i) j = bytes (λ x. implies-bind (i x) j)
  implies-bind (past i) j = past (implies-bind i j)
  implies-bind (listed i) j = listed (implies-bind i j)

-- the first fault

module _ {A : Type 0} where
  pub first-logged : (e : Event) (fs : List Fault) (a : A) (r : List ℕ) (t : List Event) → logged (e ∷ []) (first fs (passed a r t)) ≡ first fs (passed a r (e ∷ t))
  unfolding logged
  first-logged e [] a r t = refl
  first-logged e (f ∷ fs) a r t = refl

  pub first-fault : {t : List Event} {w v : Walk A} {a : A} → Implies w v → Plays t v a → (o : Order) (at : ℕ) (r : List ℕ) → run o at (render o t ++ r) w ≡ first (faults at t w) (passed a r t)
  unfolding run render faults
  first-fault same gives o at r = refl
  first-fault stop x o at r = elim x [ ]
  first-fault (weaker {c = true} h i) (checks d p) o at r = first-fault i p o at r
  first-fault (weaker {c = false} h i) (checks d p) o at r = refl
  first-fault (word {n} {f} i) (numbers {v} {t} {a} l p) o at r =
      rw (append_assoc, run-numeral o at v (render o t ++ r) n f l, first-fault {t = t} (i v) p o (at + n) r) (first-logged (numeral n v) (faults (at + n) t (f v)) a r t)
  first-fault (bytes {k} {n} {f} i) (reads {bs} {t} {a} l b p) o at r =
      rw (append_assoc, run-piece o at k bs (render o t ++ r) n f l, first-fault {t = t} (i bs) p o (at + n) r) (first-logged (piece k bs) (faults (at + n) t (f bs)) a r t)
  first-fault (past {n} {w} i) (skips {bs} {t} {a} l b p) o at r =
      rw (append_assoc, run-blank o at bs (render o t ++ r) n w l, first-fault {t = t} i p o (at + n) r) (first-logged (blank bs) (faults (at + n) t w) a r t)
  first-fault (listed {p} {l} {c} {s} {w} i) (lists {t} {a} q) o at r = rw (first-fault {t = t} i q o at r) (first-logged (row p l c s) (faults at t w) a r t)

-- the faults of one walk after the other, on events that a wider walk accepts
module _ {A B : Type 0} where
  pub faults-bind : {t : List Event} (u : List Event) {w v : Walk A} (k : A → Walk B) {a : A} → Implies w v → Plays t v a → (at : ℕ) → faults at (t ++ u) (w >>= k) ≡ faults at t w ++ faults (at + size t) u (k a)
  unfolding faults ◌>>=◌ size
  faults-bind u k (same {a}) gives at = let z : at + 0 ≡ at = omega arith in rw z
  faults-bind u k stop x at = elim x [ ]
  faults-bind u k (weaker {c = true} h i) (checks d p) at = faults-bind u k i p at
  faults-bind u k (weaker {c = false} {n} {p = q} h i) (checks d p) at = ap (λ (x : List Fault). record { number = n; place = at - q } ∷ x) (faults-bind u k i p at)
  faults-bind u k (word {n} i) (numbers {v} {t} l p) at = let z : at + n + size t ≡ at + (n + size t) = omega arith in rw (faults-bind {t = t} u k (i v) p (at + n), z)
  faults-bind u k (bytes {n} i) (reads {bs} {t} l b p) at = let z : at + n + size t ≡ at + (length bs + size t) = omega arith in rw (faults-bind {t = t} u k (i bs) p (at + n), z)
  faults-bind u k (past {n} i) (skips {bs} {t} l b p) at = let z : at + n + size t ≡ at + (length bs + size t) = omega arith in rw (faults-bind {t = t} u k i p (at + n), z)
  faults-bind u k (listed i) (lists {t} p) at = faults-bind {t = t} u k i p at
