-- A walk that points back no further than it has come: none of its positions is cut off at 0, so that begun k bytes later each of them is k more.
-- Assumes nothing.
use mathlib.Core.Path.{◌≡◌, refl, ap}
use mathlib.Core.Bool.{Bool, true, false}
use mathlib.Core.List.{List, [], ◌∷◌, map}
use Prim.Native.Nat.{ℕ, ◌+◌, ◌-◌, ◌≤◌}
use native.Mathlib.Nat.{add_assoc}
use native.Mathlib.Omega.{arith}
use borrow.Author.Tests.{le-leb}
use lib.ListN.{length, take, drop, length-drop}
use lib.Seq.{length-take-le}
use Rattle.words.specs.Numbers.{word_in}
use Rattle.words.specs.declared.Order.{Order}
use Rattle.walk.specs.See.{Stays, numbered}
use Rattle.walk.specs.Walk.{laid, Event, numeral, piece, blank, row, rows, Row, Walk, give, refuse, check, number, read, skip, list, Outcome, refused, passed, ◌>>◌, ◌>>=◌, logged, run, require}
use Rattle.walk.proofs.Laid.{length-laid}
use Rattle.walk.proofs.Laws.{run-read, run-number}
use Rattle.walk.proofs.Seen.{passes, when-then}

-- `at` bytes lie behind the walk: no refusal and no row of it says that it lies more bytes back than that
module _ {A : Type 0} where
  abbrev pub Reaches : ℕ → Walk A → Type 0
  Reaches at (give a) = Unit {0}
  Reaches at (refuse n p) = p ≤ at
  Reaches at (check c n p w) = (p ≤ at) × (c ≡ true → Reaches at w)
  Reaches at (number n f) = (v : ℕ) → Reaches (at + n) (f v)
  Reaches at (read k n f) = (bs : List ℕ) → length bs ≡ n → Reaches (at + n) (f bs)
  Reaches at (skip n w) = Reaches (at + n) w
  Reaches at (list p l c m w) = (p ≤ at) × Reaches at w

  -- a walk only goes on
  pub stays-grows : (w : Walk A) (L at low : ℕ) (Q : A → ℕ → Type 0) → low ≤ at → Stays L at w Q → Stays L at w (λ a e. Q a e × (low ≤ e))
  stays-grows (give x) L at low Q g h = (h, g)
  stays-grows (refuse n p) L at low Q g h = h
  stays-grows (check c n p w) L at low Q g h = when-then (numbered n) (λ k e. stays-grows w L at low Q g (k e)) h
  stays-grows (number n f) L at low Q g h = (h.0, λ v. stays-grows (f v) L (at + n) low Q (omega arith) (h.1 v))
  stays-grows (read k n f) L at low Q g h = (h.0, λ bs e. stays-grows (f bs) L (at + n) low Q (omega arith) (h.1 bs e))
  stays-grows (skip n w) L at low Q g h = (h.0, stays-grows w L (at + n) low Q (omega arith) h.1)
  stays-grows (list p l c m w) L at low Q g h = stays-grows w L at low Q g h

-- one walk after the other: where it matters where the first one ends, and where it does not
module _ {A B : Type 0} where
  pub reaches-bind : (w : Walk A) (k : A → Walk B) (L at : ℕ) (Q : A → ℕ → Type 0) → Stays L at w Q → Reaches at w → ((a : A) (e : ℕ) → Q a e → Reaches e (k a)) → Reaches at (w >>= k)
  unfolding ◌>>=◌
  reaches-bind (give x) k L at Q h r g = g x at h
  reaches-bind (refuse n p) k L at Q h r g = r
  reaches-bind (check c n p w) k L at Q h r g = (r.0, λ e. reaches-bind w k L at Q (passes (numbered n) h e) (r.1 e) g)
  reaches-bind (number n f) k L at Q h r g = λ v. reaches-bind (f v) k L (at + n) Q (h.1 v) (r v) g
  reaches-bind (read κ n f) k L at Q h r g = λ bs e. reaches-bind (f bs) k L (at + n) Q (h.1 bs e) (r bs e) g
  reaches-bind (skip n w) k L at Q h r g = reaches-bind w k L (at + n) Q h.1 r g
  reaches-bind (list p l c m w) k L at Q h r g = (r.0, reaches-bind w k L at Q h r.1 g)

  pub reaches-any : (w : Walk A) (k : A → Walk B) (at : ℕ) → Reaches at w → ((a : A) (e : ℕ) → Reaches e (k a)) → Reaches at (w >>= k)
  unfolding ◌>>=◌
  reaches-any (give x) k at r g = g x at
  reaches-any (refuse n p) k at r g = r
  reaches-any (check c n p w) k at r g = (r.0, λ e. reaches-any w k at (r.1 e) g)
  reaches-any (number n f) k at r g = λ v. reaches-any (f v) k (at + n) (r v) g
  reaches-any (read κ n f) k at r g = λ bs e. reaches-any (f bs) k (at + n) (r bs e) g
  reaches-any (skip n w) k at r g = reaches-any w k (at + n) r g
  reaches-any (list p l c m w) k at r g = (r.0, reaches-any w k at r.1 g)

  pub reaches_then : (w : Walk A) (v : Walk B) (L at : ℕ) (Q : A → ℕ → Type 0) → Stays L at w Q → Reaches at w → ((a : A) (e : ℕ) → Q a e → Reaches e v) → Reaches at (w >> v)
  unfolding ◌>>◌
  reaches_then w v L at Q h r g = reaches-bind w (λ _. v) L at Q h r g

  pub reaches-next : (w : Walk A) (v : Walk B) (at : ℕ) → Reaches at w → ((e : ℕ) → Reaches e v) → Reaches at (w >> v)
  unfolding ◌>>◌
  reaches-next w v at r g = reaches-any w (λ _. v) at r (λ _. g)

pub reaches-require : {A : Type 0} (c : Bool) (n p : ℕ) (w : Walk A) (at : ℕ) → p ≤ at → (c ≡ true → Reaches at w) → Reaches at (require c n p >> w)
unfolding ◌>>◌ ◌>>=◌
reaches-require c n p w at h k = (h, k)

-- a row of a file that begins k bytes later
abbrev pub later : ℕ → Row → Row
later k r = record { start = k + r.start; size = r.size; code = r.code; serial = r.serial }

module _ {A : Type 0} where
  -- what is answered from `at`, and what is answered where all bytes stand k later: a refusal lies k bytes later, and so does every row
  abbrev pub Later : ℕ → ℕ → Outcome A → Outcome A → Type 0
  Later k at (refused n p) y = y ≡ refused n (k + p)
  Later k at (passed a r t) y = (y ≡ passed a r t) × (rows (k + at) t ≡ map (later k) (rows at t))

  later-logged : (k at n : ℕ) (v : Event) (x y : Outcome A) → ((m : ℕ) (t : List Event) → rows m (v ∷ t) ≡ rows (m + n) t) → Later k (at + n) x y → Later k at (logged (v ∷ []) x) (logged (v ∷ []) y)
  unfolding logged
  later-logged k at n v (refused m p) y e h = rw h
  later-logged k at n v (passed a r t) y e h = (rw h.0, rw (e (k + at) t, e at t, add_assoc k at n) h.1)

  later-listed : (k at p l c m : ℕ) (x y : Outcome A) → p ≤ at → Later k at x y → Later k at (logged (row p l c m ∷ []) x) (logged (row p l c m ∷ []) y)
  unfolding logged rows
  later-listed k at p l c m (refused n q) y g h = rw h
  later-listed k at p l c m (passed a r t) y g h = let e : k + at - p ≡ k + (at - p) = omega arith in (rw h.0, rw (rows, e, h.1))

  module _ (o : Order) (k : ℕ) where
    pub run-later : (w : Walk A) (L at : ℕ) (s : List ℕ) (Q : A → ℕ → Type 0) → at + length s ≡ L → Stays L at w Q → Reaches at w → Later k at (run o at s w) (run o (k + at) s w)
    unfolding run rows
    run-later (give a) L at s Q l h r = (refl, refl)
    run-later (refuse n p) L at s Q l h r = ap (λ (x : ℕ). refused n x) (omega arith)
    run-later (check true n p w) L at s Q l h r = run-later w L at s Q l (passes (numbered n) h refl) (r.1 refl)
    run-later (check false n p w) L at s Q l h r = let g : p ≤ at = r.0 in ap (λ (x : ℕ). refused n x) (omega arith)
    run-later (number n f) L at s Q l h r =
        let g : n ≤ length s = omega (arith, h.0) in
        let v : ℕ = word_in o (take n s) in
        rw (run-number o at s n f g, run-number o (k + at) s n f g, add_assoc k at n)
        (later-logged k at n (numeral n v) (run o (at + n) (drop n s) (f v)) (run o (k + (at + n)) (drop n s) (f v)) (λ m t. refl) (run-later (f v) L (at + n) (drop n s) Q (rw length-drop (omega arith)) (h.1 v) (r v)))
    run-later (read κ n f) L at s Q l h r =
        let g : n ≤ length s = omega (arith, h.0) in
        let bs : List ℕ = laid o κ (take n s) in
        let e : length bs ≡ n = rw (length-laid, length-take-le n s g) in
        rw (run-read o at s κ n f g, run-read o (k + at) s κ n f g, add_assoc k at n)
        (later-logged k at n (piece κ bs) (run o (at + n) (drop n s) (f bs)) (run o (k + (at + n)) (drop n s) (f bs)) (λ m t. rw (rows, e)) (run-later (f bs) L (at + n) (drop n s) Q (rw length-drop (omega arith)) (h.1 bs e) (r bs e)))
    run-later (skip n w) L at s Q l h r =
        let g : n ≤ length s = omega (arith, h.0) in
        let e : length (take n s) ≡ n = length-take-le n s g in
        rw (run, le-leb n (length s) g, add_assoc k at n)
        (later-logged k at n (blank (take n s)) (run o (at + n) (drop n s) w) (run o (k + (at + n)) (drop n s) w) (λ m t. rw (rows, e)) (run-later w L (at + n) (drop n s) Q (rw length-drop (omega arith)) h.1 r))
    run-later (list p l c m w) L at s Q z h r = later-listed k at p l c m (run o at s w) (run o (k + at) s w) r.0 (run-later w L at s Q z h r.1)
