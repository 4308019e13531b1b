-- What a walk comes to over a part of the file, for code that reads by position: no events, and no test of room.
-- `seen` says when that is what `run` gives; `stays` is the room, shown once for each walk.
-- Assumes nothing.
use mathlib.Core.Path.{◌≡◌, refl, sym, ap, ◌∙◌}
use mathlib.Core.Bool.{Bool, true, false, ◌&&◌}
use mathlib.Core.List.{List, [], ◌∷◌}
use Prim.Native.Nat.{ℕ, zero, suc, ◌+◌, ◌*◌, ◌-◌, ◌≤◌}
use native.Mathlib.Nat.{add_assoc, add-zero, zero-add, sub-zero, sub_self, add-sub_cancel_left, suc-mul}
use native.Mathlib.Omega.{arith}
use borrow.Author.Tests.{lt-ltb, le-ltb, le-leb, lt-leb, eq-eqb, ne_eqb, leb-true, leb-false, eqb-true, eqb-false}
use lib.Dec.{leb, eqb, when}
use lib.ListN.{length, take, drop, length-take, length-drop}
use lib.Seq.{drop-drop, take-take, length-take-le}
use Rattle.words.specs.Numbers.{word_in, bytes_at, number_at, numbers_at}
use Rattle.words.specs.declared.Order.{Order}
use Rattle.walk.specs.See.{Verdict, stops, goes, verdict, gate, see, Goes, over, ends, Stays, Holds, Yields, onward, numbered}
use Rattle.walk.specs.Walk.{Kind, laid, Event, numeral, piece, blank, row, size, Walk, give, refuse, check, number, read, skip, list, Outcome, refused, passed, ◌>>◌, logged, run, ◌>>=◌, require}
use Rattle.walk.proofs.Apart.{false-true, stops-goes}
use Rattle.walk.proofs.Laid.{length-laid}
use Rattle.walk.proofs.Laws.{run-read, run-number, size-cons}

module _ {A B : Type 0} where
  pub over-stops : (f : A → B) (n p : ℕ) → over f (stops n p) ≡ stops n p
  unfolding over
  over-stops f n p = refl

  pub over-goes : (f : A → B) (a : A) (e : ℕ) → over f (goes a e) ≡ goes (f a) e
  unfolding over
  over-goes f a e = refl

-- so what is known of the verdict itself
pub stopped : {A B : Type 0} (f : A → B) (v : Verdict A) {n p : ℕ} → over f v ≡ stops n p → v ≡ stops n p
unfolding over
stopped f (stops n p) h = cc
stopped f (goes a e) h = stops-goes (sym h)

pub went : {A B : Type 0} (f : A → B) (v : Verdict A) {b : B} {x : ℕ} → over f v ≡ goes b x → Goes v (λ a e. (f a ≡ b) × (e ≡ x))
unfolding over
went f (stops n p) h = stops-goes h
went f (goes a e) h = record { value = a; end = e; is = refl; kept = (cc, cc) }

pub gate-true : {A : Type 0} (v : Verdict A) (n p : ℕ) → gate true v n p ≡ v
unfolding gate
gate-true v n p = refl

pub gate-false : {A : Type 0} (v : Verdict A) (n p : ℕ) → gate false v n p ≡ stops n p
unfolding gate
gate-false v n p = refl

gate-then : {A B : Type 0} (c : Bool) (x : Verdict A) (n q : ℕ) (y : Verdict B) (k : A → ℕ → Verdict B) → y ≡ onward x k → gate c y n q ≡ onward (gate c x n q) k
unfolding gate
gate-then true x n q y k e = e
gate-then false x n q y k e = refl

pub then-gate : {A B : Type 0} (c : Bool) (v : Verdict A) (n p : ℕ) (k : A → ℕ → Verdict B) → onward (gate c v n p) k ≡ gate c (onward v k) n p
unfolding gate
then-gate true v n p k = refl
then-gate false v n p k = refl

pub over-gate : {A B : Type 0} (f : A → B) (c : Bool) (v : Verdict A) (n p : ℕ) → over f (gate c v n p) ≡ gate c (over f v) n p
unfolding gate over
over-gate f true v n p = refl
over-gate f false v n p = refl

module _ {A : Type 0} where
  pub see-give : (o : Order) (b : ℕ) (s : List ℕ) (at : ℕ) (a : A) → see o b s at (give a) ≡ goes a at
  unfolding see
  see-give o b s at a = refl

  pub see-refuse : (o : Order) (b : ℕ) (s : List ℕ) (at n p : ℕ) → see {A = A} o b s at (refuse n p) ≡ stops n (at - p)
  unfolding see
  see-refuse o b s at n p = refl

  pub see-check : (o : Order) (b : ℕ) (s : List ℕ) (at : ℕ) (c : Bool) (n p : ℕ) (w : Walk A) → see o b s at (check c n p w) ≡ gate c (see o b s at w) n (at - p)
  unfolding see
  see-check o b s at c n p w = refl

  pub see-number : (o : Order) (b : ℕ) (s : List ℕ) (at n : ℕ) (f : ℕ → Walk A) → see o b s at (number n f) ≡ see o b s (at + n) (f (number_at o n s (at - b)))
  unfolding see
  see-number o b s at n f = refl

  pub see-read : (o : Order) (b : ℕ) (s : List ℕ) (at : ℕ) (k : Kind) (n : ℕ) (f : List ℕ → Walk A) → see o b s at (read k n f) ≡ see o b s (at + n) (f (laid o k (bytes_at n s (at - b))))
  unfolding see
  see-read o b s at k n f = refl

  pub see-skip : (o : Order) (b : ℕ) (s : List ℕ) (at n : ℕ) (w : Walk A) → see o b s at (skip n w) ≡ see o b s (at + n) w
  unfolding see
  see-skip o b s at n w = refl

  pub see-list : (o : Order) (b : ℕ) (s : List ℕ) (at p l c m : ℕ) (w : Walk A) → see o b s at (list p l c m w) ≡ see o b s at w
  unfolding see
  see-list o b s at p l c m w = refl

module _ {A B : Type 0} where
  pub see-bind : (o : Order) (b : ℕ) (s : List ℕ) (at : ℕ) (w : Walk A) (k : A → Walk B) → see o b s at (w >>= k) ≡ onward (see o b s at w) (λ a e. see o b s e (k a))
  unfolding see ◌>>=◌
  see-bind o b s at (give a) k = refl
  see-bind o b s at (refuse n p) k = refl
  see-bind o b s at (check c n p w) k = gate-then c _ n _ _ _ (see-bind o b s at w k)
  see-bind o b s at (number n f) k = see-bind o b s (at + n) (f (number_at o n s (at - b))) k
  see-bind o b s at (read κ n f) k = see-bind o b s (at + n) (f (laid o κ (bytes_at n s (at - b)))) k
  see-bind o b s at (skip n w) k = see-bind o b s (at + n) w k
  see-bind o b s at (list p l c m w) k = see-bind o b s at w k

  pub see-after : (o : Order) (b : ℕ) (s : List ℕ) (at : ℕ) (w : Walk A) (v : Walk B) → see o b s at (w >> v) ≡ onward (see o b s at w) (λ _ e. see o b s e v)
  unfolding ◌>>◌
  see-after o b s at w v = see-bind o b s at w (λ _. v)

-- offsets: sums bracketed to the right, and a difference of two places
pub add-sub-add : (n m k : ℕ) → (n + m) - (n + k) ≡ m - k
add-sub-add n m k = omega arith

pub leb-add : (n m k : ℕ) → leb (n + m) (n + k) ≡ leb m k
leb-add n m k = go (leb m k) refl
  where
    go : (x : Bool) → leb m k ≡ x → leb (n + m) (n + k) ≡ leb m k
    go true e = rw e (le-leb (n + m) (n + k) (omega (arith, leb-true m k e)))
    go false e = rw e (lt-leb (n + m) (n + k) (omega (arith, leb-false m k e)))

pub eqb-add : (n m k : ℕ) → eqb (n + m) (n + k) ≡ eqb m k
eqb-add n m k = go (eqb m k) refl
  where
    go : (x : Bool) → eqb m k ≡ x → eqb (n + m) (n + k) ≡ eqb m k
    go true e = rw e (eq-eqb (n + m) (n + k) (omega (arith, eqb-true m k e)))
    go false e = rw e (ne_eqb (n + m) (n + k) (λ h. eqb-false m k e (omega (arith, h))))

-- a place so many bytes back
pub back : (a n m : ℕ) → leb m n ≡ true → a + n - m ≡ a + (n - m)
back a n m h = let l : m ≤ n = leb-true m n h in omega arith

pub back₂ : (a b n m : ℕ) → leb m n ≡ true → a + (b + n) - m ≡ a + (b + (n - m))
back₂ a b n m h = let l : m ≤ n = leb-true m n h in omega arith

-- the room that is left, and what fits in it
pub sub-sub : (n m k : ℕ) → n - m - k ≡ n - (m + k)
sub-sub n m k = omega arith

pub leb-room : (k n p : ℕ) → leb 1 k ≡ true → leb k (n - p) ≡ leb (p + k) n
leb-room k n p h = let l : 1 ≤ k = leb-true 1 k h in go (leb (p + k) n) refl
  where
    go : (x : Bool) → leb (p + k) n ≡ x → leb k (n - p) ≡ leb (p + k) n
    go true e = rw e (le-leb k (n - p) (let l : 1 ≤ k = leb-true 1 k h in omega (arith, leb-true (p + k) n e)))
    go false e = rw e (lt-leb k (n - p) (let l : 1 ≤ k = leb-true 1 k h in omega (arith, leb-false (p + k) n e)))

pub leb-fits : (n p : ℕ) → p ≤ n → (k : ℕ) → leb k (n - p) ≡ leb (p + k) n
leb-fits n p l k = go (leb (p + k) n) refl
  where
    go : (x : Bool) → leb (p + k) n ≡ x → leb k (n - p) ≡ leb (p + k) n
    go true e = rw e (le-leb k (n - p) (omega (arith, leb-true (p + k) n e)))
    go false e = rw e (lt-leb k (n - p) (omega (arith, leb-false (p + k) n e)))

-- a walk taken apart, step by step
pub ruleset places = (add_assoc, add-zero, zero-add, sub-zero, sub_self, add-sub_cancel_left, add-sub-add, leb-add, eqb-add, back, back₂, sub-sub, leb-room)

pub ruleset gates = (gate-true, gate-false, over-stops, over-goes)

pub ruleset walks = (see-bind, see-after, see-give, see-refuse, see-check, see-number, see-read, see-skip, see-list, over-stops, over-goes, gate-true, gate-false, places)

-- the tests that a walk goes by, from the facts that the code's branches give
pub ruleset tests = (lt-ltb, le-ltb, le-leb, lt-leb, eq-eqb, ne_eqb)

-- the bytes of a part are those of the whole
take-drop-take : (k m n : ℕ) (l : List ℕ) → k + n ≤ m → take n (drop k (take m l)) ≡ take n (drop k l)
take-drop-take zero m n l h = take-take n m l (omega arith)
take-drop-take (suc k) zero n l h = absurd (omega arith)
take-drop-take (suc k) (suc m) n [] h = refl
take-drop-take (suc k) (suc m) n (x ∷ l) h = take-drop-take k m n l (omega arith)

pub part_bytes : (s : List ℕ) (a m k n : ℕ) → k + n ≤ m → take n (drop k (take m (drop a s))) ≡ take n (drop (a + k) s)
part_bytes s a m k n h = rw (take-drop-take k m n (drop a s) h, drop-drop k a s)

-- a number in a part of a file
pub part-number : (o : Order) (s : List ℕ) (a m w k : ℕ) → k + w ≤ m → number_at o w (take m (drop a s)) k ≡ number_at o w s (a + k)
unfolding number_at
part-number o s a m w k h = rw (part_bytes s a m k w h)

pub part-numbers : (o : Order) (s : List ℕ) (a m w n k : ℕ) → k + n * w ≤ m → numbers_at o w n (take m (drop a s)) k ≡ numbers_at o w n s (a + k)
part-numbers o s a m w zero k h = refl
part-numbers o s a m w (suc n) k h =
    let l = suc-mul n w in
    let i : a + (k + w) ≡ a + k + w = omega arith in
    rw (part-number o s a m w k (omega arith), part-numbers o s a m w n (k + w) (omega arith), i)

-- what is read where there is room has its length
pub length-bytes_at : (o : Order) (b : ℕ) (s : List ℕ) (k : Kind) (n at : ℕ) → at + n ≤ b + length s → b ≤ at → length (laid o k (take n (drop (at - b) s))) ≡ n
length-bytes_at o b s k n at h g = length-laid o k (take n (drop (at - b) s)) ∙ length-take-le n (drop (at - b) s) (rw length-drop (omega arith))

-- both parts of a test
pub and_left : (x y : Bool) → x && y ≡ true → x ≡ true
and_left true y h = refl
and_left false y h = h

pub and_right : (x y : Bool) → x && y ≡ true → y ≡ true
and_right true y h = h
and_right false y h = false-true h

-- what is said under a test that passes, and what follows from it
pub passes : (c : Bool) {X : Type 0} → when c X → X
passes true x = x
passes false x = absurd x

when_true : (c : Bool) (X : Type 0) → when c X → c ≡ true
when_true true X x = refl
when_true false X x = absurd x

pub when-then : (c : Bool) {X Y : Type 0} → (X → Y) → when c X → when c Y
when-then true f x = f x
when-then false f x = x

module _ {A : Type 0} where
  -- a refusal by such a number, at a place not behind L
  stopped-at : (m q L : ℕ) (X : Type 0) {n p : ℕ} → when (numbered m) X → q ≤ L → ◌≡◌ {A = Verdict A} (stops m q) (stops n p) → (1 ≤ n) × (n ≤ 16) × (p ≤ L)
  stopped-at m q L X {n} {p} h l e =
      let t : numbered m ≡ true = when_true (numbered m) X h in
      let x : 1 ≤ m = leb-true 1 m (and_left (leb 1 m) (leb m 16) t) in
      let y : m ≤ 16 = leb-true m 16 (and_right (leb 1 m) (leb m 16) t) in
      let i : m ≡ n = cc in
      let j : q ≡ p = cc in
      (omega arith, omega arith, omega arith)

  -- so what holds of the answer, where there is room
  module _ (o : Order) (b : ℕ) (s : List ℕ) (L : ℕ) (fit : L ≤ b + length s) where
    pub stays-holds : (w : Walk A) (at : ℕ) (Q : A → ℕ → Type 0) → b ≤ at → Stays L at w Q → Holds Q (see o b s at w)
    unfolding see gate bytes_at
    stays-holds (give x) at Q g h = h
    stays-holds (refuse n p) at Q g h = tt
    stays-holds (check true n p w) at Q g h = stays-holds w at Q g (passes (numbered n) h refl)
    stays-holds (check false n p w) at Q g h = tt
    stays-holds (number n f) at Q g h = stays-holds (f (number_at o n s (at - b))) (at + n) Q (omega arith) (h.1 _)
    stays-holds (read k n f) at Q g h = stays-holds (f (laid o k (bytes_at n s (at - b)))) (at + n) Q (omega arith) (h.1 _ (length-bytes_at o b s k n at (omega (arith, h.0)) g))
    stays-holds (skip n w) at Q g h = stays-holds w (at + n) Q (omega arith) h.1
    stays-holds (list p l c m w) at Q g h = stays-holds w at Q g h

    pub stays-goes : (w : Walk A) (at : ℕ) (Q : A → ℕ → Type 0) {a : A} {e : ℕ} → b ≤ at → Stays L at w Q → see o b s at w ≡ goes a e → Q a e
    stays-goes w at Q g h q = rw q at (stays-holds w at Q g h)

    -- and what holds of a refusal
    pub stays-stops : (w : Walk A) (at : ℕ) (Q : A → ℕ → Type 0) {n p : ℕ} → b ≤ at → at ≤ L → Stays L at w Q → see o b s at w ≡ stops n p → (1 ≤ n) × (n ≤ 16) × (p ≤ L)
    unfolding see gate bytes_at
    stays-stops (give x) at Q g l h e = stops-goes (sym e)
    stays-stops (refuse m q) at Q g l h e = stopped-at m (at - q) L _ h (omega arith) e
    stays-stops (check true m q w) at Q g l h e = stays-stops w at Q g l (passes (numbered m) h refl) e
    stays-stops (check false m q w) at Q g l h e = stopped-at m (at - q) L _ h (omega arith) e
    stays-stops (number m f) at Q g l h e = stays-stops (f (number_at o m s (at - b))) (at + m) Q (omega arith) h.0 (h.1 _) e
    stays-stops (read k m f) at Q g l h e = stays-stops (f (laid o k (bytes_at m s (at - b)))) (at + m) Q (omega arith) h.0 (h.1 _ (length-bytes_at o b s k m at (omega (arith, h.0)) g)) e
    stays-stops (skip m w) at Q g l h e = stays-stops w (at + m) Q (omega arith) h.0 h.1 e
    stays-stops (list q r c m w) at Q g l h e = stays-stops w at Q g l h e

  -- less may be said of the answer, and of the room
  pub stays-weaken : (w : Walk A) (L M at : ℕ) (Q R : A → ℕ → Type 0) → L ≤ M → ((a : A) (e : ℕ) → Q a e → R a e) → Stays L at w Q → Stays M at w R
  stays-weaken (give x) L M at Q R l i h = i x at h
  stays-weaken (refuse n p) L M at Q R l i h = h
  stays-weaken (check c n p w) L M at Q R l i h = when-then (numbered n) (λ k e. stays-weaken w L M at Q R l i (k e)) h
  stays-weaken (number n f) L M at Q R l i h = (omega (arith, h.0), λ v. stays-weaken (f v) L M (at + n) Q R l i (h.1 v))
  stays-weaken (read k n f) L M at Q R l i h = (omega (arith, h.0), λ v e. stays-weaken (f v) L M (at + n) Q R l i (h.1 v e))
  stays-weaken (skip n w) L M at Q R l i h = (omega (arith, h.0), stays-weaken w L M (at + n) Q R l i h.1)
  stays-weaken (list p q c m w) L M at Q R l i h = stays-weaken w L M at Q R l i h

  verdict-logged : (at n : ℕ) (v : Event) (x : Outcome A) → size (v ∷ []) ≡ n → verdict at (logged (v ∷ []) x) ≡ verdict (at + n) x
  unfolding logged size
  verdict-logged at n v (refused m p) e = refl
  verdict-logged at n v (passed a r u) e = ap (λ (x : ℕ). goes a x) (omega (arith, e, size-cons v u))

  module _ (o : Order) (b : ℕ) (s : List ℕ) (L : ℕ) (fit : L ≤ b + length s) where
    -- what `run` gives, where there is room
    pub seen : (w : Walk A) (at : ℕ) (Q : A → ℕ → Type 0) → b ≤ at → Stays L at w Q → verdict at (run o at (drop (at - b) s) w) ≡ see o b s at w
    unfolding see run number_at bytes_at gate size
    seen (give x) at Q g h = ap (λ (y : ℕ). goes x y) (omega arith)
    seen (refuse n p) at Q g h = refl
    seen (check true n p w) at Q g h = seen w at Q g (passes (numbered n) h refl)
    seen (check false n p w) at Q g h = refl
    seen (number n f) at Q g h =
        let r : n ≤ length (drop (at - b) s) = rw length-drop (omega (arith, h.0)) in
        let d : at - b + n ≡ at + n - b = omega arith in
        rw (run-number o at (drop (at - b) s) n f r, verdict-logged at n (numeral n (word_in o (take n (drop (at - b) s)))) (run o (at + n) (drop n (drop (at - b) s)) (f (word_in o (take n (drop (at - b) s))))) (omega arith), drop-drop n (at - b) s, d) (seen (f (number_at o n s (at - b))) (at + n) Q (omega arith) (h.1 _))
    seen (read k n f) at Q g h =
        let r : n ≤ length (drop (at - b) s) = rw length-drop (omega (arith, h.0)) in
        let d : at - b + n ≡ at + n - b = omega arith in
        let l : length (laid o k (take n (drop (at - b) s))) ≡ n = length-bytes_at o b s k n at (omega (arith, h.0)) g in
        rw (run-read o at (drop (at - b) s) k n f r, verdict-logged at n (piece k (laid o k (take n (drop (at - b) s)))) (run o (at + n) (drop n (drop (at - b) s)) (f (laid o k (take n (drop (at - b) s))))) (omega (arith, l)), drop-drop n (at - b) s, d) (seen (f (laid o k (bytes_at n s (at - b)))) (at + n) Q (omega arith) (h.1 _ l))
    seen (skip n w) at Q g h =
        let r : n ≤ length (drop (at - b) s) = rw length-drop (omega (arith, h.0)) in
        let d : at - b + n ≡ at + n - b = omega arith in
        let l : length (take n (drop (at - b) s)) ≡ n = length-take-le n (drop (at - b) s) r in
        rw (run, le-leb n (length (drop (at - b) s)) r, verdict-logged at n (blank (take n (drop (at - b) s))) (run o (at + n) (drop n (drop (at - b) s)) w) (omega (arith, l)), drop-drop n (at - b) s, d) (seen w (at + n) Q (omega arith) h.1)
    seen (list p l c m w) at Q g h =
        let z : at + 0 ≡ at = omega arith in
        rw (verdict-logged at 0 (row p l c m) (run o at (drop (at - b) s) w) refl, z) (seen w at Q g h)

  module _ (o : Order) (b c a m : ℕ) (s : List ℕ) (stands : c ≡ b + a) (fits : a + m ≤ length s) where
    -- a walk that stays in a part comes to the same there as in the whole
    pub see-part : (w : Walk A) (at : ℕ) (Q : A → ℕ → Type 0) → c ≤ at → Stays (c + m) at w Q → see o c (take m (drop a s)) at w ≡ see o b s at w
    unfolding see number_at bytes_at gate
    see-part (give x) at Q g h = refl
    see-part (refuse n p) at Q g h = refl
    see-part (check true n p w) at Q g h = see-part w at Q g (passes (numbered n) h refl)
    see-part (check false n p w) at Q g h = refl
    see-part (number n f) at Q g h =
        let d : a + (at - c) ≡ at - b = omega arith in
        rw (part_bytes s a m (at - c) n (omega (arith, h.0)), d) (see-part (f (number_at o n s (at - b))) (at + n) Q (omega arith) (h.1 _))
    see-part (read k n f) at Q g h =
        let d : a + (at - c) ≡ at - b = omega arith in
        rw (part_bytes s a m (at - c) n (omega (arith, h.0)), d) (see-part (f (laid o k (bytes_at n s (at - b)))) (at + n) Q (omega arith) (h.1 _ (length-bytes_at o b s k n at (omega (arith, h.0)) (omega arith))))
    see-part (skip n w) at Q g h = see-part w (at + n) Q (omega arith) h.1
    see-part (list p l x y w) at Q g h = see-part w at Q g h

  -- the body of the record at p, handed on as the part up to q
  pub see-body : (o : Order) (b p q : ℕ) (s : List ℕ) (w : Walk A) (Q : A → ℕ → Type 0) → p + 16 ≤ q → q ≤ length s → Stays (b + q) (b + p + 16) w Q →
      see o (b + p + 16) (take (q - (p + 16)) (drop (p + 16) s)) (b + p + 16) w ≡ see o b s (b + (p + 16)) w
  see-body o b p q s w Q h f k =
      let z : b + q ≡ b + p + 16 + (q - (p + 16)) = omega arith in
      see-part o b (b + p + 16) (p + 16) (q - (p + 16)) s (add_assoc b p 16) (omega arith) w (b + p + 16) Q (omega arith) (rw z at k) ∙ ap (λ (x : ℕ). see o b s x w) (add_assoc b p 16)

-- and its length
pub body-length : (p q : ℕ) (s : List ℕ) → p + 16 ≤ q → q ≤ length s → 16 + length (take (q - (p + 16)) (drop (p + 16) s)) ≡ q - p
body-length p q s h k = simp (length-take, length-drop) (omega arith)

module _ {A B : Type 0} where
  pub stays-bind : (w : Walk A) (k : A → Walk B) (L at : ℕ) (Q : A → ℕ → Type 0) (R : B → ℕ → Type 0) →
      Stays L at w Q → ((a : A) (e : ℕ) → Q a e → Stays L e (k a) R) → Stays L at (w >>= k) R
  unfolding ◌>>=◌
  stays-bind (give x) k L at Q R h g = g x at h
  stays-bind (refuse n p) k L at Q R h g = h
  stays-bind (check c n p w) k L at Q R h g = when-then (numbered n) (λ j e. stays-bind w k L at Q R (j e) g) h
  stays-bind (number n f) k L at Q R h g = (h.0, λ v. stays-bind (f v) k L (at + n) Q R (h.1 v) g)
  stays-bind (read κ n f) k L at Q R h g = (h.0, λ v e. stays-bind (f v) k L (at + n) Q R (h.1 v e) g)
  stays-bind (skip n w) k L at Q R h g = (h.0, stays-bind w k L (at + n) Q R h.1 g)
  stays-bind (list p l c m w) k L at Q R h g = stays-bind w k L at Q R h g

module _ {A B C : Type 0} where
  pub over-then : (f : B → C) (v : Verdict A) (k : A → ℕ → Verdict B) (m : A → ℕ → Verdict C) → ((a : A) (e : ℕ) → over f (k a e) ≡ m a e) → over f (onward v k) ≡ onward v m
  unfolding over
  over-then f (stops n p) k m h = refl
  over-then f (goes a e) k m h = h a e

  -- an answer that is mapped at the end, and then kept in part
  pub over-give : (g : B → C) (f : A → B) (v : Verdict A) → over g (onward v (λ a e. goes (f a) e)) ≡ over (λ a. g (f a)) v
  unfolding over
  over-give g f (stops n p) = refl
  over-give g f (goes a e) = refl

module _ {A B : Type 0} where
  pub stays_then : (w : Walk A) (v : Walk B) (L at : ℕ) (Q : A → ℕ → Type 0) (R : B → ℕ → Type 0) →
      Stays L at w Q → ((a : A) (e : ℕ) → Q a e → Stays L e v R) → Stays L at (w >> v) R
  unfolding ◌>>◌
  stays_then w v L at Q R h g = stays-bind w (λ _. v) L at Q R h g

-- a test stays where it is
pub stays-require : {A : Type 0} (c : Bool) (n p : ℕ) (w : Walk A) (L at : ℕ) (Q : A → ℕ → Type 0) → numbered n ≡ true → (c ≡ true → Stays L at w Q) → Stays L at (require c n p >> w) Q
unfolding ◌>>=◌ ◌>>◌
stays-require c n p w L at Q t k = rw t k

module _ {A : Type 0} (o : Order) (b : ℕ) (s : List ℕ) where
  yields-holds : (w : Walk A) (at : ℕ) (Q : A → ℕ → Type 0) → Yields o b s at w Q → Holds Q (see o b s at w)
  unfolding see gate
  yields-holds (give x) at Q h = h
  yields-holds (refuse n p) at Q h = tt
  yields-holds (check true n p w) at Q h = yields-holds w at Q (h refl)
  yields-holds (check false n p w) at Q h = tt
  yields-holds (number n f) at Q h = yields-holds (f (number_at o n s (at - b))) (at + n) Q h
  yields-holds (read k n f) at Q h = yields-holds (f (laid o k (bytes_at n s (at - b)))) (at + n) Q h
  yields-holds (skip n w) at Q h = yields-holds w (at + n) Q h
  yields-holds (list p l c m w) at Q h = yields-holds w at Q h

  pub yields : (w : Walk A) (at : ℕ) (Q : A → ℕ → Type 0) {a : A} {e : ℕ} → Yields o b s at w Q → see o b s at w ≡ goes a e → Q a e
  yields w at Q h q = rw q at (yields-holds w at Q h)

module _ {A B : Type 0} (o : Order) (b : ℕ) (s : List ℕ) where
  pub yields-bind : (w : Walk A) (k : A → Walk B) (at : ℕ) (Q : A → ℕ → Type 0) (R : B → ℕ → Type 0) →
      Yields o b s at w Q → ((a : A) (e : ℕ) → Q a e → Yields o b s e (k a) R) → Yields o b s at (w >>= k) R
  unfolding ◌>>=◌
  yields-bind (give x) k at Q R h g = g x at h
  yields-bind (refuse n p) k at Q R h g = tt
  yields-bind (check c n p w) k at Q R h g = λ e. yields-bind w k at Q R (h e) g
  yields-bind (number n f) k at Q R h g = yields-bind (f (number_at o n s (at - b))) k (at + n) Q R h g
  yields-bind (read κ n f) k at Q R h g = yields-bind (f (laid o κ (bytes_at n s (at - b)))) k (at + n) Q R h g
  yields-bind (skip n w) k at Q R h g = yields-bind w k (at + n) Q R h g
  yields-bind (list p l c m w) k at Q R h g = yields-bind w k at Q R h g

  pub yields-then : (w : Walk A) (v : Walk B) (at : ℕ) (Q : A → ℕ → Type 0) (R : B → ℕ → Type 0) →
      Yields o b s at w Q → ((a : A) (e : ℕ) → Q a e → Yields o b s e v R) → Yields o b s at (w >> v) R
  unfolding ◌>>◌
  yields-then w v at Q R h g = yields-bind w (λ _. v) at Q R h g

-- a step whose answer does not matter for what follows: only where it ends
pub then-skip : {A B : Type 0} (v : Verdict A) (k : A → ℕ → Verdict B) (e : ℕ) (r : Verdict (Unit {0})) → ends v ≡ goes tt e → ((a : A) → ends (k a e) ≡ r) → ends (onward v k) ≡ r
unfolding over
then-skip (stops n p) k e r h g = stops-goes h
then-skip (goes a x) k e r h g = let i : x ≡ e = cc in rw i (g a)
