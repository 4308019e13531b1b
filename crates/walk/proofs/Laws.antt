-- What holds of every walk, once for all.
-- Assumes nothing.
use mathlib.Core.Path.{◌≡◌, refl, sym, ap, ◌∙◌, fun_ext}
use mathlib.Core.Bool.{Bool, true, false}
use mathlib.Core.List.{List, [], ◌∷◌, ◌++◌, append_assoc, append-nil}
use Prim.Native.Nat.{ℕ, zero, suc, ◌+◌, ◌-◌, ◌^◌, ◌≤◌, ◌<◌}
use native.Mathlib.Nat.{add-zero}
use native.Mathlib.Omega.{arith}
use lib.Dec.{leb}
use borrow.Author.Tests.{leb-true, le-leb}
use lib.ListN.{length, take, drop, replicate, length-append, length-drop, take-append-drop, length-replicate}
use lib.Seq.{take_at, drop_at, length-take-le}
use Rattle.words.specs.Numbers.{word_in, bytes_in, Bytes}
use Rattle.words.specs.declared.Order.{Order}
use Rattle.words.proofs.Words.{bytes_take, bytes_drop, word_in-lt, word_in-bytes_in, bytes_in-word_in, length-bytes_in}
use Rattle.walk.specs.Plays.{Plays, gives, checks, numbers, reads, skips, lists}
use Rattle.walk.specs.Walk.{Kind, laid, Event, numeral, piece, blank, row, Walk, give, refuse, check, number, read, skip, list, Outcome, refused, passed, ◌>>◌, logged, run, render, size, cleared, after, ◌>>=◌}
use Rattle.walk.proofs.Laid.{bytes-laid, laid-laid, length-laid}

pub zeros-bytes : (n : ℕ) → Bytes (replicate n 0)
zeros-bytes zero = tt
zeros-bytes (suc n) = (omega arith, zeros-bytes n)

pub zeros-length : (n : ℕ) → length (replicate {A = ℕ} n 0) ≡ n
zeros-length n = length-replicate n 0

pub length-render : (o : Order) (t : List Event) → length (render o t) ≡ size t
unfolding render size
length-render o [] = refl
length-render o (numeral w v ∷ t) = simp (length-append, length-bytes_in, length-render o t)
length-render o (piece k bs ∷ t) = simp (length-append, length-laid, length-render o t)
length-render o (blank bs ∷ t) = simp (length-append, length-render o t)
length-render o (row p l c s ∷ t) = length-render o t

pub size-cons : (v : Event) (t : List Event) → size (v ∷ t) ≡ size (v ∷ []) + size t
unfolding size
size-cons (numeral w v) t = omega arith
size-cons (piece k bs) t = omega arith
size-cons (blank bs) t = omega arith
size-cons (row p l c s) t = omega arith

pub size-cleared : (t : List Event) → size (cleared t) ≡ size t
unfolding cleared size
size-cleared [] = refl
size-cleared (numeral w v ∷ t) = rw (size-cleared t)
size-cleared (piece k bs ∷ t) = rw (size-cleared t)
size-cleared (blank bs ∷ t) = rw (size-cleared t, zeros-length (length bs))
size-cleared (row p l c s ∷ t) = size-cleared t

module _ {A : Type 0} where
  -- bytes that are not judged may be anything, so zero
  pub plays-cleared : {t : List Event} {w : Walk A} {a : A} → Plays t w a → Plays (cleared t) w a
  unfolding cleared
  plays-cleared gives = gives
  plays-cleared (checks h p) = checks h (plays-cleared p)
  plays-cleared (numbers h p) = numbers h (plays-cleared p)
  plays-cleared (reads l b p) = reads l b (plays-cleared p)
  plays-cleared (skips {bs} l b p) = skips (zeros-length (length bs) ∙ l) (zeros-bytes (length bs)) (plays-cleared p)
  plays-cleared (lists p) = lists (plays-cleared p)

  -- one step, where there is room
  pub run-number : (o : Order) (at : ℕ) (s : List ℕ) (n : ℕ) (f : ℕ → Walk A) → n ≤ length s →
      run o at s (number n f) ≡ logged (numeral n (word_in o (take n s)) ∷ []) (run o (at + n) (drop n s) (f (word_in o (take n s))))
  unfolding run
  run-number o at s n f h = rw (run, le-leb n (length s) h)

  pub run-read : (o : Order) (at : ℕ) (s : List ℕ) (k : Kind) (n : ℕ) (f : List ℕ → Walk A) → n ≤ length s →
      run o at s (read k n f) ≡ logged (piece k (laid o k (take n s)) ∷ []) (run o (at + n) (drop n s) (f (laid o k (take n s))))
  unfolding run
  run-read o at s k n f h = rw (run, le-leb n (length s) h)

  -- one step, where the bytes at the front are known
  pub run-numeral : (o : Order) (at v : ℕ) (r : List ℕ) (n : ℕ) (f : ℕ → Walk A) → v < 256 ^ n →
      run o at (bytes_in o n v ++ r) (number n f) ≡ logged (numeral n v ∷ []) (run o (at + n) r (f v))
  unfolding run
  run-numeral o at v r n f l =
      let m : length (bytes_in o n v) ≡ n = length-bytes_in o n v in
      rw (run, le-leb n (length (bytes_in o n v ++ r)) (rw length-append (omega arith)), take_at, drop_at, word_in-bytes_in)

  pub run-piece : (o : Order) (at : ℕ) (k : Kind) (bs r : List ℕ) (n : ℕ) (f : List ℕ → Walk A) → length bs ≡ n →
      run o at (laid o k bs ++ r) (read k n f) ≡ logged (piece k bs ∷ []) (run o (at + n) r (f bs))
  unfolding run
  run-piece o at k bs r n f l =
      let m : length (laid o k bs) ≡ n = length-laid o k bs ∙ l in
      rw (run, le-leb n (length (laid o k bs ++ r)) (rw length-append (omega arith)), take_at, drop_at, laid-laid)

  pub run-blank : (o : Order) (at : ℕ) (bs r : List ℕ) (n : ℕ) (w : Walk A) → length bs ≡ n →
      run o at (bs ++ r) (skip n w) ≡ logged (blank bs ∷ []) (run o (at + n) r w)
  unfolding run
  run-blank o at bs r n w l = rw (run, le-leb n (length (bs ++ r)) (rw length-append (omega arith)), take_at, drop_at)

  pub complete : {t : List Event} {w : Walk A} {a : A} → Plays t w a → (o : Order) (at : ℕ) (r : List ℕ) → run o at (render o t ++ r) w ≡ passed a r t
  unfolding run render logged
  complete gives o at r = refl
  complete (checks h p) o at r = rw (run, h) (complete p o at r)
  complete (numbers {n} {v} {f} {t} l p) o at r = rw (append_assoc, run-numeral o at v (render o t ++ r) n f l, complete p o (at + n) r)
  complete (reads {n} {k} {f} {bs} {t} l b p) o at r = rw (append_assoc, run-piece o at k bs (render o t ++ r) n f l, complete p o (at + n) r)
  complete (skips {n} {w} {bs} {t} l b p) o at r = rw (append_assoc, run-blank o at bs (render o t ++ r) n w l, complete p o (at + n) r)
  complete (lists p) o at r = rw (complete p o at r)

  -- what a run accepts is the rendering of events that the walk accepts, and what is left
  pub record Read (o : Order) (s : List ℕ) (w : Walk A) (a : A) (r : List ℕ) (t : List Event) : Type 0 where
    pub plays : Plays t w a
    pub file : s ≡ render o t ++ r

  abbrev pub Judged : Order → List ℕ → Walk A → Outcome A → Type 0
  Judged o s w (refused n p) = Unit {0}
  Judged o s w (passed a r t) = Read o s w a r t

  -- where there is room for n bytes, and where there is none
  where-room : (n : ℕ) (s : List ℕ) (x : Outcome A) (P : Outcome A → Type 0) → (n ≤ length s → P x) → P (refused 0 0) → P (elim (leb n (length s)) [ true ↦ x | false ↦ refused 0 0 ])
  where-room n s x P h g =
      (elim (leb n (length s)) as (λ c. leb n (length s) ≡ c → P (elim c [ true ↦ x | false ↦ refused 0 0 ])) [ true ↦ λ e. h (leb-true n (length s) e) | false ↦ λ e. g ]) refl

  -- one step of a run that takes n bytes and logs v
  module _ (o : Order) (s : List ℕ) (w : Walk A) (v : Event) (w' : Walk A) (n : ℕ)
      (step : n ≤ length s → (t : List Event) (a : A) → Plays t w' a → Plays (v ∷ t) w a) (bytes : n ≤ length s → (t : List Event) → render o (v ∷ t) ≡ take n s ++ render o t) where
    judged-logged : n ≤ length s → (x : Outcome A) → Judged o (drop n s) w' x → Judged o s w (logged (v ∷ []) x)
    unfolding logged
    judged-logged h (refused m p) j = tt
    judged-logged h (passed a r t) j = record { plays = step h t a j.plays; file = rw (bytes h t, append_assoc, ← j.file) (sym (take-append-drop n s)) }

    judged-take : (x : Outcome A) → Judged o (drop n s) w' x → Judged o s w (elim (leb n (length s)) [ true ↦ logged (v ∷ []) x | false ↦ refused 0 0 ])
    judged-take x j = where-room n s (logged (v ∷ []) x) (Judged o s w) (λ h. judged-logged h x j) tt

  judged-as : (o : Order) (s : List ℕ) (w w' : Walk A) → ((t : List Event) (a : A) → Plays t w' a → Plays t w a) → (x : Outcome A) → Judged o s w' x → Judged o s w x
  judged-as o s w w' f (refused n p) j = tt
  judged-as o s w w' f (passed a r t) j = record { plays = f t a j.plays; file = j.file }

  judged-list : (o : Order) (s : List ℕ) (p l c m : ℕ) (w : Walk A) (x : Outcome A) → Judged o s w x → Judged o s (list p l c m w) (logged (row p l c m ∷ []) x)
  unfolding logged render
  judged-list o s p l c m w (refused n q) j = tt
  judged-list o s p l c m w (passed a r t) j = record { plays = lists j.plays; file = j.file }

  pub sound : (w : Walk A) (o : Order) (at : ℕ) (s : List ℕ) → Bytes s → Judged o s w (run o at s w)
  unfolding run render
  sound (give a) o at s b = record { plays = gives; file = refl }
  sound (refuse n p) o at s b = tt
  sound (check true n p w) o at s b = judged-as o s (check true n p w) w (λ t a q. checks refl q) (run o at s w) (sound w o at s b)
  sound (check false n p w) o at s b = tt
  sound (number n f) o at s b =
      let v : ℕ = word_in o (take n s) in
      judged-take o s (number n f) (numeral n v) (f v) n
      (λ h t a q. numbers (rw (length-take-le n s h) at (word_in-lt o (take n s) (bytes_take n s b))) q)
      (λ h t. ap (λ (x : List ℕ). x ++ render o t) (rw (length-take-le n s h) at (bytes_in-word_in o (take n s) (bytes_take n s b))))
      (run o (at + n) (drop n s) (f v)) (sound (f v) o (at + n) (drop n s) (bytes_drop n s b))
  sound (read k n f) o at s b =
      let bs : List ℕ = laid o k (take n s) in
      judged-take o s (read k n f) (piece k bs) (f bs) n
      (λ h t a q. reads (length-laid o k (take n s) ∙ length-take-le n s h) (bytes-laid o k (take n s) (bytes_take n s b)) q) (λ h t. rw laid-laid)
      (run o (at + n) (drop n s) (f bs)) (sound (f bs) o (at + n) (drop n s) (bytes_drop n s b))
  sound (skip n w) o at s b =
      judged-take o s (skip n w) (blank (take n s)) w n (λ h t a q. skips (length-take-le n s h) (bytes_take n s b) q) (λ h t. refl)
      (run o (at + n) (drop n s) w) (sound w o (at + n) (drop n s) (bytes_drop n s b))
  sound (list p l c m w) o at s b = judged-list o s p l c m w (run o at s w) (sound w o at s b)

  -- what was read and what is left are all the bytes
  abbrev pub Spent : ℕ → Outcome A → Type 0
  Spent n (refused m p) = Unit {0}
  Spent n (passed a r t) = size t + length r ≡ n

  spent-logged : (n m : ℕ) (v : Event) (x : Outcome A) → size (v ∷ []) + n ≡ m → Spent n x → Spent m (logged (v ∷ []) x)
  unfolding logged
  spent-logged n m v (refused k p) e h = tt
  spent-logged n m v (passed a r t) e h = omega (arith, size-cons v t)

  spent-take : (o : Order) (at n : ℕ) (s : List ℕ) (v : Event) (w : Walk A) → (n ≤ length s → size (v ∷ []) ≡ n) → Spent (length (drop n s)) (run o (at + n) (drop n s) w) →
      Spent (length s) (elim (leb n (length s)) [ true ↦ logged (v ∷ []) (run o (at + n) (drop n s) w) | false ↦ refused 0 0 ])
  spent-take o at n s v w e h = where-room n s _ (Spent (length s)) (λ l. spent-logged (length (drop n s)) (length s) v (run o (at + n) (drop n s) w) (rw (e l, length-drop) (omega arith)) h) tt

  pub spent : (w : Walk A) (o : Order) (at : ℕ) (s : List ℕ) → Spent (length s) (run o at s w)
  unfolding run size
  spent (give a) o at s = omega arith
  spent (refuse n p) o at s = tt
  spent (check true n p w) o at s = spent w o at s
  spent (check false n p w) o at s = tt
  spent (number n f) o at s = let v : ℕ = word_in o (take n s) in spent-take o at n s (numeral n v) (f v) (λ h. omega arith) (spent (f v) o (at + n) (drop n s))
  spent (read k n f) o at s =
      let bs : List ℕ = laid o k (take n s) in
      spent-take o at n s (piece k bs) (f bs) (λ h. omega (arith, length-laid o k (take n s), length-take-le n s h)) (spent (f bs) o (at + n) (drop n s))
  spent (skip n w) o at s = spent-take o at n s (blank (take n s)) w (λ h. omega (arith, length-take-le n s h)) (spent w o (at + n) (drop n s))
  spent (list p l c m w) o at s = spent-logged (length s) (length s) (row p l c m) (run o at s w) (omega arith) (spent w o at s)

  -- G1
  pub read_of : (w : Walk A) (o : Order) (at : ℕ) (s : List ℕ) {a : A} {r : List ℕ} {t : List Event} → Bytes s → run o at s w ≡ passed a r t → Read o s w a r t
  read_of w o at s b q = rw q at (sound w o at s b)

  -- G2, in any order, from any position, whatever follows
  pub turn : (w : Walk A) (o o' : Order) (at at' : ℕ) (s r' : List ℕ) {a : A} {r : List ℕ} {t : List Event} → Bytes s →
      run o at s w ≡ passed a r t → run o' at' (render o' t ++ r') w ≡ passed a r' t
  turn w o o' at at' s r' b q = complete (read_of w o at s b q).plays o' at' r'

-- one walk after the other
module _ {A B : Type 0} where
  pub plays-bind : {t u : List Event} {w : Walk A} (k : A → Walk B) {a : A} {b : B} → Plays t w a → Plays u (k a) b → Plays (t ++ u) (w >>= k) b
  unfolding ◌>>=◌
  plays-bind k gives q = q
  plays-bind k (checks h p) q = checks h (plays-bind k p q)
  plays-bind k (numbers l p) q = numbers l (plays-bind k p q)
  plays-bind k (reads l b p) q = reads l b (plays-bind k p q)
  plays-bind k (skips l b p) q = skips l b (plays-bind k p q)
  plays-bind k (lists p) q = lists (plays-bind k p q)

  pub record Split (t : List Event) (w : Walk A) (k : A → Walk B) (b : B) : Type 0 where
    pub value : A
    pub first : List Event
    pub second : List Event
    pub joined : first ++ second ≡ t
    pub before : Plays first w value
    pub behind : Plays second (k value) b

  put_first : (v : Event) {t : List Event} (w w' : Walk A) (k : A → Walk B) {b : B} → ((u : List Event) (a : A) → Plays u w' a → Plays (v ∷ u) w a) → Split t w' k b → Split (v ∷ t) w k b
  put_first v w w' k f i = record
      { value = i.value; first = v ∷ i.first; second = i.second; joined = ap (λ (x : List Event). v ∷ x) i.joined; before = f i.first i.value i.before; behind = i.behind }

  pub plays-split : {t : List Event} (w : Walk A) (k : A → Walk B) {b : B} → Plays t (w >>= k) b → Split t w k b
  unfolding ◌>>=◌
  plays-split {t} (give a) k p = record { value = a; first = []; second = t; joined = refl; before = gives; behind = p }
  plays-split (refuse _ _) k p = elim p [ ]
  plays-split (check c n q w) k (checks h p) =
      let i = plays-split w k p in
      record { value = i.value; first = i.first; second = i.second; joined = i.joined; before = checks h i.before; behind = i.behind }
  plays-split (number n f) k (numbers {v} l p) = put_first (numeral n v) (number n f) (f v) k (λ u a x. numbers l x) (plays-split (f v) k p)
  plays-split (read κ n f) k (reads {bs} l b p) = put_first (piece κ bs) (read κ n f) (f bs) k (λ u a x. reads l b x) (plays-split (f bs) k p)
  plays-split (skip n w) k (skips {bs} l b p) = put_first (blank bs) (skip n w) w k (λ u a x. skips l b x) (plays-split w k p)
  plays-split (list q l c s w) k (lists p) = put_first (row q l c s) (list q l c s w) w k (λ u a x. lists x) (plays-split w k p)

logged-logged : {A : Type 0} (t u : List Event) (x : Outcome A) → logged t (logged u x) ≡ logged (t ++ u) x
unfolding logged
logged-logged t u (refused n p) = refl
logged-logged t u (passed a r v) = rw append_assoc

logged-nil : {A : Type 0} (x : Outcome A) → logged [] x ≡ x
unfolding logged
logged-nil (refused n p) = refl
logged-nil (passed a r v) = refl

-- G4: the run of one walk after the other
module _ {A B : Type 0} (k : A → Walk B) (o : Order) where
  unfoldable pub go_on : ℕ → A → ℕ → List ℕ → Outcome B
  go_on at a n r = run o (at + n) r (k a)

  after-logged : (at m : ℕ) (v : Event) (x : Outcome A) → size (v ∷ []) ≡ m → after (logged (v ∷ []) x) (go_on at) ≡ logged (v ∷ []) (after x (go_on (at + m)))
  unfolding after logged go_on
  after-logged at m v (refused n p) e = refl
  after-logged at m v (passed a r t) e =
      let q : at + size (v ∷ t) ≡ at + m + size t = ap (λ (x : ℕ). at + x) (size-cons v t) ∙ omega arith in
      rw (q, logged-logged)

  after-take : (at n : ℕ) (s : List ℕ) (v : Event) (x : Outcome A) (y : Outcome B) → (n ≤ length s → size (v ∷ []) ≡ n) → y ≡ after x (go_on (at + n)) →
      ◌≡◌ {A = Outcome B} (elim (leb n (length s)) [ true ↦ logged (v ∷ []) y | false ↦ refused 0 0 ])
      (after (elim (leb n (length s)) [ true ↦ logged (v ∷ []) x | false ↦ refused 0 0 ]) (go_on at))
  unfolding after
  after-take at n s v x y e h =
      (elim (leb n (length s)) as
      (λ c. leb n (length s) ≡ c → ◌≡◌ {A = Outcome B} (elim c [ true ↦ logged (v ∷ []) y | false ↦ refused 0 0 ]) (after (elim c [ true ↦ logged (v ∷ []) x | false ↦ refused 0 0 ]) (go_on at)))
      [ true ↦ λ q. rw h (sym (after-logged at n v x (e (leb-true n (length s) q)))) | false ↦ λ q. refl ]) refl

  pub run_bind : (w : Walk A) (at : ℕ) (s : List ℕ) → run o at s (w >>= k) ≡ after (run o at s w) (go_on at)
  unfolding run ◌>>=◌ after go_on size
  run_bind (give a) at s = rw add-zero (sym (logged-nil (run o at s (k a))))
  run_bind (refuse n p) at s = refl
  run_bind (check true n p w) at s = run_bind w at s
  run_bind (check false n p w) at s = refl
  run_bind (number n f) at s = after-take at n s (numeral n (word_in o (take n s))) (run o (at + n) (drop n s) (f (word_in o (take n s)))) (run o (at + n) (drop n s) (f (word_in o (take n s)) >>= k)) (λ h. omega arith) (run_bind (f (word_in o (take n s))) (at + n) (drop n s))
  run_bind (read κ n f) at s =
      after-take at n s (piece κ (laid o κ (take n s))) (run o (at + n) (drop n s) (f (laid o κ (take n s)))) (run o (at + n) (drop n s) (f (laid o κ (take n s)) >>= k)) (λ h. omega (arith, length-laid o κ (take n s), length-take-le n s h)) (run_bind (f (laid o κ (take n s))) (at + n) (drop n s))
  run_bind (skip n w) at s = after-take at n s (blank (take n s)) (run o (at + n) (drop n s) w) (run o (at + n) (drop n s) (w >>= k)) (λ h. omega (arith, length-take-le n s h)) (run_bind w (at + n) (drop n s))
  run_bind (list p l c m w) at s =
      let z : at + 0 ≡ at = omega arith in
      rw (run_bind w at s, after-logged at 0 (row p l c m) (run o at s w) refl, z)

-- what it says that a walk accepts events: the tests hold, and the events are those that the walk reads and lists
pub record Held (c : Bool) (P : Type 0) : Type 0 where
  pub holds : c ≡ true
  pub then : P

pub record CountedWalk (n : ℕ) (t : List Event) (P : ℕ → List Event → Type 0) : Type 0 where
  pub word : ℕ
  pub others : List Event
  pub split : t ≡ numeral n word ∷ others
  pub small : word < 256 ^ n
  pub then : P word others

pub record Took (n : ℕ) (e : List ℕ → Event) (t : List Event) (P : List ℕ → List Event → Type 0) : Type 0 where
  pub bytes : List ℕ
  pub others : List Event
  pub split : t ≡ e bytes ∷ others
  pub width : length bytes ≡ n
  pub small : Bytes bytes
  pub then : P bytes others

pub record Listed (e : Event) (t : List Event) (P : List Event → Type 0) : Type 0 where
  pub others : List Event
  pub split : t ≡ e ∷ others
  pub then : P others

pub record Given {A : Type 0} (t : List Event) (b a : A) : Type 0 where
  pub none : t ≡ []
  pub value : b ≡ a

module _ {A : Type 0} where
  abbrev pub Facts : List Event → Walk A → A → Type 0
  Facts t (give b) a = Given t b a
  Facts t (refuse n p) a = ⊥
  Facts t (check c n p w) a = Held c (Facts t w a)
  Facts t (number n f) a = CountedWalk n t (λ v u. Facts u (f v) a)
  Facts t (read k n f) a = Took n (piece k) t (λ bs u. Facts u (f bs) a)
  Facts t (skip n w) a = Took n blank t (λ bs u. Facts u w a)
  Facts t (list p l c s w) a = Listed (row p l c s) t (λ u. Facts u w a)

  pub facts : {t : List Event} {w : Walk A} {a : A} → Plays t w a → Facts t w a
  facts gives = record { none = refl; value = refl }
  facts (checks h p) = record { holds = h; then = facts p }
  facts (numbers {v} {t} l p) = record { word = v; others = t; split = refl; small = l; then = facts p }
  facts (reads {bs} {t} l b p) = record { bytes = bs; others = t; split = refl; width = l; small = b; then = facts p }
  facts (skips {bs} {t} l b p) = record { bytes = bs; others = t; split = refl; width = l; small = b; then = facts p }
  facts (lists {t} p) = record { others = t; split = refl; then = facts p }

  pub plays : {t : List Event} (w : Walk A) {a : A} → Facts t w a → Plays t w a
  plays (give b) q = rw (q.none, ← q.value) gives
  plays (refuse n p) q = absurd q
  plays (check c n p w) q = checks q.holds (plays w q.then)
  plays {t = t} (number n f) {a = a} q = rw q.split (numbers q.small (plays {t = q.others} (f q.word) q.then))
  plays {t = t} (read k n f) {a = a} q = rw q.split (reads q.width q.small (plays {t = q.others} (f q.bytes) q.then))
  plays {t = t} (skip n w) {a = a} q = rw q.split (skips q.width q.small (plays {t = q.others} w q.then))
  plays {t = t} (list p l c s w) {a = a} q = rw q.split (lists (plays {t = q.others} w q.then))

-- the same by what was read alone: the events and the answer are computed from it, so that what they say of a walk that is written out holds by computation
pub record Counts (n : ℕ) (P : ℕ → Type 0) : Type 0 where
  pub word : ℕ
  pub small : word < 256 ^ n
  pub then : P word

pub record Takes (n : ℕ) (P : List ℕ → Type 0) : Type 0 where
  pub bytes : List ℕ
  pub width : length bytes ≡ n
  pub small : Bytes bytes
  pub then : P bytes

module _ {A : Type 0} where
  abbrev pub Trace : Walk A → Type 0
  Trace (give b) = Unit {0}
  Trace (refuse n p) = ⊥
  Trace (check c n p w) = Held c (Trace w)
  Trace (number n f) = Counts n (λ v. Trace (f v))
  Trace (read k n f) = Takes n (λ bs. Trace (f bs))
  Trace (skip n w) = Takes n (λ _. Trace w)
  Trace (list p l c s w) = Trace w

  abbrev pub events_of : (w : Walk A) → Trace w → List Event
  events_of (give b) q = []
  events_of (refuse n p) q = []
  events_of (check c n p w) q = events_of w q.then
  events_of (number n f) q = numeral n q.word ∷ events_of (f q.word) q.then
  events_of (read k n f) q = piece k q.bytes ∷ events_of (f q.bytes) q.then
  events_of (skip n w) q = blank q.bytes ∷ events_of w q.then
  events_of (list p l c s w) q = row p l c s ∷ events_of w q

  abbrev pub value_of : (w : Walk A) → Trace w → A
  value_of (give b) q = b
  value_of (refuse n p) q = absurd q
  value_of (check c n p w) q = value_of w q.then
  value_of (number n f) q = value_of (f q.word) q.then
  value_of (read k n f) q = value_of (f q.bytes) q.then
  value_of (skip n w) q = value_of w q.then
  value_of (list p l c s w) q = value_of w q

  pub record Traced (t : List Event) (w : Walk A) (a : A) : Type 0 where
    pub trace : Trace w
    pub events : t ≡ events_of w trace
    pub value : a ≡ value_of w trace

  pub traced : {t : List Event} {w : Walk A} {a : A} → Plays t w a → Traced t w a
  traced gives = record { trace = tt; events = refl; value = refl }
  traced (checks h p) = let q = traced p in record { trace = record { holds = h; then = q.trace }; events = q.events; value = q.value }
  traced (numbers {n} {v} l p) =
      let q = traced p in
      record { trace = record { word = v; small = l; then = q.trace }; events = ap (λ (u : List Event). numeral n v ∷ u) q.events; value = q.value }
  traced (reads {k} {bs} l b p) =
      let q = traced p in
      record { trace = record { bytes = bs; width = l; small = b; then = q.trace }; events = ap (λ (u : List Event). piece k bs ∷ u) q.events; value = q.value }
  traced (skips {bs} l b p) =
      let q = traced p in
      record { trace = record { bytes = bs; width = l; small = b; then = q.trace }; events = ap (λ (u : List Event). blank bs ∷ u) q.events; value = q.value }
  traced (lists {p} {l} {c} {s} x) = let q = traced x in record { trace = q.trace; events = ap (λ (u : List Event). row p l c s ∷ u) q.events; value = q.value }

  pub played : (w : Walk A) (q : Trace w) → Plays (events_of w q) w (value_of w q)
  played (give b) q = gives
  played (refuse n p) q = absurd q
  played (check c n p w) q = checks q.holds (played w q.then)
  played (number n f) q = numbers q.small (played (f q.word) q.then)
  played (read k n f) q = reads q.width q.small (played (f q.bytes) q.then)
  played (skip n w) q = skips q.width q.small (played w q.then)
  played (list p l c s w) q = lists (played w q)

  -- what is not judged may be zero
  abbrev pub clear : (w : Walk A) → Trace w → Trace w
  clear (give b) q = q
  clear (refuse n p) q = q
  clear (check c n p w) q = record { holds = q.holds; then = clear w q.then }
  clear (number n f) q = record { word = q.word; small = q.small; then = clear (f q.word) q.then }
  clear (read k n f) q = record { bytes = q.bytes; width = q.width; small = q.small; then = clear (f q.bytes) q.then }
  clear (skip n w) q = record { bytes = replicate n 0; width = zeros-length n; small = zeros-bytes n; then = clear w q.then }
  clear (list p l c s w) q = clear w q

  value-clear : (w : Walk A) (q : Trace w) → value_of w (clear w q) ≡ value_of w q
  value-clear (give b) q = refl
  value-clear (refuse n p) q = absurd q
  value-clear (check c n p w) q = value-clear w q.then
  value-clear (number n f) q = value-clear (f q.word) q.then
  value-clear (read k n f) q = value-clear (f q.bytes) q.then
  value-clear (skip n w) q = value-clear w q.then
  value-clear (list p l c s w) q = value-clear w q

  -- a walk's events written anew from its answer: `e` says how, and for a walk that is written out the last argument is `λ q. refl`
  pub renewed : (w : Walk A) (e : A → List Event) → ((q : Trace w) → events_of w (clear w q) ≡ e (value_of w q)) → {t : List Event} {a : A} → Plays t w a → Plays (e a) w a
  renewed w e h p =
      let q = traced p in
      rw (q.value, ← h q.trace) (rw (value-clear w q.trace) at (played w (clear w q.trace)))

pub size-append : (t u : List Event) → size (t ++ u) ≡ size t + size u
unfolding size
size-append [] u = omega arith
size-append (numeral w v ∷ t) u = omega (arith, size-append t u)
size-append (piece k bs ∷ t) u = omega (arith, size-append t u)
size-append (blank bs ∷ t) u = omega (arith, size-append t u)
size-append (row p l c s ∷ t) u = size-append t u

-- a walk with a last step that only gives
pub plays-give : {A B : Type 0} {t : List Event} {w : Walk A} (f : A → B) {a : A} → Plays t w a → Plays t (w >>= λ x. give (f x)) (f a)
plays-give f p = rw append-nil at (plays-bind (λ x. give (f x)) p gives)

-- one step of what a walk accepts
module _ {A : Type 0} where
  pub checked : {n p : ℕ} {c : Bool} {t : List Event} {w : Walk A} {a : A} → Plays t (check c n p w) a → Held c (Plays t w a)
  checked (checks h p) = record { holds = h; then = p }

  pub counted : {n : ℕ} {t : List Event} {f : ℕ → Walk A} {a : A} → Plays t (number n f) a → CountedWalk n t (λ v u. Plays u (f v) a)
  counted (numbers {v} {t} l p) = record { word = v; others = t; split = refl; small = l; then = p }

  pub taken : {k : Kind} {n : ℕ} {t : List Event} {f : List ℕ → Walk A} {a : A} → Plays t (read k n f) a → Took n (piece k) t (λ bs u. Plays u (f bs) a)
  taken (reads {bs} {t} l b p) = record { bytes = bs; others = t; split = refl; width = l; small = b; then = p }

  pub skipped : {n : ℕ} {t : List Event} {w : Walk A} {a : A} → Plays t (skip n w) a → Took n blank t (λ bs u. Plays u w a)
  skipped (skips {bs} {t} l b p) = record { bytes = bs; others = t; split = refl; width = l; small = b; then = p }

  pub listed : {q l c s : ℕ} {t : List Event} {w : Walk A} {a : A} → Plays t (list q l c s w) a → Listed (row q l c s) t (λ u. Plays u w a)
  listed (lists {t} p) = record { others = t; split = refl; then = p }

-- a last step that reads nothing
pub plays-last : {A B : Type 0} {t : List Event} {w : Walk A} (k : A → Walk B) {a : A} {b : B} → Plays t w a → Plays [] (k a) b → Plays t (w >>= k) b
plays-last k p q = rw append-nil at (plays-bind k p q)

-- the same for a long walk: what is found is bound by a λ, so that it stays small where a chain of `let`s would be written out
module _ {A B C : Type 0} where
  pub by-split : {t : List Event} (w : Walk A) (k : A → Walk B) {b : B} → Plays t (w >>= k) b → ((a : A) (u v : List Event) → Plays u w a → Plays v (k a) b → C) → C
  by-split w k p f = let q = plays-split w k p in f q.value q.first q.second q.before q.behind

module _ {A C : Type 0} where
  pub by-check : {n p : ℕ} {c : Bool} {t : List Event} {w : Walk A} {a : A} → Plays t (check c n p w) a → (c ≡ true → Plays t w a → C) → C
  by-check (checks h p) f = f h p

  pub by_number : {n : ℕ} {t : List Event} {g : ℕ → Walk A} {a : A} → Plays t (number n g) a → ((v : ℕ) (u : List Event) → v < 256 ^ n → Plays u (g v) a → C) → C
  by_number (numbers {v} {t} l p) f = f v t l p

  pub by_read : {k : Kind} {n : ℕ} {t : List Event} {g : List ℕ → Walk A} {a : A} → Plays t (read k n g) a → ((bs : List ℕ) (u : List Event) → length bs ≡ n → Bytes bs → Plays u (g bs) a → C) → C
  by_read (reads {bs} {t} l b p) f = f bs t l b p

pub plays-gave : {A : Type 0} {t : List Event} {b a : A} → Plays t (give b) a → a ≡ b
plays-gave gives = refl

pub by_parts : {A B C : Type 0} {t : List Event} (w : Walk A) (k : A → Walk B) {b : B} → Plays t (w >>= k) b → ((a : A) (u v : List Event) → u ++ v ≡ t → Plays u w a → Plays v (k a) b → C) → C
by_parts w k p f = let q = plays-split w k p in f q.value q.first q.second q.joined q.before q.behind

-- one walk after two others is one after the first, and then the second
pub bind-step : {A B C : Type 0} (v : Walk A) (f : A → Walk B) (k : B → Walk C) (g : A → Walk C) → ((a : A) → (f a >>= k) ≡ g a) → ((v >>= f) >>= k) ≡ (v >>= g)
unfolding ◌>>=◌
bind-step (give a) f k g h = h a
bind-step (refuse n p) f k g h = refl
bind-step (check c n p v) f k g h = ap (check c n p) (bind-step v f k g h)
bind-step (number n w) f k g h = ap (number n) (fun_ext (λ x. bind-step (w x) f k g h))
bind-step (read κ n w) f k g h = ap (read κ n) (fun_ext (λ x. bind-step (w x) f k g h))
bind-step (skip n v) f k g h = ap (skip n) (bind-step v f k g h)
bind-step (list p l c m v) f k g h = ap (list p l c m) (bind-step v f k g h)
