-- The events of a walk over a part of the file: of one walk after the other, of a part as of the whole, as `run` keeps them, and the rows among them; and events written, one list after the other.
-- Assumes nothing.
use mathlib.Core.Path.{◌≡◌, refl, sym, ap, ◌∙◌}
use mathlib.Core.Bool.{Bool, true, false}
use mathlib.Core.List.{List, [], ◌∷◌, ◌++◌, append_assoc}
use Prim.Native.Nat.{ℕ, ◌+◌, ◌-◌, ◌≤◌}
use native.Mathlib.Nat.{add_assoc}
use native.Mathlib.Omega.{arith}
use borrow.Author.Tests.{le-leb}
use lib.ListN.{length, take, drop, replicate, length-drop}
use lib.Seq.{drop-drop, length-take-le}
use Rattle.words.specs.Numbers.{bytes_at, number_at, bytes_in}
use Rattle.words.specs.declared.Order.{Order}
use Rattle.walk.specs.See.{goes, gate, see, verdict, Stays, numbered}
use Rattle.walk.specs.Tell.{tell}
use Rattle.walk.specs.Trace.{trace, written}
use Rattle.walk.specs.Walk.{Kind, laid, Event, numeral, piece, blank, row, rows, Row, render, cleared, size, Walk, give, refuse, check, number, read, skip, list, Outcome, refused, passed, ◌>>◌, logged, run, ◌>>=◌}
use Rattle.walk.proofs.Apart.{stops-goes, refused-passed}
use Rattle.walk.proofs.Laws.{run-read, run-number, length-render, size-cleared}
use Rattle.walk.proofs.Seen.{passes, part_bytes, length-bytes_at, seen}

module _ {A B : Type 0} where
  -- one walk after the other, where the first goes on
  pub trace-bind : (o : Order) (b : ℕ) (s : List ℕ) (at : ℕ) (w : Walk A) (k : A → Walk B) {a : A} {e : ℕ} → see o b s at w ≡ goes a e → trace o b s at (w >>= k) ≡ trace o b s at w ++ trace o b s e (k a)
  unfolding see gate trace ◌>>=◌
  trace-bind o b s at (give x) k {a} {e} h =
      let i : x ≡ a = cc in
      let j : at ≡ e = cc in
      rw (i, j)
  trace-bind o b s at (refuse n p) k h = stops-goes h
  trace-bind o b s at (check true n p w) k h = trace-bind o b s at w k h
  trace-bind o b s at (check false n p w) k h = stops-goes h
  trace-bind o b s at (number n f) k h = ap (λ (t : List Event). numeral n (number_at o n s (at - b)) ∷ t) (trace-bind o b s (at + n) (f (number_at o n s (at - b))) k h)
  trace-bind o b s at (read κ n f) k h = ap (λ (t : List Event). piece κ (laid o κ (bytes_at n s (at - b))) ∷ t) (trace-bind o b s (at + n) (f (laid o κ (bytes_at n s (at - b)))) k h)
  trace-bind o b s at (skip n w) k h = ap (λ (t : List Event). blank (bytes_at n s (at - b)) ∷ t) (trace-bind o b s (at + n) w k h)
  trace-bind o b s at (list p l c m w) k h = ap (λ (t : List Event). row p l c m ∷ t) (trace-bind o b s at w k h)

  pub trace-then : (o : Order) (b : ℕ) (s : List ℕ) (at : ℕ) (w : Walk A) (v : Walk B) {a : A} {e : ℕ} → see o b s at w ≡ goes a e → trace o b s at (w >> v) ≡ trace o b s at w ++ trace o b s e v
  unfolding ◌>>◌
  trace-then o b s at w v h = trace-bind o b s at w (λ _. v) h

  -- an answer that is mapped at the end adds nothing
  pub trace-give : (o : Order) (b : ℕ) (s : List ℕ) (at : ℕ) (w : Walk A) (f : A → B) → trace o b s at (w >>= λ a. give (f a)) ≡ trace o b s at w
  unfolding trace ◌>>=◌
  trace-give o b s at (give x) f = refl
  trace-give o b s at (refuse n p) f = refl
  trace-give o b s at (check c n p w) f = trace-give o b s at w f
  trace-give o b s at (number n g) f = ap (λ (t : List Event). numeral n (number_at o n s (at - b)) ∷ t) (trace-give o b s (at + n) (g (number_at o n s (at - b))) f)
  trace-give o b s at (read κ n g) f = ap (λ (t : List Event). piece κ (laid o κ (bytes_at n s (at - b))) ∷ t) (trace-give o b s (at + n) (g (laid o κ (bytes_at n s (at - b)))) f)
  trace-give o b s at (skip n w) f = ap (λ (t : List Event). blank (bytes_at n s (at - b)) ∷ t) (trace-give o b s (at + n) w f)
  trace-give o b s at (list p l c m w) f = ap (λ (t : List Event). row p l c m ∷ t) (trace-give o b s at w f)

module _ {A : Type 0} where
  module _ (o : Order) (b c a m : ℕ) (s : List ℕ) (stands : c ≡ b + a) (fits : a + m ≤ length s) where
    -- a walk that went on and stays in a part has the same events there as in the whole
    pub trace-part : (w : Walk A) (at : ℕ) (Q : A → ℕ → Type 0) → c ≤ at → Stays (c + m) at w Q → {x : A} {e : ℕ} → see o b s at w ≡ goes x e → trace o c (take m (drop a s)) at w ≡ trace o b s at w
    unfolding trace see gate number_at bytes_at
    trace-part (give x) at Q g h v = refl
    trace-part (refuse n p) at Q g h v = refl
    trace-part (check true n p w) at Q g h v = trace-part w at Q g (passes (numbered n) h refl) v
    trace-part (check false n p w) at Q g h v = stops-goes v
    trace-part (number n f) at Q g h v =
        let d : a + (at - c) ≡ at - b = omega arith in
        rw (part_bytes s a m (at - c) n (omega (arith, h.0)), d) (ap (λ (t : List Event). numeral n (number_at o n s (at - b)) ∷ t) (trace-part (f (number_at o n s (at - b))) (at + n) Q (omega arith) (h.1 _) v))
    trace-part (read k n f) at Q g h v =
        let d : a + (at - c) ≡ at - b = omega arith in
        rw (part_bytes s a m (at - c) n (omega (arith, h.0)), d)
        (ap (λ (t : List Event). piece k (laid o k (bytes_at n s (at - b))) ∷ t) (trace-part (f (laid o k (bytes_at n s (at - b)))) (at + n) Q (omega arith) (h.1 _ (length-bytes_at o b s k n at (omega (arith, h.0)) (omega arith))) v))
    trace-part (skip n w) at Q g h v =
        let d : a + (at - c) ≡ at - b = omega arith in
        rw (part_bytes s a m (at - c) n (omega (arith, h.0)), d) (ap (λ (t : List Event). blank (bytes_at n s (at - b)) ∷ t) (trace-part w (at + n) Q (omega arith) h.1 v))
    trace-part (list p l x y w) at Q g h v = ap (λ (t : List Event). row p l x y ∷ t) (trace-part w at Q g h v)

  -- the body of the record at p, handed on as the part up to q
  pub trace-body : (o : Order) (b p q : ℕ) (s : List ℕ) (w : Walk A) (Q : A → ℕ → Type 0) → p + 16 ≤ q → q ≤ length s → Stays (b + q) (b + p + 16) w Q → {x : A} {e : ℕ} → see o b s (b + (p + 16)) w ≡ goes x e →
      trace o (b + p + 16) (take (q - (p + 16)) (drop (p + 16) s)) (b + p + 16) w ≡ trace o b s (b + (p + 16)) w
  trace-body o b p q s w Q h f k {x} {e} v =
      let z : b + q ≡ b + p + 16 + (q - (p + 16)) = omega arith in
      trace-part o b (b + p + 16) (p + 16) (q - (p + 16)) s (add_assoc b p 16) (omega arith) w (b + p + 16) Q (omega arith) (rw z at k) {x = x} {e = e} (rw (add_assoc b p 16) v) ∙ ap (λ (y : ℕ). trace o b s y w) (add_assoc b p 16)

  -- a run that passed, behind one event
  pub by-logged : {X : Type 0} (v : Event) (y : Outcome A) {x : A} {r : List ℕ} {t : List Event} → logged (v ∷ []) y ≡ passed x r t → ((u : List Event) → y ≡ passed x r u → t ≡ v ∷ u → X) → X
  unfolding logged
  by-logged v (refused n p) h k = refused-passed h
  by-logged v (passed x r u) h k = k u (cc) (cc)

  module _ (o : Order) (b : ℕ) (s : List ℕ) (L : ℕ) (fit : L ≤ b + length s) where
    -- the events of a run that passed
    pub traces : (w : Walk A) (at : ℕ) (Q : A → ℕ → Type 0) {x : A} {r : List ℕ} {t : List Event} → b ≤ at → Stays L at w Q → run o at (drop (at - b) s) w ≡ passed x r t → t ≡ trace o b s at w
    unfolding trace run number_at bytes_at
    traces (give a) at Q {x} {r} {t} g h q = let i : t ≡ [] = cc in i
    traces (refuse n p) at Q g h q = refused-passed q
    traces (check true n p w) at Q g h q = traces w at Q g (passes (numbered n) h refl) q
    traces (check false n p w) at Q g h q = refused-passed q
    traces (number n f) at Q g h q =
        let l : n ≤ length (drop (at - b) s) = rw length-drop (omega (arith, h.0)) in
        let d : at - b + n ≡ at + n - b = omega arith in
        by-logged (numeral n (number_at o n s (at - b))) (run o (at + n) (drop n (drop (at - b) s)) (f (number_at o n s (at - b)))) (sym (run-number o at (drop (at - b) s) n f l) ∙ q)
        (λ u y i. i ∙ ap (λ (t : List Event). numeral n (number_at o n s (at - b)) ∷ t) (traces (f (number_at o n s (at - b))) (at + n) Q (omega arith) (h.1 _) (rw (drop-drop n (at - b) s, d) at y)))
    traces (read k n f) at Q g h q =
        let l : n ≤ length (drop (at - b) s) = rw length-drop (omega (arith, h.0)) in
        let d : at - b + n ≡ at + n - b = omega arith in
        let e : length (laid o k (take n (drop (at - b) s))) ≡ n = length-bytes_at o b s k n at (omega (arith, h.0)) g in
        by-logged (piece k (laid o k (take n (drop (at - b) s)))) (run o (at + n) (drop n (drop (at - b) s)) (f (laid o k (bytes_at n s (at - b))))) (sym (run-read o at (drop (at - b) s) k n f l) ∙ q)
        (λ u y i. i ∙ ap (λ (t : List Event). piece k (laid o k (bytes_at n s (at - b))) ∷ t) (traces (f (laid o k (bytes_at n s (at - b)))) (at + n) Q (omega arith) (h.1 _ e) (rw (drop-drop n (at - b) s, d) at y)))
    traces (skip n w) at Q g h q =
        let l : n ≤ length (drop (at - b) s) = rw length-drop (omega (arith, h.0)) in
        let d : at - b + n ≡ at + n - b = omega arith in
        by-logged (blank (take n (drop (at - b) s))) (run o (at + n) (drop n (drop (at - b) s)) w) (rw (run, le-leb n (length (drop (at - b) s)) l) at q)
        (λ u y i. i ∙ ap (λ (t : List Event). blank (bytes_at n s (at - b)) ∷ t) (traces w (at + n) Q (omega arith) h.1 (rw (drop-drop n (at - b) s, d) at y)))
    traces (list p l c m w) at Q g h q = by-logged (row p l c m) (run o at (drop (at - b) s) w) q (λ u y i. i ∙ ap (λ (v : List Event). row p l c m ∷ v) (traces w at Q g h y))

    -- the rows among them, where the walk goes on
    rows-trace : (w : Walk A) (at : ℕ) (Q : A → ℕ → Type 0) {x : A} {e : ℕ} → b ≤ at → Stays L at w Q → see o b s at w ≡ goes x e → rows at (trace o b s at w) ≡ tell o b s at w
    unfolding trace tell see gate rows bytes_at number_at
    rows-trace (give a) at Q g h q = refl
    rows-trace (refuse n p) at Q g h q = stops-goes q
    rows-trace (check true n p w) at Q g h q = rows-trace w at Q g (passes (numbered n) h refl) q
    rows-trace (check false n p w) at Q g h q = stops-goes q
    rows-trace (number n f) at Q g h q = rows-trace (f (number_at o n s (at - b))) (at + n) Q (omega arith) (h.1 _) q
    rows-trace (read k n f) at Q g h q = let e = length-bytes_at o b s k n at (omega (arith, h.0)) g in rw (rows, e) (rows-trace (f (laid o k (bytes_at n s (at - b)))) (at + n) Q (omega arith) (h.1 _ e) q)
    rows-trace (skip n w) at Q g h q =
        let e : length (bytes_at n s (at - b)) ≡ n = length-take-le n (drop (at - b) s) (rw length-drop (omega (arith, h.0))) in
        rw (rows, e) (rows-trace w (at + n) Q (omega arith) h.1 q)
    rows-trace (list p l c m w) at Q g h q = ap (λ (v : List Row). record { start = at - p; size = l; code = c; serial = m } ∷ v) (rows-trace w at Q g h q)

    -- the rows of a run that passed
    pub told : (w : Walk A) (at : ℕ) (Q : A → ℕ → Type 0) {x : A} {r : List ℕ} {t : List Event} → b ≤ at → Stays L at w Q → run o at (drop (at - b) s) w ≡ passed x r t → rows at t ≡ tell o b s at w
    told w at Q g h q = ap (rows at) (traces w at Q g h q) ∙ rows-trace w at Q g h (sym (seen o b s L fit w at Q g h) ∙ ap (verdict at) q)

    -- how many bytes they are, where the walk goes on
    pub size-trace : (w : Walk A) (at : ℕ) (Q : A → ℕ → Type 0) {x : A} {e : ℕ} → b ≤ at → Stays L at w Q → see o b s at w ≡ goes x e → at + size (trace o b s at w) ≡ e
    unfolding trace see gate size bytes_at number_at
    size-trace (give a) at Q {x} {e} g h q = let j : at ≡ e = cc in omega arith
    size-trace (refuse n p) at Q g h q = stops-goes q
    size-trace (check true n p w) at Q g h q = size-trace w at Q g (passes (numbered n) h refl) q
    size-trace (check false n p w) at Q g h q = stops-goes q
    size-trace (number n f) at Q g h q = let i = size-trace (f (number_at o n s (at - b))) (at + n) Q (omega arith) (h.1 _) q in omega (arith, i)
    size-trace (read k n f) at Q g h q =
        let e = length-bytes_at o b s k n at (omega (arith, h.0)) g in
        let i = size-trace (f (laid o k (bytes_at n s (at - b)))) (at + n) Q (omega arith) (h.1 _ e) q in
        omega (arith, i, e)
    size-trace (skip n w) at Q g h q =
        let e : length (bytes_at n s (at - b)) ≡ n = length-take-le n (drop (at - b) s) (rw length-drop (omega (arith, h.0))) in
        let i = size-trace w (at + n) Q (omega arith) h.1 q in
        omega (arith, i, e)
    size-trace (list p l c m w) at Q g h q = size-trace w at Q g h q

-- events written, one list after the other
pub render-append : (o : Order) (t u : List Event) → render o (t ++ u) ≡ render o t ++ render o u
unfolding render
render-append o [] u = refl
render-append o (numeral w v ∷ t) u = rw (render-append o t u) (sym (append_assoc (bytes_in o w v) (render o t) (render o u)))
render-append o (piece k bs ∷ t) u = rw (render-append o t u) (sym (append_assoc (laid o k bs) (render o t) (render o u)))
render-append o (blank bs ∷ t) u = rw (render-append o t u) (sym (append_assoc bs (render o t) (render o u)))
render-append o (row p l c s ∷ t) u = render-append o t u

pub cleared-append : (t u : List Event) → cleared (t ++ u) ≡ cleared t ++ cleared u
unfolding cleared
cleared-append [] u = refl
cleared-append (numeral w v ∷ t) u = ap (λ (x : List Event). numeral w v ∷ x) (cleared-append t u)
cleared-append (piece k bs ∷ t) u = ap (λ (x : List Event). piece k bs ∷ x) (cleared-append t u)
cleared-append (blank bs ∷ t) u = ap (λ (x : List Event). blank (replicate (length bs) 0) ∷ x) (cleared-append t u)
cleared-append (row p l c s ∷ t) u = ap (λ (x : List Event). row p l c s ∷ x) (cleared-append t u)

pub written-append : (keep : Bool) (o : Order) (t u : List Event) → written keep o (t ++ u) ≡ written keep o t ++ written keep o u
written-append true o t u = render-append o t u
written-append false o t u = rw (cleared-append t u) (render-append o (cleared t) (cleared u))

-- what is written of single events
pub written_none : (keep : Bool) (o : Order) → written keep o [] ≡ []
unfolding render cleared
written_none true o = refl
written_none false o = refl

pub written_row : (keep : Bool) (o : Order) (p l c m : ℕ) (t : List Event) → written keep o (row p l c m ∷ t) ≡ written keep o t
unfolding render cleared
written_row true o p l c m t = refl
written_row false o p l c m t = refl

pub written-piece : (keep : Bool) (o : Order) (k : Kind) (bs : List ℕ) (t : List Event) → written keep o (piece k bs ∷ t) ≡ laid o k bs ++ written keep o t
unfolding render cleared
written-piece true o k bs t = refl
written-piece false o k bs t = refl

pub length-written : (keep : Bool) (o : Order) (t : List Event) → length (written keep o t) ≡ size t
length-written true o t = length-render o t
length-written false o t = length-render o (cleared t) ∙ size-cleared t
