-- Walks that read as many bytes whatever they are, and what is written of them piece by piece: runs of numbers, reserve areas, texts.
-- Assumes nothing.
use mathlib.Core.Path.{◌≡◌, refl, sym, ap, ◌∙◌}
use mathlib.Core.Bool.{Bool, true, false, not}
use mathlib.Core.List.{List, [], ◌∷◌, ◌++◌, reverse, append-nil}
use Prim.Native.Nat.{ℕ, zero, suc, ◌+◌, ◌-◌, ◌*◌, ◌≤◌, ◌<◌}
use native.Mathlib.Nat.{sub-zero, zero-mul, suc-mul, add_assoc, add_comm, sub_self}
use native.Mathlib.Numerals.{add-one}
use native.Mathlib.Omega.{arith}
use lib.ListN.{length, take, drop, replicate, length-drop}
use lib.Seq.{drop-drop, take-add, take_all, length-take-le}
use Rattle.words.specs.Numbers.{other, Bytes, bytes_in, word_in, bytes_at, number_at}
use Rattle.words.specs.Runs.{turned}
use Rattle.words.specs.declared.Order.{Order}
use Rattle.words.specs.declared.Order.TheVariants.{Little, Big}
use Rattle.words.proofs.Fronts.{put, Begun, begun_more}
use Rattle.words.proofs.Words.{bytes_take, bytes_drop, bytes_in-word_in}
use Rattle.words.proofs.Runs.{bytes_in-other}
use Rattle.walk.specs.Trace.{trace, written}
use Rattle.walk.specs.Walk.{Text, laid, Event, numeral, piece, blank, row, render, cleared, size, Walk}
use Rattle.walk.specs.Walk.{give, refuse, check, number, read, skip, list, ◌>>=◌, ◌>>◌, pick, text, reserve}
use Rattle.walk.proofs.Laid.{laid-text}
use Rattle.walk.proofs.Seen.{part_bytes, length-bytes_at}
use Rattle.walk.proofs.Tracing.{trace-give, written-append, written_none, written-piece, length-written}
use Rattle.rules.specs.Rules as R
use Rattle.rules.specs.declared.Shape.{Shape}
use Rattle.rules.proofs.Cases.{by_shape}
use Rattle.records.specs.Says.{HasShape}
use Rattle.bodies.specs.Copy.{copy, numbers_of}
use Rattle.bodies.specs.Orders.{same_order}
use Rattle.bodies.specs.declared.Way.{Way}

-- walks of one length

module _ {A : Type 0} where
  -- the walk comes from the position at to e, whatever the bytes are; its tests do not count
  abbrev pub Reaches : ℕ → ℕ → Walk A → Type 0
  Reaches e at (give a) = at ≡ e
  Reaches e at (refuse n p) = ⊥
  Reaches e at (check c n p v) = Reaches e at v
  Reaches e at (number n f) = (x : ℕ) → Reaches e (at + n) (f x)
  Reaches e at (read k n f) = (bs : List ℕ) → Reaches e (at + n) (f bs)
  Reaches e at (skip n v) = Reaches e (at + n) v
  Reaches e at (list p l c m v) = Reaches e at v

  -- it reads n bytes
  abbrev pub Takes : ℕ → Walk A → Type 0
  Takes n v = (at : ℕ) → Reaches (at + n) at v

  reaches-le : (v : Walk A) (at e : ℕ) → Reaches e at v → at ≤ e
  reaches-le (give a) at e h = omega arith
  reaches-le (refuse n p) at e h = absurd h
  reaches-le (check c n p v) at e h = reaches-le v at e h
  reaches-le (number n f) at e h = omega (arith, reaches-le (f 0) (at + n) e (h 0))
  reaches-le (read k n f) at e h = omega (arith, reaches-le (f []) (at + n) e (h []))
  reaches-le (skip n v) at e h = omega (arith, reaches-le v (at + n) e h)
  reaches-le (list p l c m v) at e h = reaches-le v at e h

  module _ (o : Order) (b c a m : ℕ) (s : List ℕ) (stands : c ≡ b + a) where
    -- a part has the same events as the whole
    trace-within : (v : Walk A) (at e : ℕ) → c ≤ at → e ≤ c + m → Reaches e at v → trace o c (take m (drop a s)) at v ≡ trace o b s at v
    unfolding trace number_at bytes_at
    trace-within (give x) at e g l h = refl
    trace-within (refuse n p) at e g l h = refl
    trace-within (check t n p v) at e g l h = trace-within v at e g l h
    trace-within (number n f) at e g l h =
        let d : a + (at - c) ≡ at - b = omega arith in
        rw (part_bytes s a m (at - c) n (omega (arith, reaches-le (f 0) (at + n) e (h 0))), d)
        (ap (λ (t : List Event). numeral n (number_at o n s (at - b)) ∷ t) (trace-within (f (number_at o n s (at - b))) (at + n) e (omega arith) l (h _)))
    trace-within (read k n f) at e g l h =
        let d : a + (at - c) ≡ at - b = omega arith in
        rw (part_bytes s a m (at - c) n (omega (arith, reaches-le (f []) (at + n) e (h []))), d)
        (ap (λ (t : List Event). piece k (laid o k (bytes_at n s (at - b))) ∷ t)
        (trace-within (f (laid o k (bytes_at n s (at - b)))) (at + n) e (omega arith) l (h _)))
    trace-within (skip n v) at e g l h =
        let d : a + (at - c) ≡ at - b = omega arith in
        rw (part_bytes s a m (at - c) n (omega (arith, reaches-le v (at + n) e h)), d)
        (ap (λ (t : List Event). blank (bytes_at n s (at - b)) ∷ t) (trace-within v (at + n) e (omega arith) l h))
    trace-within (list p i x y v) at e g l h = ap (λ (t : List Event). row p i x y ∷ t) (trace-within v at e g l h)

  module _ (o : Order) (b : ℕ) (s : List ℕ) where
    -- how many bytes they are
    size-within : (v : Walk A) (at e : ℕ) → b ≤ at → e ≤ b + length s → Reaches e at v → at + size (trace o b s at v) ≡ e
    unfolding trace size number_at bytes_at
    size-within (give x) at e g l h = omega arith
    size-within (refuse n p) at e g l h = absurd h
    size-within (check t n p v) at e g l h = size-within v at e g l h
    size-within (number n f) at e g l h = omega (arith, size-within (f (number_at o n s (at - b))) (at + n) e (omega arith) l (h _))
    size-within (read k n f) at e g l h =
        let r = h (laid o k (bytes_at n s (at - b))) in
        let i = reaches-le (f (laid o k (bytes_at n s (at - b)))) (at + n) e r in
        omega (arith, length-bytes_at o b s k n at (omega arith) g, size-within (f (laid o k (bytes_at n s (at - b)))) (at + n) e (omega arith) l r)
    size-within (skip n v) at e g l h =
        let i = reaches-le v (at + n) e h in
        let j : length (bytes_at n s (at - b)) ≡ n = length-take-le n (drop (at - b) s) (rw length-drop (omega arith)) in
        omega (arith, size-within v (at + n) e (omega arith) l h)
    size-within (list p i x y v) at e g l h = size-within v at e g l h

module _ {A B : Type 0} where
  pub reaches-bind : (v : Walk A) (k : A → Walk B) (at d e : ℕ) → Reaches d at v → ((a : A) → Reaches e d (k a)) → Reaches e at (v >>= k)
  unfolding ◌>>=◌
  reaches-bind (give x) k at d e h f = rw h (f x)
  reaches-bind (refuse n p) k at d e h f = absurd h
  reaches-bind (check c n p v) k at d e h f = reaches-bind v k at d e h f
  reaches-bind (number n g) k at d e h f = λ x. reaches-bind (g x) k (at + n) d e (h x) f
  reaches-bind (read κ n g) k at d e h f = λ bs. reaches-bind (g bs) k (at + n) d e (h bs) f
  reaches-bind (skip n v) k at d e h f = reaches-bind v k (at + n) d e h f
  reaches-bind (list p l c m v) k at d e h f = reaches-bind v k at d e h f

  -- both, one after the other
  takes-then : (n m : ℕ) (v : Walk A) (u : Walk B) → Takes n v → Takes m u → Takes (n + m) (v >> u)
  unfolding ◌>>◌
  takes-then n m v u f g at = reaches-bind v (λ _. u) at (at + n) (at + (n + m)) (f at) (λ _. rw (← add_assoc) (g (at + n)))

module _ {A B : Type 0} (o : Order) (b : ℕ) (s : List ℕ) where
  -- one walk after the other, where what follows is the same whatever was read
  trace-follows : (v : Walk A) (k : A → Walk B) (at e : ℕ) (t : List Event) → Reaches e at v → ((a : A) → trace o b s e (k a) ≡ t) →
      trace o b s at (v >>= k) ≡ trace o b s at v ++ t
  unfolding trace ◌>>=◌
  trace-follows (give x) k at e t h f = rw h (f x)
  trace-follows (refuse n p) k at e t h f = absurd h
  trace-follows (check c n p v) k at e t h f = trace-follows v k at e t h f
  trace-follows (number n g) k at e t h f = ap (λ (u : List Event). numeral n (number_at o n s (at - b)) ∷ u)
      (trace-follows (g (number_at o n s (at - b))) k (at + n) e t (h _) f)
  trace-follows (read κ n g) k at e t h f = ap (λ (u : List Event). piece κ (laid o κ (bytes_at n s (at - b))) ∷ u)
      (trace-follows (g (laid o κ (bytes_at n s (at - b)))) k (at + n) e t (h _) f)
  trace-follows (skip n v) k at e t h f = ap (λ (u : List Event). blank (bytes_at n s (at - b)) ∷ u) (trace-follows v k (at + n) e t h f)
  trace-follows (list p l c m v) k at e t h f = ap (λ (u : List Event). row p l c m ∷ u) (trace-follows v k at e t h f)

module _ {A : Type 0} (w : Way) (b : ℕ) (s : List ℕ) (n : ℕ) (v : Walk A) (takes : Takes n v) where
  -- what is written of them: of a part as of the whole, as many bytes, and before what follows
  pub copy_within : (a : ℕ) → copy w (b + a) (take n (drop a s)) (b + a) v ≡ copy w b s (b + a) v
  copy_within a = ap (written w.keep w.to) (trace-within w.from b (b + a) a n s refl v (b + a) (b + a + n) (omega arith) (omega arith) (takes (b + a)))

  pub length-within : (at : ℕ) → b ≤ at → at + n ≤ b + length s → length (copy w b s at v) ≡ n
  length-within at g l =
      let i = size-within w.from b s v at (at + n) g l (takes at) in
      length-written w.keep w.to (trace w.from b s at v) ∙ omega arith

  pub copy-follows : {B C : Type 0} (at : ℕ) (k : A → Walk B) (u : Walk C) → ((a : A) → trace w.from b s (at + n) (k a) ≡ trace w.from b s (at + n) u) →
      copy w b s at (v >>= k) ≡ copy w b s at v ++ copy w b s (at + n) u
  copy-follows at k u h =
      ap (written w.keep w.to) (trace-follows w.from b s v k at (at + n) (trace w.from b s (at + n) u) (takes at) h)
      ∙ written-append w.keep w.to (trace w.from b s at v) (trace w.from b s (at + n) u)

  pub copy-next : {C : Type 0} (at : ℕ) (u : Walk C) → copy w b s at (v >> u) ≡ copy w b s at v ++ copy w b s (at + n) u
  unfolding ◌>>◌
  copy-next at u = copy-follows at (λ _. u) u (λ _. refl)

-- piece by piece: the first n bytes of d are those of the walk u, but for what is left of it, v
abbrev pub Left : {A B : Type 0} → Way → ℕ → List ℕ → List ℕ → ℕ → Walk A → Walk B → Type 0
Left w b s d n u v = Begun (length s) (copy w b s b u) d n (copy w b s (b + n) v)

module _ {A : Type 0} (w : Way) (b : ℕ) (s d : List ℕ) (u : Walk A) where
  -- nothing is written, and the walk is written as another is
  pub left-whole : {B : Type 0} (v : Walk B) → length d ≡ length s → copy w b s b u ≡ copy w b s b v → Left w b s d 0 u v
  left-whole v l e = record { long = l; is = e ∙ ap (λ (x : ℕ). copy w b s x v) (omega arith) }

  -- the bytes of a piece come next
  pub left-more : {B C D : Type 0} (n m : ℕ) (ys : List ℕ) (x : Walk B) (v : Walk C) (y : Walk D) →
      Takes m v → n + m ≤ length s → copy w b s (b + n) x ≡ copy w b s (b + n) v ++ copy w b s (b + n + m) y →
      ((c : ℕ) → ys ≡ copy w c (take m (drop n s)) c v) → Left w b s d n u x → Left w b s (put n m d ys) (n + m) u y
  left-more n m ys x v y takes f e h l =
      let g : ys ≡ copy w b s (b + n) v = h (b + n) ∙ copy_within w b s m v takes n in
      let i : length (copy w b s (b + n) v) ≡ m = length-within w b s m v takes (b + n) (omega arith) (omega arith) in
      rw (← add_assoc) (begun_more d n m (copy w b s (b + n) v) ys (copy w b s (b + n + m) y) g i f (rw e at l))

  pub left-next : {C D : Type 0} (n m : ℕ) (ys : List ℕ) (v : Walk C) (y : Walk D) →
      Takes m v → n + m ≤ length s → ((c : ℕ) → ys ≡ copy w c (take m (drop n s)) c v) → Left w b s d n u (v >> y) → Left w b s (put n m d ys) (n + m) u y
  left-next n m ys v y takes f = left-more n m ys (v >> y) v y takes f (copy-next w b s m v takes (b + n) y)

  -- nothing is left
  pub left-nothing : {B : Type 0} (n : ℕ) (x : B) → n ≡ length s → Left w b s d n u (give x) → d ≡ copy w b s b u
  unfolding trace
  left-nothing n x e l = sym (l.is ∙ rw (written_none, append-nil) (take_all n d (omega (arith, l.long))))

-- the two orders are one

pub order-little : (b : Order) → same_order b Little ≡ same_order Little b
unfolding same_order
order-little Little = refl
order-little Big = refl

pub order-big : (b : Order) → not (same_order b Little) ≡ same_order Big b
unfolding same_order
order-big Little = refl
order-big Big = refl

-- a run of numbers: each as it stands, or turned

pub takes-numbers : (k n : ℕ) → Takes (n * k) (R.number_list k n)
unfolding R.number_list ◌>>=◌
takes-numbers k zero at = omega (arith, zero-mul k)
takes-numbers k (suc n) at = λ v. reaches-bind (R.number_list k n) (λ l. give (v ∷ l)) (at + k) (at + k + n * k) (at + suc n * k) (takes-numbers k n (at + k))
    (λ l. omega (arith, suc-mul n k))

abbrev anew : Bool → ℕ → ℕ → List ℕ → List ℕ
anew same k n s = pick same (take (n * k) s) (turned k n s)

anew-none : (same : Bool) (k : ℕ) (s : List ℕ) → anew same k 0 s ≡ []
unfolding turned
anew-none true k s = rw zero-mul
anew-none false k s = refl

anew-more : (same : Bool) (k n : ℕ) (s : List ℕ) → anew same k (suc n) s ≡ pick same (take k s) (reverse (take k s)) ++ anew same k n (drop k s)
unfolding turned
anew-more true k n s = rw (suc-mul, add_comm (n * k) k) (take-add k (n * k) s)
anew-more false k n s = refl

-- one number
unturned : (o : Order) (k : ℕ) (x : List ℕ) → Bytes x → length x ≡ k → bytes_in o k (word_in o x) ≡ x
unturned o k x h l = ap (λ (n : ℕ). bytes_in o n (word_in o x)) (sym l) ∙ bytes_in-word_in o x h

one-anew : (from to : Order) (k : ℕ) (x : List ℕ) → Bytes x → length x ≡ k → bytes_in to k (word_in from x) ≡ pick (same_order from to) x (reverse x)
unfolding same_order other
one-anew Little Little k x h l = unturned Little k x h l
one-anew Little Big k x h l = bytes_in-other Little k (word_in Little x) ∙ ap reverse (unturned Little k x h l)
one-anew Big Little k x h l = bytes_in-other Big k (word_in Big x) ∙ ap reverse (unturned Big k x h l)
one-anew Big Big k x h l = unturned Big k x h l

written-number : (keep : Bool) (o : Order) (k v : ℕ) (t : List Event) → written keep o (numeral k v ∷ t) ≡ bytes_in o k v ++ written keep o t
unfolding render cleared
written-number true o k v t = refl
written-number false o k v t = refl

module _ (w : Way) (b : ℕ) (s : List ℕ) (k : ℕ) (bytes : Bytes s) where
  numbers-anew : (n at : ℕ) → b ≤ at → at + n * k ≤ b + length s → copy w b s at (R.number_list k n) ≡ anew (same_order w.from w.to) k n (drop (at - b) s)
  unfolding R.number_list trace number_at ◌>>=◌
  numbers-anew zero at g l = rw (written_none, anew-none)
  numbers-anew (suc n) at g l =
      let i : at + k + n * k ≤ b + length s = omega (arith, suc-mul n k) in
      let x = take k (drop (at - b) s) in
      let j : length x ≡ k = length-take-le k (drop (at - b) s) (rw length-drop (omega arith)) in
      let d : at - b + k ≡ at + k - b = omega arith in
      written-number w.keep w.to k (word_in w.from x) (trace w.from b s (at + k) (R.number_list k n >>= λ l. give (word_in w.from x ∷ l)))
      ∙ rw (
        trace-give w.from b s (at + k) (R.number_list k n) (λ l. word_in w.from x ∷ l),
        one-anew w.from w.to k x
            (bytes_take k (drop (at - b) s) (bytes_drop (at - b) s bytes)) j,
        anew-more,
        drop-drop,
        d,
      )
      (ap (λ (y : List ℕ). pick (same_order w.from w.to) x (reverse x) ++ y) (numbers-anew n (at + k) (omega arith) i))

  -- as they stand, among others
  pub numbers-stand : (n at : ℕ) → b ≤ at → at + n * k ≤ b + length s → same_order w.from w.to ≡ true →
      copy w b s at (R.number_list k n) ≡ take (n * k) (drop (at - b) s)
  numbers-stand n at g l e = numbers-anew n at g l ∙ rw e

  -- the whole part
  pub numbers-same : (n : ℕ) → length s ≡ n * k → same_order w.from w.to ≡ true → s ≡ copy w b s b (R.number_list k n)
  numbers-same n l e = sym (numbers-anew n b (omega arith) (omega arith) ∙ rw (sub_self, e) (take_all (n * k) s (omega arith)))

  pub numbers-turned : (n : ℕ) → length s ≡ n * k → same_order w.from w.to ≡ false → turned k n s ≡ copy w b s b (R.number_list k n)
  numbers-turned n l e = sym (numbers-anew n b (omega arith) (omega arith) ∙ rw (sub_self, e))

-- a reserve area, as it stands or zero
pub takes-reserve : (n : ℕ) → Takes n (reserve n)
takes-reserve n at = refl

copy-reserve : (w : Way) (b : ℕ) (s : List ℕ) → copy w b s b (reserve (length s)) ≡ pick w.keep s (replicate (length s) 0)
unfolding trace bytes_at render cleared
copy-reserve w b s = rw (sub_self, take_all (length s) s (omega arith)) (blank-written w.keep)
  where
    blank-written : (keep : Bool) → written keep w.to (blank s ∷ []) ≡ pick keep s (replicate (length s) 0)
    blank-written true = append-nil s
    blank-written false = append-nil (replicate (length s) 0)

pub reserve-same : (w : Way) (b : ℕ) (s : List ℕ) → w.keep ≡ true → s ≡ copy w b s b (reserve (length s))
reserve-same w b s e = sym (copy-reserve w b s ∙ rw e)

pub reserve-cleared : (w : Way) (b : ℕ) (s : List ℕ) (n : ℕ) → n ≡ length s → w.keep ≡ false → replicate n 0 ≡ copy w b s b (reserve (length s))
reserve-cleared w b s n l e = sym (copy-reserve w b s ∙ rw (e, l))

-- a text, or two that are handed on as one
pub takes-text : (n : ℕ) → Takes n (text n)
takes-text n at = λ _. refl

pub copy-text : (w : Way) (b : ℕ) (s : List ℕ) (at n : ℕ) → copy w b s at (text n) ≡ bytes_at n s (at - b)
unfolding trace
copy-text w b s at n = written-piece w.keep w.to Text (laid w.from Text (bytes_at n s (at - b)))
    [] ∙ rw (written_none, append-nil, laid-text w.to, laid-text w.from)

pub text-whole : (w : Way) (b : ℕ) (s : List ℕ) (n : ℕ) → length s ≡ n → s ≡ copy w b s b (text n)
unfolding bytes_at
text-whole w b s n l = sym (copy-text w b s b n ∙ rw sub_self (take_all n s (omega arith)))

pub texts-whole : (w : Way) (b : ℕ) (s : List ℕ) (m n : ℕ) → length s ≡ m + n → s ≡ copy w b s b (text m >> text n)
unfolding bytes_at
texts-whole w b s m n l =
    let d : b + m - b ≡ m = omega arith in
    sym (copy-next w b s m (text m) (takes-text m) b (text n) ∙ rw (copy-text w b s b m, copy-text w b s (b + m) n, sub_self, d)
    (sym (take-add m n s) ∙ take_all (m + n) s (omega arith)))

-- a number that is a field, or reserve
takes_field : (is : Bool) (ok : ℕ → Bool) → Takes 4 (R.field_if is ok)
unfolding R.field_if
takes_field true ok at = λ _. refl
takes_field false ok at = refl

reaches_field : {A : Type 0} (is : Bool) (ok : ℕ → Bool) (f : ℕ → Walk A) (at e : ℕ) → ((n : ℕ) → Reaches e (at + 4) (f n)) →
    Reaches e at (R.field_if is ok >>= f)
reaches_field is ok f at e h = reaches-bind (R.field_if is ok) f at (at + 4) e (takes_field is ok at) h

module _ (w : Way) (b : ℕ) (s : List ℕ) (ok : ℕ → Bool) where
  pub field-number : (is : Bool) → is ≡ true → copy w b s b (R.number_list 4 1) ≡ copy w b s b (R.field_if is ok)
  unfolding R.number_list R.field_if trace ◌>>=◌
  field-number is e = rw e

  pub field-reserved : (is : Bool) → is ≡ false → length s ≡ 4 → copy w b s b (reserve (length s)) ≡ copy w b s b (R.field_if is ok)
  unfolding R.field_if trace
  field-reserved is e l = rw (e, l)

-- events that are written the same
same-written : (keep : Bool) (o : Order) (t u : List Event) → render o t ≡ render o u → render o (cleared t) ≡ render o (cleared u) →
    written keep o t ≡ written keep o u
same-written true o t u h g = h
same-written false o t u h g = g

-- the body of a 100
abbrev basic_body_pieces : Walk (List ℕ)
basic_body_pieces = R.number_list 4 3 >> (reserve 4 >> (R.number_list 4 6 >> (text 20 >> (R.number_list 4 1 >> (reserve 16 >> text 32)))))

copy-basic_body : (w : Way) (b : ℕ) (s : List ℕ) (at : ℕ) → copy w b s at R.basic_body ≡ copy w b s at basic_body_pieces
unfolding R.number_list R.basic_body trace render cleared ◌>>=◌ ◌>>◌
copy-basic_body w b s at = same-written w.keep w.to (trace w.from b s at R.basic_body) (trace w.from b s at basic_body_pieces) refl refl

-- the numbers of a sub, and the sub with its head
takes-numbers_of : (calibrated : Bool) → Takes 68 (numbers_of calibrated)
unfolding numbers_of
takes-numbers_of calibrated =
    let f = takes_field calibrated R.anything in
    takes-then 52 16 _ _ (takes-numbers 4 13) (takes-then 4 12 _ _ f (takes-then 8 4 _ _ (takes-numbers 4 2) f))

abbrev channel_pieces : Bool → Bool → Walk (List ℕ)
channel_pieces calibrated wired =
    numbers_of calibrated >> (reserve 4 >> ((text 16 >> text 16) >> (R.field_if wired R.anything >> (R.field_if wired R.anything >> (reserve 84 >> text 60)))))

copy-channel : (u : R.Sub) (w : Way) (b : ℕ) (s : List ℕ) (at room i : ℕ) →
    copy w b s at (R.channel u room i) ≡ copy w b s at (channel_pieces u.calibrated u.wired)
unfolding R.number_list R.fixed R.head R.admit R.channel_body R.field_if numbers_of trace render cleared ◌>>=◌ ◌>>◌
copy-channel =
    by_shape (λ u. (w : Way) (b : ℕ) (s : List ℕ) (at room i : ℕ) → copy w b s at (R.channel u room i) ≡ copy w b s at (channel_pieces u.calibrated u.wired))
    (λ u w b s at room i. same-written w.keep w.to _ _ refl refl)
    (λ u w b s at room i. same-written w.keep w.to _ _ refl refl)
    (λ u w b s at room i. same-written w.keep w.to _ _ refl refl)
    (λ u w b s at room i. same-written w.keep w.to _ _ refl refl)

length_part : (s : List ℕ) (n m : ℕ) → n + m ≤ length s → length (take m (drop n s)) ≡ m
length_part s n m f = length-take-le m (drop n s) (rw length-drop (omega arith))

module _ {A D : Type 0} (w : Way) (b : ℕ) (s d : List ℕ) (u : Walk A) (y : Walk D) (n : ℕ) (ys : List ℕ) where
  pub left-numbers : (k m : ℕ) → n + m * k ≤ length s → ((c : ℕ) → ys ≡ copy w c (take (m * k) (drop n s)) c (R.number_list k m)) →
      Left w b s d n u (R.number_list k m >> y) → Left w b s (put n (m * k) d ys) (n + m * k) u y
  left-numbers k m f h = left-next w b s d u n (m * k) ys (R.number_list k m) y (takes-numbers k m) f h

  pub left-reserve : (m : ℕ) → n + m ≤ length s → ((c : ℕ) → ys ≡ copy w c (take m (drop n s)) c (reserve (length (take m (drop n s))))) →
      Left w b s d n u (reserve m >> y) → Left w b s (put n m d ys) (n + m) u y
  left-reserve m f h =
      left-next w b s d u n m ys (reserve m) y (takes-reserve m) f (λ c. h c ∙ ap (λ (x : ℕ). copy w c (take m (drop n s)) c (reserve x)) (length_part s n m f))

  left-field : (is : Bool) → n + 4 ≤ length s → ((c : ℕ) (ok : ℕ → Bool) → ys ≡ copy w c (take 4 (drop n s)) c (R.field_if is ok)) →
      Left w b s d n u (R.field_if is R.anything >> y) → Left w b s (put n 4 d ys) (n + 4) u y
  left-field is f h = left-next w b s d u n 4 ys (R.field_if is R.anything) y (takes_field is R.anything) f (λ c. h c R.anything)

  pub left-text : (m : ℕ) → n + m ≤ length s → ys ≡ take m (drop n s) → Left w b s d n u (text m >> y) → Left w b s (put n m d ys) (n + m) u y
  left-text m f h =
      left-next w b s d u n m ys (text m) y (takes-text m) f (λ c. h ∙ text-whole w c (take m (drop n s)) m (length_part s n m f))

  pub left-texts : (m k : ℕ) → n + (m + k) ≤ length s → ys ≡ take (m + k) (drop n s) → Left w b s d n u (text m >> text k >> y) →
      Left w b s (put n (m + k) d ys) (n + (m + k)) u y
  left-texts m k f h =
      left-next w b s d u n (m + k) ys (text m >> text k) y (takes-then m k (text m) (text k) (takes-text m) (takes-text k)) f
      (λ c. h ∙ texts-whole w c (take (m + k) (drop n s)) m k (length_part s n (m + k) f))

-- a piece that goes up to the end comes last
pub left_end : {A B : Type 0} (w : Way) (b : ℕ) (s d : List ℕ) (u : Walk A) (n : ℕ) (ys : List ℕ) (m : ℕ) (v : Walk B) → Takes m v → length s ≡ n + m →
    ((c : ℕ) → ys ≡ copy w c (take (length s - n) (drop n s)) c v) → Left w b s d n u v → put n (length d - n) d ys ≡ copy w b s b u
unfolding trace
left_end w b s d u n ys m v takes f h l =
    let i : length s - n ≡ m = omega arith in
    let j : length d - n ≡ m = omega (arith, l.long) in
    rw j
    (left-nothing w b s (put n m d ys) u (n + m) ys (sym f)
    (left-more w b s d u n m ys v v (give ys) takes (omega arith) (rw (written_none, append-nil)) (rw i at h) l))

left-end-text : {A : Type 0} (w : Way) (b : ℕ) (s d : List ℕ) (u : Walk A) (n : ℕ) (ys : List ℕ) (m : ℕ) → length s ≡ n + m →
    ys ≡ take (length s - n) (drop n s) → Left w b s d n u (text m) → put n (length d - n) d ys ≡ copy w b s b u
left-end-text w b s d u n ys m f h =
    left_end w b s d u n ys m (text m) (takes-text m) f (λ c. h ∙ text-whole w c _ m (length_part s n (length s - n) (omega arith) ∙ omega arith))

module _ (w : Way) (s : List ℕ) where
  -- what a call wrote in the place of a piece that begins at n
  abbrev pub Numbers : List ℕ → ℕ → ℕ → Type 0
  Numbers ys n m = (c : ℕ) → ys ≡ copy w c (take (m * 4) (drop n s)) c (R.number_list 4 m)

  abbrev pub Reserved : List ℕ → ℕ → ℕ → Type 0
  Reserved ys n m = (c : ℕ) → ys ≡ copy w c (take m (drop n s)) c (reserve (length (take m (drop n s))))

  pub basic_body-written : (d y₁ y₂ y₃ y₄ y₅ y₆ y₇ : List ℕ) → length s ≡ 112 → length d ≡ length s →
      Numbers y₁ 0 3 → Reserved y₂ 12 4 → Numbers y₃ 16 6 → y₄ ≡ take 20 (drop 40 s) → Numbers y₅ 60 1 → Reserved y₆ 64 16 →
      y₇ ≡ take (length s - 80) (drop 80 s) →
      let d₆ = put 64 16 (put 60 4 (put 40 20 (put 16 24 (put 12 4 (put 0 12 d y₁) y₂) y₃) y₄) y₅) y₆ in
      (b : ℕ) → put 80 (length d₆ - 80) d₆ y₇ ≡ copy w b s b R.basic_body
  basic_body-written d y₁ y₂ y₃ y₄ y₅ y₆ y₇ l k h₁ h₂ h₃ h₄ h₅ h₆ h₇ b =
      left-end-text w b s _ R.basic_body 80 y₇ 32 l h₇
      (left-reserve w b s _ R.basic_body _ 64 y₆ 16 (omega arith) h₆
      (left-numbers w b s _ R.basic_body _ 60 y₅ 4 1 (omega arith) h₅
      (left-text w b s _ R.basic_body _ 40 y₄ 20 (omega arith) h₄
      (left-numbers w b s _ R.basic_body _ 16 y₃ 4 6 (omega arith) h₃
      (left-reserve w b s _ R.basic_body _ 12 y₂ 4 (omega arith) h₂
      (left-numbers w b s d R.basic_body _ 0 y₁ 4 3 (omega arith) h₁ (left-whole w b s d R.basic_body basic_body_pieces k (copy-basic_body w b s b))))))))

  abbrev pub FieldIf : List ℕ → ℕ → Bool → Type 0
  FieldIf ys n is = (c : ℕ) (ok : ℕ → Bool) → ys ≡ copy w c (take 4 (drop n s)) c (R.field_if is ok)

  pub numbers-written : (is : Bool) (d y₁ y₂ y₃ y₄ : List ℕ) → length s ≡ 68 → length d ≡ length s →
      Numbers y₁ 0 13 → FieldIf y₂ 52 is → Numbers y₃ 56 2 → ((c : ℕ) (ok : ℕ → Bool) → y₄ ≡ copy w c (take (length s - 64) (drop 64 s)) c (R.field_if is ok)) →
      let d₃ = put 56 8 (put 52 4 (put 0 52 d y₁) y₂) y₃ in
      (b : ℕ) → put 64 (length d₃ - 64) d₃ y₄ ≡ copy w b s b (numbers_of is)
  unfolding numbers_of
  numbers-written is d y₁ y₂ y₃ y₄ l k h₁ h₂ h₃ h₄ b =
      left_end w b s _ (numbers_of is) 64 y₄ 4 (R.field_if is R.anything) (takes_field is R.anything) l (λ c. h₄ c R.anything)
      (left-numbers w b s _ (numbers_of is) _ 56 y₃ 4 2 (omega arith) h₃
      (left-field w b s _ (numbers_of is) _ 52 y₂ is (omega arith) h₂
      (left-numbers w b s d (numbers_of is) _ 0 y₁ 4 13 (omega arith) h₁ (left-whole w b s d (numbers_of is) (numbers_of is) k refl))))

  pub channel-written : (k : Shape) (d y₁ y₂ y₃ y₄ y₅ y₆ y₇ : List ℕ) → length s ≡ 256 → length d ≡ length s →
      ((c : ℕ) → y₁ ≡ copy w c (take 68 s) c (numbers_of k.calibrated)) → Reserved y₂ 68 4 → y₃ ≡ take 32 (drop 72 s) → FieldIf y₄ 104 k.wired →
      FieldIf y₅ 108 k.wired → Reserved y₆ 112 84 → y₇ ≡ take (length s - 196) (drop 196 s) →
      let d₆ = put 112 84 (put 108 4 (put 104 4 (put 72 32 (put 68 4 (put 0 68 d y₁) y₂) y₃) y₄) y₅) y₆ in
      (b room i : ℕ) (u : R.Sub) → HasShape u k → put 196 (length d₆ - 196) d₆ y₇ ≡ copy w b s b (R.channel u room i)
  channel-written k d y₁ y₂ y₃ y₄ y₅ y₆ y₇ l e h₁ h₂ h₃ h₄ h₅ h₆ h₇ b room i u a =
      let v = R.channel u room i in
      left-end-text w b s _ v 196 y₇ 60 l h₇
      (left-reserve w b s _ v _ 112 y₆ 84 (omega arith) h₆
      (left-field w b s _ v _ 108 y₅ k.wired (omega arith) h₅
      (left-field w b s _ v _ 104 y₄ k.wired (omega arith) h₄
      (left-texts w b s _ v _ 72 y₃ 16 16 (omega arith) h₃
      (left-reserve w b s _ v _ 68 y₂ 4 (omega arith) h₂
      (left-next w b s d v 0 68 y₁ (numbers_of k.calibrated) _ (takes-numbers_of k.calibrated) (omega arith) h₁
      (left-whole w b s d v (channel_pieces k.calibrated k.wired) e (rw (← a.calibrated, ← a.wired) (copy-channel u w b s b room i)))))))))

-- the body of a 120, a 320 or a 350

pub takes-channel : (u : R.Sub) (room i : ℕ) → Takes 256 (R.channel u room i)
unfolding R.fixed R.head R.admit R.channel_body ◌>>=◌ ◌>>◌
takes-channel u room i at =
    let cal = reaches_field u.calibrated R.anything in
    let input = reaches_field u.wired u.input in
    λ _ _ _ _ _ _ _ _ _ _ _ _ _. cal _ _ _ λ _. λ _ _. cal _ _ _ λ _. λ _ _. input _ _ _ λ _. input _ _ _ λ _. λ _. omega arith

-- the first of walks that stand one after the other, and the others
pub copy-series : {A : Type 0} (w : Way) (b : ℕ) (s : List ℕ) (at n i step room : ℕ) (v : ℕ → ℕ → Walk A) → Takes step (v room i) →
    copy w b s at (R.series (suc n) i step room v) ≡ copy w b s at (v room i) ++ copy w b s (at + step) (R.series n (suc i) step (room - step) v)
unfolding R.series
copy-series w b s at n i step room v takes =
    copy-follows w b s step (v room i) takes at (λ a. R.series n (suc i) step (room - step) v >>= λ l. give (a ∷ l)) (R.series n (suc i) step (room - step) v)
    (λ a. trace-give w.from b s (at + step) (R.series n (suc i) step (room - step) v) (λ l. a ∷ l))

copy-channels : (w : Way) (b : ℕ) (s : List ℕ) (g : R.Group) (n m : ℕ) → number_at w.from 4 s 0 ≡ m →
    copy w b s b (R.channels_body g n) ≡ copy w b s b (R.number_list 4 2 >> (reserve 8 >> R.series m 1 256 (n - 32) (R.channel g.sub)))
unfolding R.number_list R.channels_body trace render cleared ◌>>=◌ ◌>>◌
copy-channels w b s g n m h =
    let e : number_at w.from 4 s (b - b) ≡ m = rw sub_self h in
    same-written w.keep w.to (trace w.from b s b (R.channels_body g n))
    (trace w.from b s b (R.number_list 4 2 >> (reserve 8 >> R.series m 1 256 (n - 32) (R.channel g.sub)))) (rw e) (rw e)

-- i of the m subs of this shape are written
pub record SoFar (w : Way) (k : Shape) (m : ℕ) (s d : List ℕ) (at i : ℕ) : Type 0 where
  pub place : at ≡ 16 + 256 * i
  pub within : i ≤ m
  pub whole : length s ≡ 16 + 256 * m
  pub long : length d ≡ length s
  pub left : (b n : ℕ) (g : R.Group) → HasShape g.sub k → number_at w.from 4 s 0 ≡ m →
      Left w b s d at (R.channels_body g n) (R.series (m - i) (suc i) 256 (n - 32 - 256 * i) (R.channel g.sub))

module _ (w : Way) (k : Shape) (m : ℕ) (s d : List ℕ) where
  pub channels-front : (y₁ y₂ : List ℕ) → length s ≡ 16 + 256 * m → length d ≡ length s → length (put 8 8 (put 0 8 d y₁) y₂) ≡ length d → Numbers w s y₁ 0 2 →
      Reserved w s y₂ 8 8 → SoFar w k m s (put 8 8 (put 0 8 d y₁) y₂) 16 0
  channels-front y₁ y₂ f l o h₁ h₂ =
      record {
        place = omega arith;
        within = omega arith;
        whole = f;
        long = o ∙ l;
        left = λ b n g a e.
            rw (sub-zero m, sub-zero (n - 32))
            (left-reserve w b s _ (R.channels_body g n) _ 8 y₂ 8 (omega arith) h₂
            (left-numbers w b s d (R.channels_body g n) _ 0 y₁ 4 2 (omega arith) h₁
            (left-whole w b s d (R.channels_body g n) _ l (copy-channels w b s g n m e))));
      }

  pub channels-more : (at i z e : ℕ) (ys : List ℕ) → i < m → z ≡ 256 → e ≡ at + 256 → length (put at z d ys) ≡ length d →
      ((b room j : ℕ) (u : R.Sub) → HasShape u k → ys ≡ copy w b (take z (drop at s)) b (R.channel u room j)) → SoFar w k m s d at i →
      SoFar w k m s (put at z d ys) e (i + 1)
  channels-more at i z e ys f l t o h q =
      record {
        place = omega (arith, q.place);
        within = omega arith;
        whole = q.whole;
        long = o ∙ q.long;
        left = λ b n g a x.
            let u = R.channel g.sub in
            let r = n - 32 - 256 * i in
            let y : m - i ≡ suc (m - suc i) = omega arith in
            let v : n - 32 - 256 * (i + 1) ≡ r - 256 = omega arith in
            rw (l, t, v, add-one)
            (left-more w b s d (R.channels_body g n) at 256 ys _ (u r (suc i)) (R.series (m - suc i) (suc (suc i)) 256 (r - 256) u)
            (takes-channel g.sub r (suc i)) (omega (arith, q.place, q.whole))
            (copy-series w b s (b + at) (m - suc i) (suc i) 256 r u (takes-channel g.sub r (suc i))) (λ p. rw l at (h p r (suc i) g.sub a))
            (rw y at (q.left b n g a x)));
      }

  pub channels-all : (at i : ℕ) → i ≡ m → SoFar w k m s d at i → (b n : ℕ) (g : R.Group) → HasShape g.sub k → number_at w.from 4 s 0 ≡ m →
      d ≡ copy w b s b (R.channels_body g n)
  unfolding R.series
  channels-all at i f q b n g a e =
      let z : m - i ≡ 0 = omega arith in
      left-nothing w b s d (R.channels_body g n) at [] (omega (arith, q.place, q.whole)) (rw z at (q.left b n g a e))
