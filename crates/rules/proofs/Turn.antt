-- A file turned to the other byte order.
-- Assumes nothing.
use mathlib.Core.Path.{◌≡◌, refl, sym, ap, ◌∙◌}
use mathlib.Core.List.{List, [], ◌∷◌, ◌++◌, append-nil}
use Prim.Native.Nat.{ℕ, ◌+◌}
use native.Mathlib.Omega.{arith}
use borrow.Author.Tests.{eqb-true}
use lib.ListN.{length, get_or}
use lib.Seq.{get_or-append-add}
use Rattle.words.specs.Numbers.{other, bytes_in, bytes_of, Bytes}
use Rattle.words.specs.declared.Order.{Order}
use Rattle.words.specs.declared.Order.TheVariants.{Little, Big}
use Rattle.words.proofs.Words.{bytes-ordered, bytes-bytes_of}
use Rattle.walk.specs.Plays.{Plays, gives, checks, numbers, reads, skips, lists}
use Rattle.walk.specs.Walk.{swap, laid, Letter, Text, Event, piece, Walk, Outcome, refused, passed, ◌>>=◌, ◌>>◌, run, render, size}
use Rattle.walk.proofs.Apart.{refused-passed}
use Rattle.walk.proofs.Laid.{bytes-laid, length-laid}
use Rattle.walk.proofs.Laws.{Read, read_of, complete, length-render, facts}
use Rattle.rules.specs.Rules.{File, file_header, file, order_of, whole, judge}
use Rattle.rules.specs.Turned.{turned}

pub turned-of : (s : List ℕ) {v : File} {r : List ℕ} {t : List Event} → judge s ≡ passed v r t → turned s ≡ render (other (order_of s)) t
unfolding turned
turned-of s h = rw (turned, h)

pub other-other : (o : Order) → other (other o) ≡ o
unfolding other
other-other Little = refl
other-other Big = refl

past : (a s : List ℕ) (n m : ℕ) → length a ≡ n → get_or (a ++ s) (n + m) 0 ≡ get_or s m 0
past a s n m h = rw (← h) (get_or-append-add a s m 0)

by-letter : (o : Order) (s x : List ℕ) (b : ℕ) → get_or s 16 0 ≡ get_or (laid o Letter (b ∷ []) ++ x) 0 0 → b ≡ 76 → order_of s ≡ o
unfolding order_of laid swap
by-letter Little s x b e h = rw (order_of, e, h)
by-letter Big s x b e h = rw (order_of, e, h)

by_first : (o : Order) (s x bs : List ℕ) → get_or s 16 0 ≡ get_or (laid o Letter bs ++ x) 0 0 → length bs ≡ 1 → get_or bs 0 0 ≡ 76 → order_of s ≡ o
by_first o s x [] e l h = absurd (omega arith)
by_first o s x (b ∷ []) e l h = by-letter o s x b e h
by_first o s x (b ∷ c ∷ bs) e l h = absurd (omega arith)

-- the letter says the order in which events were rendered
pub order-of-render : (n : ℕ) {t : List Event} {v : File} → Plays t (file n) v → (o : Order) → order_of (render o t) ≡ o
unfolding file file_header ◌>>=◌ ◌>>◌ render
order-of-render n {t} p o =
    let a = (facts p).then in
    let b = a.then.then in
    let c = b.then.then in
    let d = c.then.then in
    let x : List ℕ = laid o Letter d.bytes ++ render o d.others in
    let y : List ℕ = laid o Text c.bytes ++ x in
    let z : List ℕ = laid o Text b.bytes ++ y in
    let e : t ≡ piece Text a.bytes ∷ piece Text b.bytes ∷ piece Text c.bytes ∷ piece Letter d.bytes ∷ d.others =
    a.split ∙ ap (λ (u : List Event). piece Text a.bytes ∷ u) (b.split ∙ ap (λ (u : List Event). piece Text b.bytes ∷ u) (c.split ∙ ap (λ (u : List Event). piece Text c.bytes ∷ u) d.split)) in
    let q : get_or (render o t) 16 0 ≡ get_or x 0 0 = ap (λ (u : List Event). get_or (render o u) 16 0) e ∙
    past (laid o Text a.bytes) z 8 8 (length-laid o Text a.bytes ∙ a.width) ∙
    past (laid o Text b.bytes) y 6 2 (length-laid o Text b.bytes ∙ b.width) ∙
    past (laid o Text c.bytes) x 2 0 (length-laid o Text c.bytes ∙ c.width) in
    by_first o (render o t) (render o d.others) d.bytes q d.width (eqb-true _ _ d.then.holds)

pub record Whole (n : ℕ) (x : Outcome File) (v : File) (r : List ℕ) (t : List Event) : Type 0 where
  pub is : x ≡ passed v [] t
  pub left : r ≡ []

-- what is accepted is what the walk gives, and nothing is left
pub whole-passed : (n : ℕ) (x : Outcome File) {v : File} {r : List ℕ} {t : List Event} → whole n x ≡ passed v r t → Whole n x v r t
unfolding whole
whole-passed n (refused m p) h = refused-passed h
whole-passed n (passed a [] u) {v} {r} {t} h =
    let e : a ≡ v = cc in
    let f : u ≡ t = cc in
    let g : [] ≡ r = cc in
    record { is = rw (e, f); left = sym g }
whole-passed n (passed a (b ∷ q) u) h = refused-passed h

-- what a file is, once it is accepted
module _ (s : List ℕ) (b : Bytes s) {v : File} {r : List ℕ} {t : List Event} (h : judge s ≡ passed v r t) where
  ran : Whole (length s) (run (order_of s) 0 s (file (length s))) v r t
  unfolding judge
  ran = whole-passed (length s) (run (order_of s) 0 s (file (length s))) h

  pub accepted : Read (order_of s) s (file (length s)) v [] t
  accepted = read_of (file (length s)) (order_of s) 0 s b ran.is

  pub nothing_left : r ≡ []
  nothing_left = ran.left

  pub is-render : s ≡ render (order_of s) t
  is-render = accepted.file ∙ append-nil (render (order_of s) t)

  -- the events tile the file
  pub tiled : size t ≡ length s
  tiled = sym (length-render (order_of s) t) ∙ ap length (sym is-render)

-- events that the walk plays are a file, in either order
pub judge-render : {v : File} {t : List Event} → Plays t (file (size t)) v → (o : Order) → judge (render o t) ≡ passed v [] t
unfolding judge whole
judge-render {t} p o = rw (length-render o t, order-of-render (size t) p o, rw append-nil at (complete p o 0 []))

module _ (s : List ℕ) (b : Bytes s) {v : File} {r : List ℕ} {t : List Event} (h : judge s ≡ passed v r t) where
  -- D3: in any order the same events, and so the same reading and table
  pub in-any-order : (o : Order) → judge (render o t) ≡ passed v [] t
  in-any-order o = judge-render (rw (tiled s b h) (accepted s b h).plays) o

  pub turn-judge : judge (turned s) ≡ passed v [] t
  turn-judge = rw (turned-of s h) (in-any-order (other (order_of s)))

  pub turn-length : length (turned s) ≡ length s
  turn-length = ap length (turned-of s h) ∙ length-render (other (order_of s)) t ∙ tiled s b h

  pub turn-order : order_of (turned s) ≡ other (order_of s)
  turn-order = ap order_of (turned-of s h) ∙ order-of-render (length s) (accepted s b h).plays (other (order_of s))

  pub turn-turn : turned (turned s) ≡ s
  turn-turn = turned-of (turned s) turn-judge ∙ rw (turn-order, other-other) (sym (is-render s b h))

-- what is written are bytes

bytes-append : (s t : List ℕ) → Bytes s → Bytes t → Bytes (s ++ t)
bytes-append [] t h k = k
bytes-append (b ∷ s) t h k = (h.0, bytes-append s t h.1 k)

pub bytes-render : {A : Type 0} {t : List Event} {w : Walk A} {a : A} → Plays t w a → (o : Order) → Bytes (render o t)
unfolding render bytes_in
bytes-render gives o = tt
bytes-render (checks h p) o = bytes-render p o
bytes-render (numbers {n} {v} {t} l p) o = bytes-append (bytes_in o n v) (render o t) (bytes-ordered o (bytes_of n v) (bytes-bytes_of n v)) (bytes-render p o)
bytes-render (reads {k} {bs} {t} l b p) o = bytes-append (laid o k bs) (render o t) (bytes-laid o k bs b) (bytes-render p o)
bytes-render (skips {bs} {t} l b p) o = bytes-append bs (render o t) b (bytes-render p o)
bytes-render (lists p) o = bytes-render p o

pub turn-bytes : (s : List ℕ) → Bytes s → {v : File} {r : List ℕ} {t : List Event} → judge s ≡ passed v r t → Bytes (turned s)
turn-bytes s b h = rw (turned-of s h) (bytes-render (accepted s b h).plays (other (order_of s)))
