-- A walk over a file: what it reads, in which order, and what it answers.
-- Assumes nothing.
use Rattle.std.specs.Prelude.{Bool, true, false, List, [], ◌∷◌, ◌++◌, map, ℕ, ◌+◌, ◌-◌, leb, eqb, length, take, drop, replicate}
use Rattle.words.specs.Numbers.{letter_of, word_in, bytes_in}
use Rattle.words.specs.declared.Order.{Order}
use Rattle.words.specs.declared.Order.TheVariants.{Little, Big}

-- bytes that are no number: the letter names the order; the others stand as they are
pub data Kind : Type 0 where
  Letter Text Padding : Kind

-- the other order's letter, `L` for `B` and `B` for `L`
unfoldable pub swap : ℕ → ℕ
swap b = elim (eqb b (letter_of Little)) [ true ↦ letter_of Big | false ↦ elim (eqb b (letter_of Big)) [ true ↦ letter_of Little | false ↦ b ] ]

-- from the file's bytes to those of a little-endian file, and back
unfoldable pub laid : Order → Kind → List ℕ → List ℕ
laid Little k bs = bs
laid Big Letter bs = map swap bs
laid Big Text bs = bs
laid Big Padding bs = bs

-- a row of the table
pub record Row : Type 0 where
  pub start : ℕ
  pub size : ℕ
  pub code : ℕ
  pub serial : ℕ

-- what a walk read: numbers, other bytes, bytes that are not judged; and the rows that it listed, each begun so many bytes back
pub data Event : Type 0 where
  numeral : ℕ → ℕ → Event
  piece : Kind → List ℕ → Event
  blank : List ℕ → Event
  row : ℕ → ℕ → ℕ → ℕ → Event

-- a walk knows no position: a refusal and a row say how many bytes back their place is
pub data Walk (A : Type 0) : Type 0 where
  give : A → Walk A
  refuse : ℕ → ℕ → Walk A
  check : Bool → ℕ → ℕ → Walk A → Walk A
  number : ℕ → (ℕ → Walk A) → Walk A
  read : Kind → ℕ → (List ℕ → Walk A) → Walk A
  skip : ℕ → Walk A → Walk A
  list : ℕ → ℕ → ℕ → ℕ → Walk A → Walk A

infixl 10 ◌>>=◌
infixl 10 ◌>>◌
unfoldable pub ◌>>=◌ : {A B : Type 0} → Walk A → (A → Walk B) → Walk B
◌>>=◌ (give a) k = k a
◌>>=◌ (refuse n p) k = refuse n p
◌>>=◌ (check c n p w) k = check c n p (w >>= k)
◌>>=◌ (number n f) k = number n (λ v. f v >>= k)
◌>>=◌ (read κ n f) k = read κ n (λ bs. f bs >>= k)
◌>>=◌ (skip n w) k = skip n (w >>= k)
◌>>=◌ (list p l c s w) k = list p l c s (w >>= k)

unfoldable pub ◌>>◌ : {A B : Type 0} → Walk A → Walk B → Walk B
unfolding ◌>>=◌
◌>>◌ w v = w >>= λ _. v

-- a refusal and its position; or an answer, the bytes that are left, and the events on the way
pub data Outcome (A : Type 0) : Type 0 where
  refused : ℕ → ℕ → Outcome A
  passed : A → List ℕ → List Event → Outcome A

unfoldable pub logged : {A : Type 0} → List Event → Outcome A → Outcome A
logged t (refused n p) = refused n p
logged t (passed a r u) = passed a r (t ++ u)

-- the walk over the bytes s, in the order o, from the position at. Too few bytes is a refusal that no file meets
unfoldable pub run : {A : Type 0} → Order → ℕ → List ℕ → Walk A → Outcome A
unfolding logged
run o at s (give a) = passed a s []
run o at s (refuse n p) = refused n (at - p)
run o at s (check c n p w) = elim c [ true ↦ run o at s w | false ↦ refused n (at - p) ]
run o at s (number n f) =
    let v : ℕ = word_in o (take n s) in
    elim (leb n (length s)) [ true ↦ logged (numeral n v ∷ []) (run o (at + n) (drop n s) (f v)) | false ↦ refused 0 0 ]
run o at s (read k n f) =
    let bs : List ℕ = laid o k (take n s) in
    elim (leb n (length s)) [ true ↦ logged (piece k bs ∷ []) (run o (at + n) (drop n s) (f bs)) | false ↦ refused 0 0 ]
run o at s (skip n w) = elim (leb n (length s)) [ true ↦ logged (blank (take n s) ∷ []) (run o (at + n) (drop n s) w) | false ↦ refused 0 0 ]
run o at s (list p l c m w) = logged (row p l c m ∷ []) (run o at s w)

-- the bytes that events stand for in an order, how many, and the table's rows among them from a position on
unfoldable pub render : Order → List Event → List ℕ
render o [] = []
render o (numeral w v ∷ t) = bytes_in o w v ++ render o t
render o (piece k bs ∷ t) = laid o k bs ++ render o t
render o (blank bs ∷ t) = bs ++ render o t
render o (row p l c s ∷ t) = render o t

unfoldable pub size : List Event → ℕ
size [] = 0
size (numeral w v ∷ t) = w + size t
size (piece k bs ∷ t) = length bs + size t
size (blank bs ∷ t) = length bs + size t
size (row p l c s ∷ t) = size t

unfoldable pub rows : ℕ → List Event → List Row
rows at [] = []
rows at (numeral w v ∷ t) = rows (at + w) t
rows at (piece k bs ∷ t) = rows (at + length bs) t
rows at (blank bs ∷ t) = rows (at + length bs) t
rows at (row p l c s ∷ t) = record { start = at - p; size = l; code = c; serial = s } ∷ rows at t

-- the same with every byte that is not judged zero
unfoldable pub cleared : List Event → List Event
cleared [] = []
cleared (numeral w v ∷ t) = numeral w v ∷ cleared t
cleared (piece k bs ∷ t) = piece k bs ∷ cleared t
cleared (blank bs ∷ t) = blank (replicate (length bs) 0) ∷ cleared t
cleared (row p l c s ∷ t) = row p l c s ∷ cleared t

-- one walk after the other
unfoldable pub after : {A B : Type 0} → Outcome A → (A → ℕ → List ℕ → Outcome B) → Outcome B
after (refused n p) k = refused n p
after (passed a r t) k = logged t (k a (size t) r)

abbrev pub pick : {A : Type 0} → Bool → A → A → A
pick true a b = a
pick false a b = b

abbrev pub require : Bool → ℕ → ℕ → Walk (Unit {0})
require c n p = check c n p (give tt)

abbrev pub num : ℕ → Walk ℕ
num w = number w give

abbrev pub text : ℕ → Walk (List ℕ)
text n = read Text n give

abbrev pub reserve : ℕ → Walk (Unit {0})
reserve n = skip n (give tt)
