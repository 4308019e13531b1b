-- What a walk comes to over a part of the file, for code that reads by position: no events, and no test of room.
-- Assumes nothing.
use Rattle.std.specs.Prelude.{◌≡◌, Bool, true, ◌&&◌, List, ℕ, ◌+◌, ◌-◌, ◌≤◌, leb, length}
use Rattle.std.proofs.Math.Dec.{when}
use Rattle.words.specs.Numbers.{bytes_at, number_at}
use Rattle.words.specs.declared.Order.{Order}
use Rattle.walk.specs.Walk.{laid, size, Walk, give, refuse, check, number, read, skip, list, Outcome, refused, passed, pick}

-- a refusal's number and position; or an answer and the position where the walk goes on
pub data Verdict (A : Type 0) : Type 0 where
  stops : ℕ → ℕ → Verdict A
  goes : A → ℕ → Verdict A

-- of a run that was begun at a position
abbrev pub verdict : {A : Type 0} → ℕ → Outcome A → Verdict A
verdict at (refused n p) = stops n p
verdict at (passed a r t) = goes a (at + size t)

-- a test that goes on with a verdict, or stops
unfoldable pub gate : {A : Type 0} → Bool → Verdict A → ℕ → ℕ → Verdict A
gate c v n p = pick c v (stops n p)

-- what a walk comes to from the position at, over the part s of the file, which stands at b
unfoldable pub see : {A : Type 0} → Order → ℕ → List ℕ → ℕ → Walk A → Verdict A
see o b s at (give a) = goes a at
see o b s at (refuse n p) = stops n (at - p)
see o b s at (check c n p w) = gate c (see o b s at w) n (at - p)
see o b s at (number n f) = see o b s (at + n) (f (number_at o n s (at - b)))
see o b s at (read k n f) = see o b s (at + n) (f (laid o k (bytes_at n s (at - b))))
see o b s at (skip n w) = see o b s (at + n) w
see o b s at (list p l c m w) = see o b s at w

-- one verdict after the other
abbrev pub onward : {A B : Type 0} → Verdict A → (A → ℕ → Verdict B) → Verdict B
onward (stops n p) k = stops n p
onward (goes a e) k = k a e

-- a walk that went on, with what is known of its answer and of where it ended
pub record Goes {A : Type 0} (v : Verdict A) (K : A → ℕ → Type 0) : Type 0 where
  pub value : A
  pub end : ℕ
  pub is : v ≡ goes value end
  pub kept : K value end

-- a verdict with its answer mapped to what the code keeps of it
unfoldable pub over : {A B : Type 0} → (A → B) → Verdict A → Verdict B
over f (stops n p) = stops n p
over f (goes a e) = goes (f a) e

-- nothing is kept but the place
abbrev pub ends : {A : Type 0} → Verdict A → Verdict (Unit {0})
ends = over (λ _. tt)

-- the numbers of document 01's refusals of a file. 0 is none of them: it stands where no walk over a file comes
abbrev pub numbered : ℕ → Bool
numbered n = leb 1 n && leb n 16

-- the walk reads no byte at or after L, whatever the bytes are, and refuses by these numbers; and Q holds of what it gives and where it ends
module _ {A : Type 0} where
  abbrev pub Stays : ℕ → ℕ → Walk A → (A → ℕ → Type 0) → Type 0
  Stays L at (give a) Q = Q a at
  Stays L at (refuse n p) Q = when (numbered n) (Unit {0})
  Stays L at (check c n p w) Q = when (numbered n) (c ≡ true → Stays L at w Q)
  Stays L at (number n f) Q = (at + n ≤ L) × ((v : ℕ) → Stays L (at + n) (f v) Q)
  Stays L at (read k n f) Q = (at + n ≤ L) × ((bs : List ℕ) → length bs ≡ n → Stays L (at + n) (f bs) Q)
  Stays L at (skip n w) Q = (at + n ≤ L) × Stays L (at + n) w Q
  Stays L at (list p l c m w) Q = Stays L at w Q

  abbrev pub Holds : (A → ℕ → Type 0) → Verdict A → Type 0
  Holds Q (stops n p) = Unit {0}
  Holds Q (goes a e) = Q a e

-- Q holds of what the walk gives over these bytes, and of where it ends, if it goes on
module _ {A : Type 0} (o : Order) (b : ℕ) (s : List ℕ) where
  abbrev pub Yields : ℕ → Walk A → (A → ℕ → Type 0) → Type 0
  Yields at (give a) Q = Q a at
  Yields at (refuse n p) Q = Unit {0}
  Yields at (check c n p w) Q = c ≡ true → Yields at w Q
  Yields at (number n f) Q = Yields (at + n) (f (number_at o n s (at - b))) Q
  Yields at (read k n f) Q = Yields (at + n) (f (laid o k (bytes_at n s (at - b)))) Q
  Yields at (skip n w) Q = Yields (at + n) w Q
  Yields at (list p l c m w) Q = Yields at w Q
