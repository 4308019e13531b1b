-- What it is that a walk accepts events.
-- Assumes nothing.
use Rattle.std.specs.Prelude.{◌≡◌, Bool, true, List, [], ◌∷◌, ℕ, ◌^◌, ◌<◌, length}
use Rattle.words.specs.Numbers.{Bytes}
use Rattle.walk.specs.Walk.{Kind, Event, numeral, piece, blank, row, Walk, give, check, number, read, skip, list}

-- the walk w accepts the events t and gives a: no bytes of a file, no order and no position are involved
pub data Plays {A : Type 0} : List Event → Walk A → A → Type 0 where
  gives : {a : A} → Plays [] (give a) a
  checks : {n p : ℕ} {c : Bool} {t : List Event} {w : Walk A} {a : A} → c ≡ true → Plays t w a → Plays t (check c n p w) a
  numbers : {n v : ℕ} {f : ℕ → Walk A} {t : List Event} {a : A} → v < 256 ^ n → Plays t (f v) a → Plays (numeral n v ∷ t) (number n f) a
  reads : {n : ℕ} {k : Kind} {f : List ℕ → Walk A} {bs : List ℕ} {t : List Event} {a : A} → length bs ≡ n → Bytes bs → Plays t (f bs) a → Plays (piece k bs ∷ t) (read k n f) a
  skips : {n : ℕ} {w : Walk A} {bs : List ℕ} {t : List Event} {a : A} → length bs ≡ n → Bytes bs → Plays t w a → Plays (blank bs ∷ t) (skip n w) a
  lists : {p l c s : ℕ} {w : Walk A} {t : List Event} {a : A} → Plays t w a → Plays (row p l c s ∷ t) (list p l c s w) a
