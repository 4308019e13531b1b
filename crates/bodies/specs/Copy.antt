-- What is written of a walk's events, and where.
-- Assumes nothing.
use Rattle.std.specs.Prelude.{Option, Some, None}
use Rattle.std.specs.Prelude.{◌≡◌, Bool, true, ◌&&◌, List, ℕ, zero, suc, ◌+◌, ◌≤◌, eqb, length}
use Rattle.words.specs.Numbers.{number_at}
use Rattle.words.specs.Runs.{pasted}
use Rattle.words.specs.declared.Order.{Order}
use Rattle.walk.specs.Trace.{trace, written}
use Rattle.walk.specs.Walk.{Walk, ◌>>◌, reserve, pick}
use Rattle.rules.specs.Rules as R
use Rattle.bodies.specs.declared.Way.{Way}

-- the bytes of the events of a walk over the part s of the file, which stands at b, written anew
abbrev pub copy : {A : Type 0} → Way → ℕ → List ℕ → ℕ → Walk A → List ℕ
copy w b s at v = written w.keep w.to (trace w.from b s at v)

-- where there is room, the bytes stand from k on in the buffer, and the next go behind them
abbrev pub Pastes : List ℕ → List ℕ → ℕ → ℕ → List ℕ → Type 0
Pastes out out' k k' xs = (k + length xs ≤ length out → (k' ≡ k + length xs) × (out' ≡ pasted out k xs))

-- the same where nothing is said of what follows
abbrev pub HoldsFrom : List ℕ → List ℕ → ℕ → List ℕ → Type 0
HoldsFrom out out' k xs = (k + length xs ≤ length out → out' ≡ pasted out k xs)

-- a sub's numbers, with its head's, up to its reserve: those at 52 and 64 are fields, or reserve
unfoldable pub numbers_of : Bool → Walk ℕ
numbers_of calibrated = R.number_list 4 13 >> (R.field_if calibrated R.anything >> (R.number_list 4 2 >> R.field_if calibrated R.anything))

-- a frame's clock and its samples, without what pads it
unfoldable pub filling : ℕ → List R.Channel → Walk (List (List ℕ))
filling t cs = R.number_list 2 3 >> (reserve 2 >> R.samples t cs)

-- the samples of the n channels whose subs stand in the file from byte q on are all v bytes wide
unfoldable pub all_wide : Order → List ℕ → ℕ → ℕ → ℕ → Bool
all_wide o file q zero v = true
all_wide o file q (suc n) v = eqb (R.width (number_at o 4 file (q + 28))) v && all_wide o file (q + 256) n v

-- the width that they all have, if there is one
unfoldable pub widths_in : Order → List ℕ → ℕ → ℕ → Option ℕ
widths_in o file q zero = None
widths_in o file q (suc n) = pick (all_wide o file q (suc n) (R.width (number_at o 4 file (q + 28)))) (Some (R.width (number_at o 4 file (q + 28)))) None
