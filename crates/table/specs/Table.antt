-- The answer of `table` for a file and a buffer, and what the buffer holds afterwards, by the rules' outcome for the file.
-- Assumes nothing.
use Rattle.std.specs.Prelude.{Result, Ok, Err}
use Rattle.rules.specs.declared.Refusal.{Refusal}
use Rattle.rules.specs.Reasons.{number_of}
use Rattle.std.specs.Prelude.{◌≡◌, true, List, ℕ, ◌*◌, leb, ℤ, length}
use Rattle.walk.specs.Walk as W
use Rattle.walk.specs.Walk.{pick, Row, Outcome, refused, passed}
use Rattle.rules.specs.Rules as R
use Rattle.rows.specs.Rows.{written}

-- how many rows, or a refusal and its position
pub data Answer : Type 0 where
  rows : ℕ → Answer
  refusal : ℕ → ℕ → Answer

abbrev pub meaning : Result ℕ Refusal → Answer
meaning (Ok n) = rows n
meaning (Err r) = refusal (number_of r.0) r.1

-- rows in a buffer of so many numbers: refusal 17 says how many they are where there is no room
abbrev pub counted : List Row → ℕ → Answer
counted rs room = pick (leb (4 * length rs) room) (rows (length rs)) (refusal 17 (4 * length rs))

abbrev pub kept : List Row → List ℤ → List ℤ
kept rs out = pick (leb (4 * length rs) (length out)) (written true out 0 rs) out

abbrev pub answered : Outcome R.File → ℕ → Answer
answered (refused n p) room = refusal n p
answered (passed v r t) room = counted (W.rows 0 t) room

abbrev pub holding : Outcome R.File → List ℤ → List ℤ
holding (refused n p) out = out
holding (passed v r t) out = kept (W.rows 0 t) out

-- the answer for a file, with room for so many numbers; and the buffer afterwards
abbrev pub answer_of : List ℕ → ℕ → Answer
answer_of s room = answered (R.judge s) room

abbrev pub afterwards : List ℕ → List ℤ → List ℤ
afterwards s out = holding (R.judge s) out

-- what `table` does with the file s and a buffer
pub record Lists (s : List ℕ) (out out' : List ℤ) (a : Result ℕ Refusal) : Type 0 where
  -- the answer, and the buffer afterwards
  pub answer : meaning a ≡ answer_of s (length out)
  pub buffer : out' ≡ afterwards s out
