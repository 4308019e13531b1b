-- The answer of `turn` for a file and a buffer, and what the buffer holds afterwards, by the rules' outcome for the file.
-- Assumes nothing.
use Rattle.std.specs.Prelude.{Result}
use Rattle.rules.specs.declared.Refusal.{Refusal}
use Rattle.std.specs.Prelude.{List, ℕ, length}
use Rattle.walk.specs.Walk.{Outcome, refused, passed, rows}
use Rattle.rules.specs.Rules as R
use Rattle.rules.specs.Turned as T
use Rattle.makers.specs.Makers.{first_maker}
use Rattle.permit.specs.Permit.{Answer, refusal, permitted, settled, Writes}

abbrev pub answered : Outcome R.File → ℕ → ℕ → Answer
answered (refused n p) size room = refusal n p
answered (passed v r t) size room = permitted (first_maker (rows 0 t)) size room

-- the answer for a file, with room for so many bytes
abbrev pub answer_of : List ℕ → ℕ → Answer
answer_of s room = answered (R.judge s) (length s) room

-- the buffer afterwards: the turned file in its first bytes where the answer is a length, else as it was
abbrev pub afterwards : List ℕ → List ℕ → List ℕ
afterwards s out = settled (answer_of s (length out)) (T.turned s) out

-- what `turn` answers, and what the buffer then holds
abbrev pub Turns : List ℕ → List ℕ → List ℕ → Result ℕ Refusal → Type 0
Turns s out out' a = Writes (answer_of s (length out)) (T.turned s) out out' a
