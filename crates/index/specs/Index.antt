-- The answer of `index` for a file and a buffer, and what the buffer holds afterwards, by the rules' outcome for the file.
-- Assumes nothing.
use Rattle.rules.specs.declared.Refusal.{Refusal}
use Rattle.std.specs.Prelude.{◌≡◌, true, List, [], ◌∷◌, ℕ, ◌*◌, leb, ℤ, pos, length, Result, Ok, Err}
use Rattle.words.specs.Lent.{written}
use Rattle.walk.specs.Walk.{pick, Outcome, refused, passed}
use Rattle.rules.specs.Rules as R
use Rattle.recordings.specs.Answers.{Answer, value, refusal, meaning}
use Rattle.index.specs.Events.{Entry, entries}

-- the five numbers of an entry
abbrev pub numbers : Entry → List ℤ
numbers e = pos e.recording ∷ pos e.frame ∷ pos e.channel ∷ pos e.place ∷ pos e.code ∷ []

-- entries in a buffer of so many numbers: refusal 17 says how many numbers they are where there is no room
abbrev pub counted : List Entry → ℕ → Answer ℕ
counted es room = pick (leb (5 * length es) room) (value (length es)) (refusal 17 (5 * length es))

abbrev pub kept : List Entry → List ℤ → List ℤ
kept es out = pick (leb (5 * length es) (length out)) (written numbers 5 true out 0 es) out

-- the entries of the file s: none where it is refused
abbrev pub entries_of : List ℕ → Outcome R.File → List Entry
entries_of s (refused n p) = []
entries_of s (passed v r t) = entries s (R.contents v)

abbrev pub answered : List ℕ → Outcome R.File → ℕ → Answer ℕ
answered s (refused n p) room = refusal n p
answered s (passed v r t) room = counted (entries s (R.contents v)) room

abbrev pub holding : List ℕ → Outcome R.File → List ℤ → List ℤ
holding s (refused n p) out = out
holding s (passed v r t) out = kept (entries s (R.contents v)) out

-- the answer for a file, with room for so many numbers; and the buffer afterwards
abbrev pub answer_of : List ℕ → ℕ → Answer ℕ
answer_of s room = answered s (R.judge s) room

abbrev pub afterwards : List ℕ → List ℤ → List ℤ
afterwards s out = holding s (R.judge s) out

-- what `index` does with the file s and a buffer
pub record Indexes (s : List ℕ) (out out' : List ℤ) (a : Result ℕ Refusal) : Type 0 where
  -- the answer, and the buffer afterwards
  pub answer : meaning a ≡ answer_of s (length out)
  pub buffer : out' ≡ afterwards s out
