-- The recording that a question asks about, by the rules' outcome for the file: its refusal, then 19 outside the range, then the recording and
-- where the records stand that hold for it.
-- Assumes nothing.
use Rattle.std.specs.Prelude.{Bool, List, map, ℕ, ◌+◌, ◌-◌, get_or}
use Rattle.walk.specs.Walk.{Outcome, refused, passed}
use Rattle.rules.specs.Rules as R
use Rattle.rules.specs.Places.{bytes_before, holder}
use Rattle.recordings.specs.Answers.{Answer, value, refusal, ◌>>=◌, numbered}

-- A recording of a file

pub record Chosen : Type 0 where
  -- the file's recordings
  pub all : List R.Placed
  -- which of them it is, from 0
  pub index : ℕ
  -- what it is
  pub this : R.Placed

abbrev pub judged : Outcome R.File → ℕ → Answer Chosen
judged (refused n p) i = refusal n p
judged (passed v r t) i = numbered v.recordings i >>= λ x. value (record { all = v.recordings; index = i - 1; this = x })

abbrev pub recording_of : List ℕ → ℕ → Answer Chosen
recording_of s i = judged (R.judge s) i

-- where it starts
abbrev pub start_of : Chosen → ℕ
start_of r = 32 + bytes_before r.index r.all

-- where the record stands that holds for it: in the recording itself, or in the nearest earlier one that has it
unfoldable pub held_at : (R.Recording → Bool) → (R.Layout → ℕ) → Chosen → ℕ
held_at own place r =
    let k : ℕ = holder own r.this.recording r.index (map (λ (p : R.Placed). p.recording) r.all) in
    32 + bytes_before k r.all + place (get_or r.all k r.this).layout

abbrev pub at120 : Chosen → ℕ
at120 = held_at (λ (r : R.Recording). r.own_channels) (λ (l : R.Layout). l.at120)

abbrev pub at130 : Chosen → ℕ
at130 = held_at (λ (r : R.Recording). r.own_patient) (λ (l : R.Layout). l.at130)
