-- The answers taken apart into numbers for C: the refusal and its position, or 0 and 0; then the values, which are 0 for a refusal and for an empty epoch.
-- Assumes nothing.
use Rattle.std.specs.Prelude.{◌≡◌, Option, Some, None, List, ℕ, ℤ, pos, length}
use Rattle.recordings.specs.Answers.{Answer, value, refusal}
use Rattle.overview.specs.Overview.{overview_of, range_of, counted, holding}
use Rattle.overview.specs.declared.Counted.{Counted}
use Rattle.overview.specs.declared.Envelope.{Envelope}
use Rattle.overview.specs.declared.Overviewed.{Overviewed}

abbrev pub flat_overview : Answer (Option Envelope) → Overviewed
flat_overview (value (Some x)) = record { refusal = 0; position = 0; smallest = x.smallest; largest = x.largest; count = x.count }
flat_overview (value None) = record { refusal = 0; position = 0; smallest = pos 0; largest = pos 0; count = 0 }
flat_overview (refusal n p) = record { refusal = n; position = p; smallest = pos 0; largest = pos 0; count = 0 }

abbrev pub flat_counted : Answer ℕ → Counted
flat_counted (value n) = record { refusal = 0; position = 0; count = n }
flat_counted (refusal n p) = record { refusal = n; position = p; count = 0 }

-- what each call that C links does with the file s
abbrev pub OverviewAnswers : List ℕ → (i k e : ℕ) → Overviewed → Type 0
OverviewAnswers s i k e a = a ≡ flat_overview (overview_of s i k e)

pub record RangeAnswers (s : List ℕ) (i k first n : ℕ) (out out' : List ℤ) (a : Counted) : Type 0 where
  -- the answer, and the buffer afterwards
  pub answer : a ≡ flat_counted (counted n (length out) (range_of s i k first n))
  pub buffer : out' ≡ holding n (range_of s i k first n) out
