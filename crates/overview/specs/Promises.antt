-- What a user of the overview may rely on. Each promise speaks of every answer and every final buffer that meets the contract of `overview` or of
-- `overview_range`, by the definition that its `ensures` cites, and (`boundary`) for C. `proofs/Promises.antt` proves them of every list of bytes.
-- Assumes nothing.
use Rattle.std.specs.Prelude.{◌≡◌, Option, Some, None, Result, Ok, Err, Bool, false, ℕ, ◌+◌, ◌*◌, ◌≤◌, ◌<◌, ℤ, length, take, drop}
use mathlib.Core.List.{List, [], Memᴰ}
use Rattle.std.proofs.Math.Option.{none}
use Rattle.std.specs.Int.Signed.{lt_z}
use Rattle.walk.specs.Walk.{Event, refused, rows}
use Rattle.rules.specs.Reading.{RecordingReading, reading}
use Rattle.rules.specs.Reasons.{refusal_of}
use Rattle.rules.specs.Rules as R
use Rattle.rules.specs.declared.Refusal.{Refusal}
use Rattle.recordings.specs.Answers.{value, meaning}
use Rattle.questions.specs.Tied.{recording_read}
use Rattle.makers.specs.Makers.{first_maker}
use Rattle.turn.specs.Turn.{Turns}
use Rattle.answers.specs.declared.Counted as Library
use Rattle.psg.specs.Calls.{TurnAnswers}
use Rattle.demands.specs.Demands.{of_question, of_run, Named, Answered, KeepsRest, TakenApart, Accepted, SameEnd}
use Rattle.overview.specs.Flat.{flat_overview, flat_counted, OverviewAnswers, RangeAnswers}
use Rattle.overview.specs.Overview.{samples_in, seconds_of, numbers, OverviewAnswer, RangeAnswer}
use Rattle.overview.specs.declared.Counted.{Counted}
use Rattle.overview.specs.declared.Envelope.{Envelope}
use Rattle.overview.specs.declared.Overviewed.{Overviewed}

-- An epoch's samples

-- z is one of the numbers, and none of them comes before it
pub record Foremost (before : ℤ → ℤ → Bool) (zs : List ℤ) (z : ℤ) : Type 0 where
  pub among : Memᴰ z zs
  pub first : (y : ℤ) → Memᴰ y zs → before y z ≡ false

-- the smallest and the largest of the numbers, and how many there are
pub record EnvelopeIs (zs : List ℤ) (x : Envelope) : Type 0 where
  pub smallest : Foremost lt_z zs x.smallest
  pub largest : Foremost (λ a b. lt_z b a) zs x.largest
  pub count : x.count ≡ length zs

-- this holds of the samples that the reading of the file s has of channel k of recording i in epoch e
pub record InEpoch (s : List ℕ) (i k e : ℕ) (Holds : List ℤ → Type 0) : Type 0 where
  -- the rules accept the file, and its reading has the recording
  pub file : R.File
  pub events : List Event
  pub accepted : Accepted s file events
  pub recording : RecordingReading
  pub held : recording_read (reading file) i ≡ value recording
  pub holds : Holds (samples_in (seconds_of recording) e k 0 recording.frames)

-- Several epochs

-- the three numbers of epoch q of the buffer are what the overview answers about that epoch: no refusal, but an envelope or that it is empty
pub record EpochTells (out' : List ℤ) (q : ℕ) (d : Result (Option Envelope) Refusal) : Type 0 where
  pub epoch : Option Envelope
  pub told : meaning d ≡ value epoch
  pub entry : take 3 (drop (3 * q) out') ≡ numbers epoch

-- What C is answered: so many epochs written, and a refusal, which in C is any two numbers

abbrev pub wrote_c : ℕ → Counted
wrote_c n = record { refusal = 0; position = 0; count = n }

abbrev pub stopped_c : ℕ × ℕ → Counted
stopped_c r = record { refusal = r.0; position = r.1; count = 0 }

-- of the file s: the answers of Rattle, taken apart into numbers; the number 0 is never a refusal
pub record Boundary (s : List ℕ) : Type 0 where
  pub overview : (i k e : ℕ) (a : Overviewed) → OverviewAnswers s i k e a →
      TakenApart s (OverviewAnswer s i k e) Err (λ b. flat_overview (meaning b)) of_question 0 a.refusal a.position a
  pub range : (i k first n : ℕ) (out out' : List ℤ) (a : Counted) → RangeAnswers s i k first n out out' a →
      TakenApart s (RangeAnswer s i k first n out out') Err (λ b. flat_counted (meaning b)) of_run (3 * n) a.refusal a.position a
  pub range_keeps : (i k first n : ℕ) (out out' : List ℤ) (a : Counted) → RangeAnswers s i k first n out out' a → KeepsRest stopped_c wrote_c 3 out out' a

-- the files s and s' are answered the same, and leave the same buffer; for C too
pub record SameOverviews (s s' : List ℕ) : Type 0 where
  pub overview : (i k e : ℕ) (a b : Result (Option Envelope) Refusal) → OverviewAnswer s i k e a → OverviewAnswer s' i k e b → a ≡ b
  pub range : (i k first n : ℕ) (out out₁ out₂ : List ℤ) (a b : Result ℕ Refusal) →
      RangeAnswer s i k first n out out₁ a → RangeAnswer s' i k first n out out₂ b → SameEnd a b out₁ out₂
  pub boundary_overview : (i k e : ℕ) (a b : Overviewed) → OverviewAnswers s i k e a → OverviewAnswers s' i k e b → a ≡ b
  pub boundary_range : (i k first n : ℕ) (out out₁ out₂ : List ℤ) (a b : Counted) →
      RangeAnswers s i k first n out out₁ a → RangeAnswers s' i k first n out out₂ b → SameEnd a b out₁ out₂

-- of the file s, whatever is asked
pub record Promises (s : List ℕ) : Type 0 where
  -- the refusals: those of a question, and for a range 17 besides, which counts in numbers, three an epoch
  pub overview : (i k e : ℕ) (a : Result (Option Envelope) Refusal) → OverviewAnswer s i k e a → Answered Err of_question (length s) 0 a
  pub range : (i k first n : ℕ) (out out' : List ℤ) (a : Result ℕ Refusal) → RangeAnswer s i k first n out out' a →
      Answered Err of_run (length s) (3 * n) a
  -- a buffer keeps what the answer does not state
  pub range_keeps : (i k first n : ℕ) (out out' : List ℤ) (a : Result ℕ Refusal) → RangeAnswer s i k first n out out' a →
      KeepsRest Err Ok 3 out out' a
  -- the rules' refusal is handed up
  pub overview_handed : (n p : ℕ) → R.judge s ≡ refused n p → (i k e : ℕ) (a : Result (Option Envelope) Refusal) → OverviewAnswer s i k e a →
      Named n × (a ≡ Err (refusal_of n p))
  pub range_handed : (m p : ℕ) → R.judge s ≡ refused m p → (i k first n : ℕ) (out out' : List ℤ) (a : Result ℕ Refusal) →
      RangeAnswer s i k first n out out' a → Named m × (a ≡ Err (refusal_of m p))
  -- an envelope is that of the reading's samples, and an epoch is empty where there are none
  pub samples : (i k e : ℕ) (x : Envelope) → OverviewAnswer s i k e (Ok (Some x)) → InEpoch s i k e (λ zs. EnvelopeIs zs x)
  pub empty : (i k e : ℕ) → OverviewAnswer s i k e (Ok None) → InEpoch s i k e (λ zs. zs ≡ [])
  -- where a range is answered, the answer is the number asked for, and epoch q of the buffer is what the overview answers about epoch first + q
  pub range_number : (i k first n : ℕ) (out out' : List ℤ) (a : Result ℕ Refusal) → RangeAnswer s i k first n out out' a →
      (m : ℕ) → a ≡ Ok m → m ≡ n
  pub agrees : (i k first n : ℕ) (out out' : List ℤ) → RangeAnswer s i k first n out out' (Ok n) →
      (q : ℕ) → q < n → (d : Result (Option Envelope) Refusal) → OverviewAnswer s i k (first + q) d → EpochTells out' q d
  -- an accepted file without makers' records, and what `turn` wrote of it with room, are answered the same; so what C's call wrote
  pub turned : (v : R.File) (t : List Event) → Accepted s v t → first_maker (rows 0 t) ≡ none →
      (out out' : List ℕ) (a : Result ℕ Refusal) → length s ≤ length out → Turns s out out' a → SameOverviews s (take (length s) out')
  pub boundary_turned : (v : R.File) (t : List Event) → Accepted s v t → first_maker (rows 0 t) ≡ none →
      (out out' : List ℕ) (a : Library.Counted) → length s ≤ length out → TurnAnswers s out out' a → SameOverviews s (take (length s) out')
  -- what C is answered
  pub boundary : Boundary s
