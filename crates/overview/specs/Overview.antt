-- The thirty-second overview of a channel: the samples of an epoch, the smallest and the largest of them and how many there are, by the file's reading;
-- what `overview` answers, and what `overview_range` answers and writes.
-- Assumes nothing.
use Rattle.std.specs.Prelude.{Option, Some, None, Result}
use Rattle.std.specs.Prelude.{◌≡◌, Bool, ◌&&◌, List, [], ◌∷◌, ◌++◌, map, ℕ, zero, suc, ◌+◌, ◌*◌, leb, ltb, ℤ, pos, nat_abs, length, drop}
use Rattle.std.specs.Int.Signed.{lt_z}
use Rattle.words.specs.Lent.{flat}
use Rattle.walk.specs.Walk.{pick, Outcome, refused, passed}
use Rattle.rules.specs.Reading.{Value, FrameReading, RecordingReading, Reading, reading}
use Rattle.rules.specs.Rules as R
use Rattle.rules.specs.declared.Refusal.{Refusal}
use Rattle.recordings.specs.Answers.{Answer, value, refusal, meaning, ◌>>=◌, outside, numbered}
use Rattle.questions.specs.Tied.{recording_read, format_in}
use Rattle.runs.specs.Runs.{element_of}
use Rattle.runs.specs.declared.Sibling.TheVariants as Sibling
use Rattle.overview.specs.declared.Envelope.{Envelope}

-- Samples

-- the smaller and the larger of two numbers; and of a number and others
abbrev pub lower : ℤ → ℤ → ℤ
lower a b = pick (lt_z b a) b a

abbrev pub higher : ℤ → ℤ → ℤ
higher a b = pick (lt_z a b) b a

unfoldable pub foremost : (ℤ → ℤ → ℤ) → ℤ → List ℤ → ℤ
foremost f a [] = a
foremost f a (b ∷ bs) = foremost f (f a b) bs

-- of some samples, or of none
abbrev pub envelope_of : List ℤ → Option Envelope
envelope_of [] = None
envelope_of (z ∷ zs) = Some (record { smallest = foremost lower z zs; largest = foremost higher z zs; count = length (z ∷ zs) })

-- An epoch

-- whether the frame behind n others, of t seconds each, starts in epoch e
abbrev pub starts : (t e n : ℕ) → Bool
starts t e n = leb (30 * e) (n * t) && ltb (n * t) (30 * e + 30)

-- the whole numbers among the samples of a channel in a frame
abbrev pub wholes : Answer (List Value) → List ℤ
wholes (value vs) = map (element_of Sibling.Whole) vs
wholes (refusal n p) = []

-- the samples of channel k in epoch e, in frames behind n others
unfoldable pub samples_in : (t e k n : ℕ) → List FrameReading → List ℤ
samples_in t e k n [] = []
samples_in t e k n (f ∷ fs) = pick (starts t e n) (wholes (numbered f.channels k)) [] ++ samples_in t e k (suc n) fs

-- T, and F times T
abbrev pub seconds_of : RecordingReading → ℕ
seconds_of r = nat_abs r.seconds

abbrev pub lasts : RecordingReading → ℕ
lasts r = length r.frames * seconds_of r

-- recording i, whose channel k has whole numbers: format 1, 2 or 3
abbrev pub whole_read : Reading → (i k : ℕ) → Answer RecordingReading
whole_read g i k = do
  r ← recording_read g i
  c ← numbered r.channels k
  pick (R.between 1 3 (format_in c)) (value r) outside

abbrev pub epoch_in : RecordingReading → (k e : ℕ) → Option Envelope
epoch_in r k e = envelope_of (samples_in (seconds_of r) e k 0 r.frames)

abbrev pub overview_read : Reading → (i k e : ℕ) → Answer (Option Envelope)
overview_read g i k e = whole_read g i k >>= λ r. pick (ltb (30 * e) (lasts r)) (value (epoch_in r k e)) outside

-- Several epochs

-- n from the first on
unfoldable pub epochs_in : RecordingReading → (k first n : ℕ) → List (Option Envelope)
epochs_in r k first zero = []
epochs_in r k first (suc n) = epoch_in r k first ∷ epochs_in r k (suc first) n

-- each of them starts before so many seconds; where there are none, the first may start there too
abbrev pub within : ℕ → (first n : ℕ) → Bool
within all first zero = leb (30 * first) all
within all first (suc n) = ltb (30 * (first + n)) all

abbrev pub range_read : Reading → (i k first n : ℕ) → Answer (List (Option Envelope))
range_read g i k first n = whole_read g i k >>= λ r. pick (within (lasts r) first n) (value (epochs_in r k first n)) outside

-- three numbers an epoch: 0 0 0 where it is empty
abbrev pub numbers : Option Envelope → List ℤ
numbers None = pos 0 ∷ pos 0 ∷ pos 0 ∷ []
numbers (Some x) = x.smallest ∷ x.largest ∷ pos x.count ∷ []

-- What the calls do with the file s: its refusal, or what its reading has

abbrev pub by_reading : {A : Type 0} → Outcome R.File → (Reading → Answer A) → Answer A
by_reading (refused n p) ask = refusal n p
by_reading (passed v l t) ask = ask (reading v)

abbrev pub overview_of : List ℕ → (i k e : ℕ) → Answer (Option Envelope)
overview_of s i k e = by_reading (R.judge s) (λ g. overview_read g i k e)

abbrev pub OverviewAnswer : List ℕ → (i k e : ℕ) → Result (Option Envelope) Refusal → Type 0
OverviewAnswer s i k e a = meaning a ≡ overview_of s i k e

abbrev pub range_of : List ℕ → (i k first n : ℕ) → Answer (List (Option Envelope))
range_of s i k first n = by_reading (R.judge s) (λ g. range_read g i k first n)

-- the answer with room for so many numbers: 17 says how many are needed
abbrev pub counted : ℕ → ℕ → Answer (List (Option Envelope)) → Answer ℕ
counted n room a = a >>= λ _. pick (leb (3 * n) room) (value n) (refusal 17 (3 * n))

-- and the buffer: the epochs' numbers from its start on where there is room for them, else as it was
abbrev pub holding : ℕ → Answer (List (Option Envelope)) → List ℤ → List ℤ
holding n (refusal m p) out = out
holding n (value xs) out = pick (leb (3 * n) (length out)) (flat numbers xs ++ drop (3 * n) out) out

pub record RangeAnswer (s : List ℕ) (i k first n : ℕ) (out out' : List ℤ) (a : Result ℕ Refusal) : Type 0 where
  -- the answer, and the buffer afterwards
  pub answer : meaning a ≡ counted n (length out) (range_of s i k first n)
  pub buffer : out' ≡ holding n (range_of s i k first n) out
