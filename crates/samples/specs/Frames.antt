-- The frame and the samples that a question asks about, their values and where they stand.
-- Assumes nothing.
use Rattle.std.specs.Prelude.{cond, List, ℕ, ◌+◌, ◌-◌, ◌*◌, take}
use Rattle.words.specs.Floats.{nan_pattern, float_of, bits_of}
use Rattle.rules.specs.Rules as R
use Rattle.rules.specs.Reading.{Value, whole, float, frame_reading}
use Rattle.recordings.specs.Answers.{Answer, value, ◌>>=◌, numbered}
use Rattle.recordings.specs.Recordings.{Chosen, recording_of, start_of}
use Rattle.samples.specs.declared.Number.{Number}
use Rattle.samples.specs.declared.Time.{Time}

-- A frame, and where it stands

pub record ChosenFrame : Type 0 where
  -- its recording
  pub of : Chosen
  -- what it is
  pub frame : R.Frame
  -- its first byte
  pub at : ℕ

abbrev pub frame_of : List ℕ → ℕ → ℕ → Answer ChosenFrame
frame_of s i j = do
  r ← recording_of s i
  f ← numbered r.this.recording.frames j
  value (record { of = r; frame = f; at = start_of r + r.this.layout.at140 + (32 + r.this.layout.frame * (j - 1)) })

-- its clock
abbrev pub time_of : R.Frame → Time
time_of f = record { hour = f.hour; minute = f.minute; second = f.second }

-- the format of channel k of recording i
abbrev pub format_of : List ℕ → ℕ → ℕ → Answer ℕ
format_of s i k = do
  r ← recording_of s i
  c ← numbered r.this.recording.channels k
  value c.format

-- The samples of a channel in a frame

pub record Samples : Type 0 where
  -- their first byte
  pub at : ℕ
  -- the channel's format
  pub format : ℕ
  -- their values
  pub values : List Value

abbrev pub samples_of : List ℕ → ℕ → ℕ → ℕ → Answer Samples
samples_of s i j k = do
  f ← frame_of s i j
  c ← numbered f.of.this.recording.channels k
  vs ← numbered (frame_reading f.of.this.recording.channels f.frame).channels k
  value (record {
    at = f.at + (24 + R.sample_bytes f.of.this.recording.seconds (take (k - 1) f.of.this.recording.channels));
    format = c.format;
    values = vs;
  })

-- the sample of 32 bits: a float, or a NaN's pattern
unfoldable pub float_in : ℕ → Number
float_in n = cond (nan_pattern n) (Number.Pattern n) (Number.Float (float_of n))

-- a number of the reading: a whole number, or the sample of its bits
abbrev pub number_in : Value → Number
number_in (whole z) = Number.Whole z
number_in (float n) = float_in n

-- the 32 bits of a sample; a whole number has none
abbrev pub bits_in : Number → ℕ
bits_in (Number.Whole z) = 0
bits_in (Number.Float v) = bits_of v
bits_in (Number.Pattern n) = n
