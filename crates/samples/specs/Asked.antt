-- What the functions say that find the frame and the samples asked for.
-- Assumes nothing.
use Rattle.std.specs.Prelude.{Result, Ok, Err}
use Rattle.rules.specs.Reasons.{number_of}
use Rattle.std.specs.Prelude.{◌≡◌, List, ℕ, ◌+◌, ◌*◌, ◌≤◌, ◌<◌, length, take}
use Rattle.words.specs.Numbers.{number_at}
use Rattle.words.specs.declared.Order.{Order}
use Rattle.walk.specs.See.{Goes, goes, see}
use Rattle.rules.specs.Rules as R
use Rattle.rules.specs.declared.Label.{Label}
use Rattle.rules.specs.Reading.{value_of}
use Rattle.rules.specs.declared.Refusal.{Refusal}
use Rattle.records.specs.Says.{Kept}
use Rattle.descriptions.specs.declared.Places.{Places}
use Rattle.recordings.specs.Answers.{value, refusal, indexed}
use Rattle.recordings.specs.Found.{FoundIn}
use Rattle.samples.specs.Frames.{ChosenFrame, frame_of, time_of, format_of, Samples, samples_of}
use Rattle.samples.specs.Placed.{place_in}
use Rattle.samples.specs.declared.Run.{Run}
use Rattle.samples.specs.declared.Time.{Time}
use Rattle.samples.specs.declared.Track.{Track}

-- A frame: it stands at `at`, where the walk of a frame gives it

pub record FrameStands (s : List ℕ) (i j : ℕ) (o : Order) (q : Places) (at : ℕ) (f : ChosenFrame) : Type 0 where
  -- the frame asked for
  pub is : frame_of s i j ≡ value f
  -- of the recording asked for
  pub found : FoundIn s i o q f.of
  -- its first byte
  pub place : at ≡ f.at
  -- its head, its clock and its samples are in the file
  pub inside : at + (24 + R.sample_bytes q.seconds f.of.this.recording.channels) ≤ length s
  -- the label and the room that its walk is given
  pub label : Label
  pub room : ℕ
  -- what the walk gives there
  pub seen : Goes (see o 0 s at (R.frame label q.frame q.seconds f.of.this.recording.channels room j)) (λ x e. x ≡ f.frame)

abbrev pub FrameFoundAs : List ℕ → ℕ → ℕ → Result (Order × Places × ℕ) Refusal → Type 0
FrameFoundAs s i j (Ok (o, q, at)) = (f : ChosenFrame) × FrameStands s i j o q at f
FrameFoundAs s i j (Err r) = frame_of s i j ≡ refusal (number_of r.0) r.1

-- the time r is the clock of the frame that a walk gives at `at`
abbrev pub ClockAt : Order → List ℕ → ℕ → Time → Type 0
ClockAt o s at r = (label : Label) (size t : ℕ) (cs : List R.Channel) (room i : ℕ) (f : R.Frame) (e : ℕ) →
    see o 0 s at (R.frame label size t cs room i) ≡ goes f e → r ≡ time_of f

-- the samples of the channel c in the frame of t seconds at `at`, behind those of the channels before it
abbrev pub run_of : ℕ → List R.Channel → R.Channel → ℕ → Run
run_of t before c at = record {
  format = c.format;
  place = record { position = at + (24 + R.sample_bytes t before); width = R.width c.format; count = R.samples_in t c };
}

-- Samples: they lie in a file of n bytes

abbrev pub RunInside : ℕ → Run → Type 0
RunInside n r = r.place.position + r.place.width * r.place.count ≤ n

-- the code looks for those of channel c, from 0, in a file of n bytes
pub record Reachable (n subs c t at : ℕ) : Type 0 where
  -- the records 125 stand from `subs` on, that of the channel among them
  pub described : subs + 256 * (c + 1) ≤ n
  -- there are at most 128 of them
  pub channels : c < 128
  -- so long is a frame at most
  pub seconds : t ≤ 3600
  -- its head and its clock stand in the file
  pub frame : at + 24 ≤ n

-- what it finds
pub record RunAt (o : Order) (s : List ℕ) (subs c t at : ℕ) (r : Run) : Type 0 where
  -- samples in the file, whatever it holds
  pub inside : RunInside (length s) r
  -- those of the channel x, where it is the one asked for of the channels cs, and its samples are in the file
  pub same : (cs : List R.Channel) (x : R.Channel) → Kept o s subs cs → indexed cs c ≡ value x →
      RunInside (length s) (run_of t (take c cs) x at) → r ≡ run_of t (take c cs) x at

-- the track of a channel, by the places of its recording and its samples in the first frame
abbrev pub track_at : Order → Places → Run → Track
track_at o q run = record { order = o; format = run.format; first = run.place; step = q.frame; frames = q.total; seconds = q.seconds }

-- they are those asked for, in the recording at q, and each is what the bytes at its place mean
pub record RunIn (s : List ℕ) (i j k : ℕ) (o : Order) (q : Places) (run : Run) (x : Samples) : Type 0 where
  -- the samples asked for
  pub is : samples_of s i j k ≡ value x
  -- in which frame, and where that stands
  pub frame : ChosenFrame
  pub at : ℕ
  pub stands : FrameStands s i j o q at frame
  -- the file's byte order
  pub order : o ≡ R.order_of s
  -- their format, and their place
  pub same : run ≡ record { format = x.format; place = place_in x }
  pub described : format_of s i k ≡ value run.format
  -- they are in the file
  pub inside : RunInside (length s) run
  -- each is what its bytes mean
  pub each : (n : ℕ) → n < run.place.count →
      indexed x.values n ≡
      value (value_of run.format (R.width run.format) (number_at o (R.width run.format) s (run.place.position + R.width run.format * n)))

abbrev pub SamplesFoundAs : List ℕ → ℕ → ℕ → ℕ → Result (Order × Places × Run) Refusal → Type 0
SamplesFoundAs s i j k (Ok (o, q, run)) = (x : Samples) × RunIn s i j k o q run x
SamplesFoundAs s i j k (Err r) = samples_of s i j k ≡ refusal (number_of r.0) r.1
