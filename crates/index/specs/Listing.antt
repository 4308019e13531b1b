-- What the functions of the index ask and say.
-- Assumes nothing.
use Rattle.std.specs.Prelude.{◌≡◌, Bool, true, false, ◌&&◌, List, [], ◌∷◌, ℕ, suc, ◌+◌, ◌-◌, ◌*◌, ◌/◌, ◌%◌, ◌≤◌, ◌<◌, eqb, ℤ, length, take}
use Rattle.words.specs.Lent.{Wrote}
use Rattle.words.specs.Numbers.{number_at, numbers_at}
use Rattle.words.specs.Sizes.{Addressable}
use Rattle.words.specs.declared.Order.{Order}
use Rattle.words.specs.declared.Order.TheVariants.{Little, Big}
use Rattle.walk.specs.Walk.{pick}
use Rattle.rules.specs.Rules as R
use Rattle.rules.specs.declared.FileHeader.{FileHeader}
use Rattle.rules.specs.declared.Label.{Label}
use Rattle.records.specs.Says.{Kept}
use Rattle.descriptions.specs.declared.Places.{Places}
use Rattle.judge.specs.Judged.{AcceptedAs}
use Rattle.recordings.specs.Answers.{Answer, value, refusal, indexed}
use Rattle.recordings.specs.Found.{FoundIn}
use Rattle.recordings.specs.Recordings.{Chosen, recording_of}
use Rattle.samples.specs.Asked.{FrameStands}
use Rattle.samples.specs.Frames.{ChosenFrame}
use Rattle.index.specs.Events.{Entry, each_of, channel_entries, recording_entries}
use Rattle.index.specs.Index.{numbers}
use Rattle.index.specs.declared.Passed.{Passed}
use Rattle.index.specs.declared.Spot.{Spot}
use Rattle.index.specs.declared.Stretch.{Stretch}

-- Samples

abbrev pub entry_at : Spot → ℕ → ℕ → Entry
entry_at x place code = record { recording = x.recording; frame = x.frame; channel = x.channel; place = place; code = code }

-- what is listed of a code that is not the one before it
abbrev pub of_change : Spot → ℕ → ℕ → List Entry
of_change x place code = pick (eqb code 0) [] (entry_at x place code ∷ [])

-- n words of two bytes each, from byte `at` of s on
abbrev pub words_at : Order → List ℕ → ℕ → ℕ → List ℕ
words_at o s at n = numbers_at o 2 n s at

-- k numbers are there, and at most n entries come, at places up to `place`
pub record Ahead (k n place : ℕ) : Type 0 where
  pub room : Addressable (k + 5 * n)
  pub short : Addressable place

-- the two bytes of a code in this order, the least byte first
unfoldable pub pair_of : Order → ℕ → ℕ
pair_of Little code = code
pair_of Big code = code % 256 * 256 + code / 256

-- eight samples that are all this pair, and what is said where they are
abbrev pub EightOf : ℕ → List ℕ → Type 0
EightOf pair s = (q : ℕ) → q < 8 → number_at Little 2 s (2 * q) ≡ pair

abbrev pub SamePairs : List ℕ → ℕ → Bool → Type 0
SamePairs s pair r = r ≡ true → EightOf pair s

-- how many samples of two bytes
abbrev pub samples_of : List ℕ → ℕ
samples_of s = length s / 2

-- of the samples the code looks at those from p on, for a code
pub record Samples (s : List ℕ) (p code : ℕ) : Type 0 where
  pub long : length s ≡ 2 * samples_of s
  pub inside : p ≤ samples_of s
  pub small : code < 65536

-- from sample p up to r all are this code
pub record Same (o : Order) (s : List ℕ) (p code r : ℕ) : Type 0 where
  pub on : p ≤ r
  pub inside : r ≤ samples_of s
  pub all : (q : ℕ) → p ≤ q → q < r → number_at o 2 s (2 * q) ≡ code

-- and the one at r is another
pub record Repeated (o : Order) (s : List ℕ) (p code r : ℕ) : Type 0 where
  pub same : Same o s p code r
  pub other : r < samples_of s → number_at o 2 s (2 * r) ≡ code → ⊥

-- the samples, behind a code
pub record SamplesAhead (s : List ℕ) (before k : ℕ) : Type 0 where
  pub long : length s ≡ 2 * samples_of s
  pub small : before < 65536
  pub ahead : Ahead k (samples_of s) (samples_of s)

-- Channels

-- m subs have room from byte `subs` on in a file of n bytes
pub record SubsIn (n subs m : ℕ) : Type 0 where
  pub inside : subs + 256 * m ≤ n
  pub short : Addressable n

-- whether the sub at byte p is that of a channel of events
unfoldable pub events_at : Order → List ℕ → ℕ → Bool
events_at o s p = eqb (number_at o 4 s (p + 24)) 1 && eqb (number_at o 4 s (p + 28)) 1

-- none of the channels from a up to b is one
abbrev pub Quiet : Order → List ℕ → (subs a b : ℕ) → Type 0
Quiet o s subs a b = (c : ℕ) → a ≤ c → c < b → events_at o s (subs + 256 * c) ≡ false

pub record FirstEvents (o : Order) (s : List ℕ) (subs m r : ℕ) : Type 0 where
  pub inside : r ≤ m
  pub quiet : Quiet o s subs 0 r

pub record BehindEvents (o : Order) (s : List ℕ) (subs m r : ℕ) : Type 0 where
  pub inside : r ≤ m
  pub quiet : Quiet o s subs r m

-- n samples stand at byte `at` in a file of so many bytes, and where the frame is not the first, a frame of `size` bytes stands before
pub record Behind (bytes frame at n size : ℕ) : Type 0 where
  pub some : 1 ≤ n
  pub inside : at + 2 * n ≤ bytes
  pub short : Addressable bytes
  pub before : (frame ≡ 1 → ⊥) → size ≤ at

-- the last of the n samples that stand there in the frame before; 0 before the first frame
unfoldable pub code_behind : Order → List ℕ → (frame at n size : ℕ) → ℕ
code_behind o s frame at n size = pick (eqb frame 1) 0 (number_at o 2 s (at - size + 2 * (n - 1)))

-- What each lists: a frame, and a recording

abbrev pub of_frame : List ℕ → (i j : ℕ) → Answer Chosen → List Entry
of_frame s i j (refusal n p) = []
of_frame s i j (value r) = each_of (channel_entries s i j) 0 r.this.recording.channels

abbrev pub of_recording : List ℕ → ℕ → Answer Chosen → List Entry
of_recording s i (refusal n p) = []
of_recording s i (value r) = recording_entries s i r.this.recording

-- where frame j of the recording with the places q stands
abbrev pub frame_from : Places → ℕ → ℕ
frame_from q j = q.frames + 32 + q.frame * (j - 1)

-- channel c, from 0, of a frame of an accepted file, whose samples stand at byte `at`; k numbers are there
pub record ChannelAhead (o : Order) (s : List ℕ) (q : Places) (x : Spot) (c at k : ℕ) : Type 0 where
  -- the frame
  pub frame : ChosenFrame
  pub stands : FrameStands s x.recording x.frame o q (frame_from q x.frame) frame
  -- the channel
  pub inside : c < q.count
  pub channel : x.channel ≡ suc c
  -- its samples
  pub place : at ≡ frame_from q x.frame + (24 + R.sample_bytes q.seconds (take c frame.of.this.recording.channels))
  -- at most an entry each
  pub room : (y : R.Channel) → indexed frame.of.this.recording.channels c ≡ value y → Addressable (k + 5 * R.samples_in q.seconds y)

-- its entries, and where the samples of the next channel stand; the recording is r, and the channel y
pub record ChannelListed (s : List ℕ) (x : Spot) (c at : ℕ) (write : Bool) (out out' : List ℤ) (k : ℕ) (p : Passed) : Type 0 where
  pub behind : (r : Chosen) (y : R.Channel) → recording_of s x.recording ≡ value r → indexed r.this.recording.channels c ≡ value y →
      p.at ≡ at + R.samples_in r.this.recording.seconds y * R.width y.format
  pub wrote : (r : Chosen) (y : R.Channel) → recording_of s x.recording ≡ value r → indexed r.this.recording.channels c ≡ value y →
      Wrote numbers 5 write out out' k p.k (channel_entries s x.recording x.frame (suc c) y)

-- the channels of events of the recording with the places q lie in this stretch
pub record StretchOf (o : Order) (s : List ℕ) (q : Places) (e : Stretch) : Type 0 where
  pub first : FirstEvents o s (q.channels + 32) q.count e.first
  pub end : BehindEvents o s (q.channels + 32) q.count e.end
  pub before : (cs : List R.Channel) → length cs ≡ e.first → Kept o s (q.channels + 32) cs → e.before ≡ R.sample_bytes q.seconds cs

-- frame j of recording i of an accepted file
pub record FrameAhead (o : Order) (s : List ℕ) (q : Places) (e : Stretch) (i j k : ℕ) : Type 0 where
  pub frame : ChosenFrame
  pub stands : FrameStands s i j o q (frame_from q j) frame
  pub stretch : StretchOf o s q e
  -- at most an entry for each byte of its samples
  pub room : Addressable (k + 5 * R.sample_bytes q.seconds frame.of.this.recording.channels)

-- recording i of an accepted file
pub record RecordingAhead (o : Order) (s : List ℕ) (q : Places) (i k : ℕ) : Type 0 where
  pub recording : Chosen
  pub found : FoundIn s i o q recording
  pub room : Addressable (k + 5 * (q.total * R.sample_bytes q.seconds recording.this.recording.channels))

-- an accepted file, and what its header says
pub record FileAhead (o : Order) (l : Label) (s : List ℕ) (n : ℕ) : Type 0 where
  pub header : FileHeader
  pub accepted : AcceptedAs s header
  pub order : o ≡ header.order
  pub label : l ≡ header.heading.label
  pub count : n ≡ header.count
