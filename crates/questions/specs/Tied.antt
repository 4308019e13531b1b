-- What a question asks for in the file's reading; and how an answer shows it: values are the reading's, the bytes that a text names are the reading's
-- text, and those of a place are, number by number, the reading's samples.
-- Assumes nothing.
use Rattle.std.specs.Prelude.{◌≡◌, List, [], ℕ, ◌+◌, ◌*◌, ◌≤◌, ◌<◌, pos, nat_abs, length}
use Rattle.words.specs.Numbers.{bytes_at}
use Rattle.walk.specs.Walk.{pick}
use Rattle.rules.specs.Rules.{order_of, width}
use Rattle.rules.specs.Reading.{Value, ChannelReading, ItemReading, FrameReading, RecordingReading, Reading}
use Rattle.records.specs.declared.items.Holder.{Holder}
use Rattle.recordings.specs.Answers.{Answer, value, refusal, ◌>>=◌, indexed, numbered}
use Rattle.recordings.specs.declared.Counts.{Counts}
use Rattle.samples.specs.Placed.{place_of, place_on, values_of}
use Rattle.samples.specs.declared.Place.{Place}
use Rattle.samples.specs.declared.Time.{Time}
use Rattle.samples.specs.declared.Track.{Track}
use Rattle.questions.specs.declared.channels.Descriptor.{Descriptor}
use Rattle.questions.specs.declared.channels.Text.{Text}
use Rattle.questions.specs.declared.channels.Wired.{Wired}
use Rattle.questions.specs.declared.items.Entry.{Entry}

-- In a reading: recordings, channels, items and frames from 1, samples from 0

abbrev pub recording_read : Reading → ℕ → Answer RecordingReading
recording_read v i = numbered v.recordings i

abbrev pub channel_read : Reading → ℕ → ℕ → Answer ChannelReading
channel_read v i j = recording_read v i >>= λ r. numbered r.channels j

-- of its own montage
abbrev pub montage_read : Reading → ℕ → ℕ → Answer ChannelReading
montage_read v i j = recording_read v i >>= λ r. numbered r.montage j

-- the patient items that hold; the event items of its own 200
abbrev pub items_read : Holder → RecordingReading → List ItemReading
items_read Holder.Patient r = r.patient
items_read Holder.Event r = pick r.own_events r.events []

abbrev pub item_read : Holder → Reading → ℕ → ℕ → Answer ItemReading
item_read k v i j = recording_read v i >>= λ r. numbered (items_read k r) j

abbrev pub frame_read : Reading → ℕ → ℕ → Answer FrameReading
frame_read v i j = recording_read v i >>= λ r. numbered r.frames j

-- of channel k in frame j
abbrev pub samples_read : Reading → ℕ → ℕ → ℕ → Answer (List Value)
samples_read v i j k = frame_read v i j >>= λ f. numbered f.channels k

abbrev pub sample_read : Reading → ℕ → ℕ → ℕ → ℕ → Answer Value
sample_read v i j k n = samples_read v i j k >>= λ vs. indexed vs n

-- an answer about the file, and what the reading has: values of which this holds, or one and the same refusal
pub data Alike {A B : Type 0} (Holds : A → B → Type 0) : Answer A → Answer B → Type 0 where
  values : {a : A} {b : B} → Holds a b → Alike Holds (value a) (value b)
  refusals : {n p : ℕ} → Alike Holds (refusal n p) (refusal n p)

-- M, F and T
pub record FactsAre (x : Counts) (r : RecordingReading) : Type 0 where
  pub channels : x.channels ≡ length r.channels
  pub frames : x.frames ≡ length r.frames
  pub seconds : pos x.seconds ≡ r.seconds

-- the channels of its own montage: none where it has none
abbrev pub MontageCountIs : ℕ → RecordingReading → Type 0
MontageCountIs n r = n ≡ length r.montage

-- the whole numbers of a channel
pub record NumbersAre (d : Descriptor) (c : ChannelReading) : Type 0 where
  pub number : d.number ≡ c.channel
  pub flags : d.flags ≡ c.flags
  pub kind : d.kind ≡ c.type
  pub format : d.format ≡ c.format
  pub rate : d.rate ≡ c.rate
  pub frequency : d.frequency ≡ c.cal_frequency
  pub low_cut : d.low_cut ≡ c.low_cut
  pub high_cut : d.high_cut ≡ c.high_cut
  pub sensitivity : d.sensitivity ≡ c.sensitivity

-- the part p of the file s is the text x
pub record TextIs (s : List ℕ) (p : Text) (x : List ℕ) : Type 0 where
  -- no byte of it beyond the file's end
  pub inside : p.at + p.length ≤ length s
  -- its bytes
  pub bytes : bytes_at p.length s p.at ≡ x

-- the texts of a channel
pub record TextsAre (s : List ℕ) (d : Descriptor) (c : ChannelReading) : Type 0 where
  pub label : TextIs s d.label c.label
  pub unit : TextIs s d.unit c.unit
  pub comment : TextIs s d.comment c.comment

-- a montage's channel: its descriptor, as that of a channel, and its inputs
pub record WiredIs (s : List ℕ) (w : Wired) (c : ChannelReading) : Type 0 where
  pub numbers : NumbersAre w.channel c
  pub texts : TextsAre s w.channel c
  pub g1 : w.g1 ≡ c.g1
  pub g2 : w.g2 ≡ c.g2

-- an item
pub record ItemIs (s : List ℕ) (e : Entry) (x : ItemReading) : Type 0 where
  pub code : e.code ≡ x.code
  pub text : TextIs s e.text x.content

-- the clock of a frame
pub record ClockIs (x : Time) (f : FrameReading) : Type 0 where
  pub hour : x.hour ≡ f.hour
  pub minute : x.minute ≡ f.minute
  pub second : x.second ≡ f.second

-- a channel's format, a number from 1 to 4
abbrev pub format_in : ChannelReading → ℕ
format_in c = nat_abs c.format

-- the place p of the samples of channel k of recording i in a frame, and the samples vs that the reading v has of them
pub record PlaceIs (s : List ℕ) (v : Reading) (i k : ℕ) (p : Place) (vs : List Value) : Type 0 where
  -- the channel
  pub channel : ChannelReading
  pub described : channel_read v i k ≡ value channel
  -- the bytes of one sample, and how many there are
  pub wide : p.width ≡ width (format_in channel)
  pub count : p.count ≡ length vs
  -- no byte of them beyond the file's end
  pub inside : p.position + p.width * p.count ≤ length s
  -- the bytes that `part` cuts there, read in the file's order, are the samples
  pub shows : values_of s (format_in channel) p ≡ vs

-- the track t of channel k of recording i, which the reading v has as c
pub record TrackIs (s : List ℕ) (v : Reading) (i k : ℕ) (t : Track) (c : ChannelReading) : Type 0 where
  -- the file's byte order, the channel's format, and the bytes of one sample
  pub order : t.order ≡ order_of s
  pub format : t.format ≡ format_in c
  pub wide : t.first.width ≡ width t.format
  -- F and T of the recording; T is not 0
  pub recording : RecordingReading
  pub held : recording_read v i ≡ value recording
  pub frames : t.frames ≡ length recording.frames
  pub seconds : pos t.seconds ≡ recording.seconds
  pub some : 1 ≤ t.seconds
  -- a frame has fewer samples than its length can count
  pub few : t.first.count < 2147483648
  -- in each frame they stand at the place that `place` answers
  pub places : (j : ℕ) → 1 ≤ j → j ≤ t.frames → place_of s i j k ≡ value (place_on t j)
