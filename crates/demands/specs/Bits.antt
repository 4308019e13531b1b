-- The numbers that C is answered, beside the file's bits and the values of its reading.
-- Assumes nothing.
use Rattle.std.specs.Prelude.{◌≡◌, List, ℕ, ◌+◌, ◌*◌, ◌≤◌, eqb, ℤ, pos, length}
use Rattle.words.specs.Numbers.{bytes_at, number_at}
use Rattle.words.specs.Values.{signed}
use Rattle.walk.specs.Walk.{pick}
use Rattle.rules.specs.Rules.{order_of, width}
use Rattle.rules.specs.Reading.{Value, whole, float, ChannelReading, Reading}
use Rattle.recordings.specs.Answers.{value}
use Rattle.samples.specs.Placed.{place_of, values_at}
use Rattle.samples.specs.declared.Place.{Place}
use Rattle.questions.specs.Tied.{channel_read, TextIs, format_in}
use Rattle.questions.specs.Values.{text_at}
use Rattle.answers.specs.declared.Channel.{Channel}
use Rattle.answers.specs.declared.Montage.{Montage}
use Rattle.answers.specs.declared.Part.{Part}
use Rattle.answers.specs.declared.Sample.{Sample}

-- the value that is answered: a float by its 32 bits, or a whole number
abbrev pub value_in : (is_float bits : ℕ) → ℤ → Value
value_in is_float bits z = pick (eqb is_float 1) (float bits) (whole z)

-- Calibration

-- the answered word is the one at byte p of the file, and means the value x of the reading
pub record WordIs (s : List ℕ) (p is_float word : ℕ) (x : Value) : Type 0 where
  pub bits : word ≡ number_at (order_of s) 4 s p
  pub means : x ≡ value_in is_float word (signed 4 word)

-- the calibration that is answered of channel j is that of the reading's channel c, and stands in its sub, which has this code
pub record CalibrationIs (s : List ℕ) (sub j : ℕ) (a : Channel) (c : ChannelReading) : Type 0 where
  -- where the sub stands: 72 bytes before the label, with its code and its serial, in the file
  pub at : ℕ
  pub label : a.label ≡ at + 72
  pub code : number_at (order_of s) 4 s (at + 4) ≡ sub
  pub serial : number_at (order_of s) 4 s (at + 8) ≡ j
  pub inside : at + 256 ≤ length s
  -- CAL, CAL AD, Offset AD and Offset CAL
  pub cal : WordIs s (at + 36) a.is_float a.cal c.cal
  pub cal_ad : WordIs s (at + 40) a.is_float a.cal_ad c.cal_ad
  pub offset_ad : WordIs s (at + 44) a.is_float a.offset_ad c.offset_ad
  pub offset_cal : WordIs s (at + 48) a.is_float a.offset_cal c.offset_cal
  -- floats exactly where the format is 4
  pub floats : a.format ≡ pos 4 → a.is_float ≡ 1
  pub numbers : (a.format ≡ pos 4 → ⊥) → a.is_float ≡ 0

-- what C is answered of channel j, in a sub with this code, is the reading's channel c
pub record ChannelIs (s : List ℕ) (sub j : ℕ) (a : Channel) (c : ChannelReading) : Type 0 where
  pub number : a.number ≡ c.channel
  pub flags : a.flags ≡ c.flags
  pub kind : a.kind ≡ c.type
  pub format : a.format ≡ c.format
  pub rate : a.rate ≡ c.rate
  pub frequency : a.frequency ≡ c.cal_frequency
  pub low_cut : a.low_cut ≡ c.low_cut
  pub high_cut : a.high_cut ≡ c.high_cut
  pub sensitivity : a.sensitivity ≡ c.sensitivity
  pub label : TextIs s (text_at a.label a.label_length) c.label
  pub unit : TextIs s (text_at a.unit a.unit_length) c.unit
  pub comment : TextIs s (text_at a.comment a.comment_length) c.comment
  pub calibration : CalibrationIs s sub j a c

-- what C is answered of channel j of a montage is the reading's channel c
pub record MontageIs (s : List ℕ) (j : ℕ) (a : Montage) (c : ChannelReading) : Type 0 where
  pub channel : ChannelIs s 355 j a.channel c
  pub g1 : a.g1 ≡ c.g1
  pub g2 : a.g2 ≡ c.g2

-- A sample

-- a float: its bits are the word at byte p of the file
pub record FloatAt (s : List ℕ) (p : ℕ) (a : Sample) : Type 0 where
  pub is_float : a.is_float ≡ 1
  pub bits : a.bits ≡ number_at (order_of s) 4 s p

-- a whole number: the signed one of w bytes there
pub record WholeNumberAt (s : List ℕ) (w p : ℕ) (a : Sample) : Type 0 where
  pub is_float : a.is_float ≡ 0
  pub number : a.value ≡ signed w (number_at (order_of s) w s p)

-- what is answered of sample n of channel k in frame j of recording i is the value x of the reading v, and stands n widths behind the place of the samples
pub record SampleIs (s : List ℕ) (v : Reading) (i j k n : ℕ) (a : Sample) (x : Value) : Type 0 where
  -- the value
  pub means : x ≡ value_in a.is_float a.bits a.value
  -- the channel
  pub channel : ChannelReading
  pub described : channel_read v i k ≡ value channel
  -- the place
  pub place : Place
  pub placed : place_of s i j k ≡ value place
  -- the file's word
  pub floats : format_in channel ≡ 4 → FloatAt s (place.position + 4 * n) a
  pub numbers : (format_in channel ≡ 4 → ⊥) → WholeNumberAt s (width (format_in channel)) (place.position + width (format_in channel) * n) a

-- the part a of the file is the samples vs that the reading v has of channel k of recording i
pub record SamplesAt (s : List ℕ) (v : Reading) (i k : ℕ) (a : Part) (vs : List Value) : Type 0 where
  -- the channel
  pub channel : ChannelReading
  pub described : channel_read v i k ≡ value channel
  -- in the file, and so many numbers of the format's width
  pub inside : a.start + a.length ≤ length s
  pub long : a.length ≡ width (format_in channel) * length vs
  -- read in the file's order
  pub shows : values_at (order_of s) (format_in channel) (length vs) (bytes_at a.length s a.start) 0 ≡ vs
