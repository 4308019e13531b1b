-- A file's reading: the header's values, K, which records each recording holds, all fields but size, multiplier, frame length and reserve,
-- all texts, all samples as values, and each maker's record whole. A number means what document 01 says that it is: a signed whole number of
-- its width, an unsigned one in a frame's clock, or a float, which is its 32 bits.
-- Assumes nothing.
use Rattle.std.specs.Prelude.{Bool, List, [], ◌∷◌, map, ℕ, eqb, ℤ}
use Rattle.words.specs.Values.{signed}
use Rattle.walk.specs.Walk.{pick}
use Rattle.rules.specs.Rules.{Heading, Basic, Channel, Item, width, Frame, Maker, Recording, File, Contents, contents}

-- a sample or a calibration number: a whole number, or a float by its bits
pub data Value : Type 0 where
  whole : ℤ → Value
  float : ℕ → Value

-- what a word of w bytes means in a channel of this format
unfoldable pub value_of : ℕ → ℕ → ℕ → Value
value_of format w n = pick (eqb format 4) (float n) (whole (signed w n))

-- 100

pub record BasicReading : Type 0 where
  pub channels : ℤ
  pub frames : ℤ
  pub year : ℤ
  pub month : ℤ
  pub day : ℤ
  pub hour : ℤ
  pub minute : ℤ
  pub second : ℤ
  pub time : List ℕ
  pub mains : ℤ
  pub comment : List ℕ

abbrev pub basic_reading : Basic → BasicReading
basic_reading b = record {
  channels = signed 4 b.channels;
  frames = signed 4 b.frames;
  year = signed 4 b.year;
  month = signed 4 b.month;
  day = signed 4 b.day;
  hour = signed 4 b.hour;
  minute = signed 4 b.minute;
  second = signed 4 b.second;
  time = b.time;
  mains = signed 4 b.mains;
  comment = b.comment;
}

-- 125, 325 and 355: the four calibration numbers are four floats when the format is 4, else four whole numbers

pub record ChannelReading : Type 0 where
  pub channel : ℤ
  pub flags : ℤ
  pub type : ℤ
  pub format : ℤ
  pub rate : ℤ
  pub cal : Value
  pub cal_ad : Value
  pub offset_ad : Value
  pub offset_cal : Value
  pub cal_frequency : ℤ
  pub low_cut : ℤ
  pub high_cut : ℤ
  pub sensitivity : ℤ
  pub label : List ℕ
  pub unit : List ℕ
  pub g1 : ℤ
  pub g2 : ℤ
  pub comment : List ℕ

abbrev pub channel_reading : Channel → ChannelReading
channel_reading c = record {
  channel = signed 4 c.channel;
  flags = signed 4 c.flags;
  type = signed 4 c.type;
  format = signed 4 c.format;
  rate = signed 4 c.rate;
  cal = value_of c.format 4 c.cal;
  cal_ad = value_of c.format 4 c.cal_ad;
  offset_ad = value_of c.format 4 c.offset_ad;
  offset_cal = value_of c.format 4 c.offset_cal;
  cal_frequency = signed 4 c.cal_frequency;
  low_cut = signed 4 c.low_cut;
  high_cut = signed 4 c.high_cut;
  sensitivity = signed 4 c.sensitivity;
  label = c.label;
  unit = c.unit;
  g1 = signed 4 c.g1;
  g2 = signed 4 c.g2;
  comment = c.comment;
}

-- items

pub record ItemReading : Type 0 where
  pub code : ℤ
  pub content : List ℕ

abbrev pub item_reading : Item → ItemReading
item_reading i = record { code = signed 4 i.code; content = i.content }

-- 145: the samples of each channel, by its format

unfoldable pub samples_reading : List Channel → List (List ℕ) → List (List Value)
samples_reading [] ss = []
samples_reading (c ∷ cs) [] = []
samples_reading (c ∷ cs) (s ∷ ss) = map (value_of c.format (width c.format)) s ∷ samples_reading cs ss

pub record FrameReading : Type 0 where
  pub hour : ℕ
  pub minute : ℕ
  pub second : ℕ
  pub channels : List (List Value)

abbrev pub frame_reading : List Channel → Frame → FrameReading
frame_reading cs f = record {
  hour = f.hour;
  minute = f.minute;
  second = f.second;
  channels = samples_reading cs f.channels;
}

-- a maker's record

pub record MakerReading : Type 0 where
  pub size : ℤ
  pub code : ℤ
  pub serial : ℤ
  pub multiplier : ℤ
  pub body : List ℕ

abbrev pub maker_reading : Maker → MakerReading
maker_reading m = record {
  size = signed 4 m.head.size;
  code = signed 4 m.head.code;
  serial = signed 4 m.head.serial;
  multiplier = signed 4 m.head.multiplier;
  body = m.body;
}

-- a recording: its channels and patient items are those that hold for it

pub record RecordingReading : Type 0 where
  pub basic : BasicReading
  pub own_channels : Bool
  pub channels : List ChannelReading
  pub own_patient : Bool
  pub patient : List ItemReading
  pub own_events : Bool
  pub events : List ItemReading
  pub own_montage : Bool
  pub montage : List ChannelReading
  pub seconds : ℤ
  pub frames : List FrameReading
  -- behind 100, 120 or 320, 130, 200, 350 and 140
  pub makers₁ : List MakerReading
  pub makers₂ : List MakerReading
  pub makers₃ : List MakerReading
  pub makers₄ : List MakerReading
  pub makers₅ : List MakerReading
  pub makers₆ : List MakerReading

abbrev pub recording_reading : Recording → RecordingReading
recording_reading r = record {
  basic = basic_reading r.basic;
  own_channels = r.own_channels;
  channels = map channel_reading r.channels;
  own_patient = r.own_patient;
  patient = map item_reading r.patient;
  own_events = r.own_events;
  events = map item_reading r.events;
  own_montage = r.own_montage;
  montage = map channel_reading r.montage;
  seconds = signed 4 r.seconds;
  frames = map (frame_reading r.channels) r.frames;
  makers₁ = map maker_reading r.makers₁;
  makers₂ = map maker_reading r.makers₂;
  makers₃ = map maker_reading r.makers₃;
  makers₄ = map maker_reading r.makers₄;
  makers₅ = map maker_reading r.makers₅;
  makers₆ = map maker_reading r.makers₆;
}

-- the file

pub record Reading : Type 0 where
  pub heading : Heading
  pub recordings : List RecordingReading

abbrev pub reading_of : Contents → Reading
reading_of v = record { heading = v.heading; recordings = map recording_reading v.recordings }

abbrev pub reading : File → Reading
reading v = reading_of (contents v)
