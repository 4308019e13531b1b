-- The way back from a reading to the words of a file. Theorem `Rewrite.reading-words` says that they are the file's own: nothing here has to be believed.
-- Assumes nothing.
use Rattle.std.specs.Prelude.{List, [], ◌∷◌, map, ℕ}
use Rattle.words.specs.Values.{unsigned}
use Rattle.rules.specs.Reading.{Value, whole, float, BasicReading, ChannelReading, ItemReading, FrameReading, MakerReading, RecordingReading, Reading}
use Rattle.rules.specs.Rules.{Basic, Channel, Item, width, Frame, Maker, Recording, Contents}

-- the word of w bytes of a value
abbrev pub word_of : ℕ → Value → ℕ
word_of w (whole z) = unsigned w z
word_of w (float n) = n

abbrev pub basic_words : BasicReading → Basic
basic_words b = record {
  channels = unsigned 4 b.channels;
  frames = unsigned 4 b.frames;
  year = unsigned 4 b.year;
  month = unsigned 4 b.month;
  day = unsigned 4 b.day;
  hour = unsigned 4 b.hour;
  minute = unsigned 4 b.minute;
  second = unsigned 4 b.second;
  time = b.time;
  mains = unsigned 4 b.mains;
  comment = b.comment;
}

abbrev pub channel_words : ChannelReading → Channel
channel_words c = record {
  channel = unsigned 4 c.channel;
  flags = unsigned 4 c.flags;
  type = unsigned 4 c.type;
  format = unsigned 4 c.format;
  rate = unsigned 4 c.rate;
  cal = word_of 4 c.cal;
  cal_ad = word_of 4 c.cal_ad;
  offset_ad = word_of 4 c.offset_ad;
  offset_cal = word_of 4 c.offset_cal;
  cal_frequency = unsigned 4 c.cal_frequency;
  low_cut = unsigned 4 c.low_cut;
  high_cut = unsigned 4 c.high_cut;
  sensitivity = unsigned 4 c.sensitivity;
  label = c.label;
  unit = c.unit;
  g1 = unsigned 4 c.g1;
  g2 = unsigned 4 c.g2;
  comment = c.comment;
}

abbrev pub item_words : ItemReading → Item
item_words i = record { code = unsigned 4 i.code; content = i.content }

unfoldable pub samples_words : List Channel → List (List Value) → List (List ℕ)
samples_words [] ss = []
samples_words (c ∷ cs) [] = []
samples_words (c ∷ cs) (s ∷ ss) = map (word_of (width c.format)) s ∷ samples_words cs ss

abbrev pub frame_words : List Channel → FrameReading → Frame
frame_words cs f = record {
  hour = f.hour;
  minute = f.minute;
  second = f.second;
  channels = samples_words cs f.channels;
}

abbrev pub maker_words : MakerReading → Maker
maker_words m = record {
  head = record { size = unsigned 4 m.size; code = unsigned 4 m.code; serial = unsigned 4 m.serial; multiplier = unsigned 4 m.multiplier };
  body = m.body;
}

abbrev pub recording_words : RecordingReading → Recording
recording_words r = record {
  basic = basic_words r.basic;
  own_channels = r.own_channels;
  channels = map channel_words r.channels;
  own_patient = r.own_patient;
  patient = map item_words r.patient;
  own_events = r.own_events;
  events = map item_words r.events;
  own_montage = r.own_montage;
  montage = map channel_words r.montage;
  seconds = unsigned 4 r.seconds;
  frames = map (frame_words (map channel_words r.channels)) r.frames;
  makers₁ = map maker_words r.makers₁;
  makers₂ = map maker_words r.makers₂;
  makers₃ = map maker_words r.makers₃;
  makers₄ = map maker_words r.makers₄;
  makers₅ = map maker_words r.makers₅;
  makers₆ = map maker_words r.makers₆;
}

-- the words that a reading stands for
abbrev pub words_of : Reading → Contents
words_of v = record { heading = v.heading; recordings = map recording_words v.recordings }
