-- Answers taken apart into numbers. Whatever a refusal does not say is 0.
-- Assumes nothing.
use Rattle.rules.specs.declared.Refusal.{Refusal}
use Rattle.std.specs.Prelude.{Result, ◌≡◌, List, ℕ, pos, length, get_or}
use Rattle.words.specs.Floats.{bits_of}
use Rattle.words.specs.Numbers.{letter_of}
use Rattle.walk.specs.Walk.{Outcome, refused, passed}
use Rattle.rules.specs.Rules as R
use Rattle.rules.specs.declared.Spelling.{Spelling}
use Rattle.table.specs.Table as Table
use Rattle.permit.specs.Permit as Permit
use Rattle.recordings.specs.Answers.{Answer, value, refusal, meaning}
use Rattle.recordings.specs.declared.Counts.{Counts}
use Rattle.codes.specs.declared.EventKind.{EventKind}
use Rattle.samples.specs.declared.Number.{Number}
use Rattle.samples.specs.declared.Cut.{Cut}
use Rattle.samples.specs.declared.Place as Found
use Rattle.samples.specs.declared.Time.{Time}
use Rattle.samples.specs.declared.Track as Tracked
use Rattle.questions.specs.Values.{words_of}
use Rattle.questions.specs.declared.channels.Calibration.{Calibration}
use Rattle.questions.specs.declared.channels.Descriptor.{Descriptor}
use Rattle.questions.specs.declared.channels.Wired.{Wired}
use Rattle.questions.specs.declared.headers.Header as Asked
use Rattle.questions.specs.declared.items.Entry.{Entry}
use Rattle.answers.specs.declared.Channel.{Channel}
use Rattle.answers.specs.declared.Clock.{Clock}
use Rattle.answers.specs.declared.Counted.{Counted}
use Rattle.answers.specs.declared.Facts.{Facts}
use Rattle.answers.specs.declared.Header.{Header}
use Rattle.answers.specs.declared.Heading.{Heading}
use Rattle.answers.specs.declared.Item.{Item}
use Rattle.answers.specs.declared.Kind.{Kind}
use Rattle.answers.specs.declared.Montage.{Montage}
use Rattle.answers.specs.declared.Patterns.{Patterns}
use Rattle.answers.specs.declared.Part.{Part}
use Rattle.answers.specs.declared.Place.{Place}
use Rattle.answers.specs.declared.Sample.{Sample}
use Rattle.answers.specs.declared.Track.{Track}

-- a call that writes: the answer a is x, and its buffer holds xs afterwards
pub record Leaves {A : Type 0} (x : Counted) (xs : List A) (a : Counted) (out : List A) : Type 0 where
  pub answers : a ≡ x
  pub holds : out ≡ xs

abbrev pub counted : ℕ → Counted
counted n = record { refusal = 0; position = 0; count = n }

abbrev pub stopped : ℕ → ℕ → Counted
stopped n p = record { refusal = n; position = p; count = 0 }

abbrev pub counted_rows : Table.Answer → Counted
counted_rows (Table.rows n) = counted n
counted_rows (Table.refusal n p) = stopped n p

abbrev pub counted_bytes : Permit.Answer → Counted
counted_bytes (Permit.bytes n) = counted n
counted_bytes (Permit.refusal n p) = stopped n p

abbrev pub flat_count : Answer ℕ → Counted
flat_count (value n) = counted n
flat_count (refusal n p) = stopped n p

-- x is the answer a about rows, bytes or other things that were counted
pub record CountedAs (a : Result ℕ Refusal) (x : Counted) : Type 0 where
  pub values : x ≡ flat_count (meaning a)
  pub bytes : x ≡ counted_bytes (Permit.meaning a)
  pub rows : x ≡ counted_rows (Table.meaning a)

-- the letters of the order and of the script, and K
abbrev pub headed : ℕ → ℕ → ℕ → Header
headed o c k = record { refusal = 0; position = 0; order = o; script = c; recordings = k }

abbrev pub unheaded : ℕ → ℕ → Header
unheaded n p = record { refusal = n; position = p; order = 0; script = 0; recordings = 0 }

-- by the rules' outcome for the file s; byte 16 is the order's letter
abbrev pub flat_header : List ℕ → Outcome R.File → Header
flat_header s (refused n p) = unheaded n p
flat_header s (passed v r t) = headed (get_or s 16 0) v.heading.script (length v.recordings)

-- 0 as the standard spells it, 1 by the society's abbreviation
abbrev pub spelling_number : Spelling → ℕ
spelling_number Spelling.Spg = 0
spelling_number Spelling.Psg = 1

abbrev pub flat_heading : Answer Asked.Header → Heading
flat_heading (value x) = record {
  refusal = 0;
  position = 0;
  spelling = spelling_number x.spelling;
  version = x.version;
  form = x.form;
  order = letter_of x.order;
  script = x.script;
  recordings = x.recordings;
}
flat_heading (refusal n p) = record { refusal = n; position = p; spelling = 0; version = 0; form = 0; order = 0; script = 0; recordings = 0 }

abbrev pub flat_facts : Answer Counts → Facts
flat_facts (value x) = record { refusal = 0; position = 0; channels = x.channels; frames = x.frames; seconds = x.seconds }
flat_facts (refusal n p) = record { refusal = n; position = p; channels = 0; frames = 0; seconds = 0 }

-- four calibration numbers, 32 bits each, and whether they are floats
abbrev pub are_floats : Calibration → ℕ
are_floats (Calibration.Floats a b c d) = 1
are_floats (Calibration.Numbers a b c d) = 0
are_floats (Calibration.Patterns a b c d) = 1

abbrev pub patterns_of : Calibration → Patterns
patterns_of x = record {
  is_float = are_floats x;
  cal = (words_of x).cal;
  cal_ad = (words_of x).cal_ad;
  offset_ad = (words_of x).offset_ad;
  offset_cal = (words_of x).offset_cal;
}

abbrev pub flat_channel : Answer Descriptor → Channel
flat_channel (value x) = record {
  refusal = 0;
  position = 0;
  number = x.number;
  flags = x.flags;
  kind = x.kind;
  format = x.format;
  rate = x.rate;
  is_float = (patterns_of x.calibration).is_float;
  cal = (patterns_of x.calibration).cal;
  cal_ad = (patterns_of x.calibration).cal_ad;
  offset_ad = (patterns_of x.calibration).offset_ad;
  offset_cal = (patterns_of x.calibration).offset_cal;
  frequency = x.frequency;
  low_cut = x.low_cut;
  high_cut = x.high_cut;
  sensitivity = x.sensitivity;
  label = x.label.at;
  label_length = x.label.length;
  unit = x.unit.at;
  unit_length = x.unit.length;
  comment = x.comment.at;
  comment_length = x.comment.length;
}
flat_channel (refusal n p) = record {
  refusal = n;
  position = p;
  number = pos 0;
  flags = pos 0;
  kind = pos 0;
  format = pos 0;
  rate = pos 0;
  is_float = 0;
  cal = 0;
  cal_ad = 0;
  offset_ad = 0;
  offset_cal = 0;
  frequency = pos 0;
  low_cut = pos 0;
  high_cut = pos 0;
  sensitivity = pos 0;
  label = 0;
  label_length = 0;
  unit = 0;
  unit_length = 0;
  comment = 0;
  comment_length = 0;
}

-- with its inputs
abbrev pub flat_montage : Answer Wired → Montage
flat_montage (value x) = record { channel = flat_channel (value x.channel); g1 = x.g1; g2 = x.g2 }
flat_montage (refusal n p) = record { channel = flat_channel (refusal n p); g1 = pos 0; g2 = pos 0 }

abbrev pub flat_item : Answer Entry → Item
flat_item (value x) = record { refusal = 0; position = 0; code = x.code; text = x.text.at; text_length = x.text.length }
flat_item (refusal n p) = record { refusal = n; position = p; code = pos 0; text = 0; text_length = 0 }

abbrev pub flat_clock : Answer Time → Clock
flat_clock (value x) = record { refusal = 0; position = 0; hour = x.hour; minute = x.minute; second = x.second }
flat_clock (refusal n p) = record { refusal = n; position = p; hour = 0; minute = 0; second = 0 }

abbrev pub flat_place : Answer Found.Place → Place
flat_place (value p) = record { refusal = 0; position = 0; start = p.position; width = p.width; count = p.count }
flat_place (refusal n p) = record { refusal = n; position = p; start = 0; width = 0; count = 0 }

abbrev pub flat_track : Answer Tracked.Track → Track
flat_track (value x) = record {
  refusal = 0;
  position = 0;
  order = letter_of x.order;
  format = x.format;
  start = x.first.position;
  width = x.first.width;
  count = x.first.count;
  step = x.step;
  frames = x.frames;
  seconds = x.seconds;
}
flat_track (refusal n p) = record { refusal = n; position = p; order = 0; format = 0; start = 0; width = 0; count = 0; step = 0; frames = 0; seconds = 0 }

abbrev pub flat_part : Cut → Part
flat_part p = record { start = p.start; length = p.length }

abbrev pub flat_sample : Answer Number → Sample
flat_sample (value (Number.Whole z)) = record { refusal = 0; position = 0; is_float = 0; value = z; bits = 0 }
flat_sample (value (Number.Float v)) = record { refusal = 0; position = 0; is_float = 1; value = pos 0; bits = bits_of v }
flat_sample (value (Number.Pattern n)) = record { refusal = 0; position = 0; is_float = 1; value = pos 0; bits = n }
flat_sample (refusal n p) = record { refusal = n; position = p; is_float = 0; value = pos 0; bits = 0 }

-- the kinds of codes in the standard's order, a user's own, reserved
abbrev pub kind_number : EventKind → ℕ
kind_number EventKind.None = 0
kind_number EventKind.RecordingStart = 1
kind_number EventKind.RecordingEnd = 2
kind_number EventKind.CalibrationStart = 3
kind_number EventKind.CalibrationEnd = 4
kind_number EventKind.InstStart = 5
kind_number EventKind.InstEnd = 6
kind_number EventKind.SleepAllowed = 7
kind_number EventKind.WakeCall = 8
kind_number EventKind.LightsOut = 9
kind_number EventKind.LightsOn = 10
kind_number EventKind.MeasurementStopped = 11
kind_number EventKind.MeasurementResumed = 12
kind_number EventKind.User = 13
kind_number EventKind.Reserved = 14

abbrev pub flat_kind : Answer EventKind → Kind
flat_kind (value k) = record { refusal = 0; position = 0; kind = kind_number k }
flat_kind (refusal n p) = record { refusal = n; position = p; kind = 0 }
