-- The values of the answers, by what the walk of the rules gives and where it stands.
-- Assumes nothing.
use Rattle.std.specs.Prelude.{◌≡◌, Bool, true, cond, ◌||◌, not, List, ℕ, ◌+◌, ◌≤◌, eqb, ℤ, pos, length}
use Rattle.words.specs.declared.Order.{Order}
use Rattle.words.specs.Numbers.{number_at}
use Rattle.words.specs.Floats.{nan_pattern, float_of, bits_of}
use Rattle.words.specs.Values.{signed, unsigned}
use Rattle.walk.specs.Walk.{pick}
use Rattle.walk.specs.See.{see, goes}
use Rattle.rules.specs.Rules as R
use Rattle.rules.specs.Reading.{channel_reading, item_reading}
use Rattle.questions.specs.declared.channels.Calibration.{Calibration}
use Rattle.questions.specs.declared.channels.Descriptor.{Descriptor}
use Rattle.questions.specs.declared.channels.Text.{Text}
use Rattle.questions.specs.declared.channels.Wired.{Wired}
use Rattle.questions.specs.declared.items.Entry.{Entry}

-- Calibration: CAL, CAL AD, Offset AD and Offset CAL

-- whether one of four words is a NaN's pattern
unfoldable pub some_nan : (cal cal_ad offset_ad offset_cal : ℕ) → Bool
some_nan a b c d = nan_pattern a || (nan_pattern b || (nan_pattern c || nan_pattern d))

-- four floats; their patterns where one of them is a NaN's
unfoldable pub floats_of : (cal cal_ad offset_ad offset_cal : ℕ) → Calibration
floats_of a b c d = cond (some_nan a b c d) (Calibration.Patterns a b c d) (Calibration.Floats (float_of a) (float_of b) (float_of c) (float_of d))

-- four floats when the format is 4, else four whole numbers
unfoldable pub calibration_of : (format cal cal_ad offset_ad offset_cal : ℕ) → Calibration
calibration_of format a b c d = pick (eqb format 4) (floats_of a b c d) (Calibration.Numbers (signed 4 a) (signed 4 b) (signed 4 c) (signed 4 d))

-- those of the sub at byte p of s
abbrev pub calibration_at : Order → List ℕ → ℕ → ℕ → Calibration
calibration_at o s p format = calibration_of format (number_at o 4 s (p + 36)) (number_at o 4 s (p + 40)) (number_at o 4 s (p + 44)) (number_at o 4 s (p + 48))

-- the 32 bits of each of the four
pub record Words : Type 0 where
  -- CAL
  pub cal : ℕ
  -- CAL AD
  pub cal_ad : ℕ
  -- Offset AD
  pub offset_ad : ℕ
  -- Offset CAL
  pub offset_cal : ℕ

abbrev pub words_of : Calibration → Words
words_of (Calibration.Floats a b c d) = record { cal = bits_of a; cal_ad = bits_of b; offset_ad = bits_of c; offset_cal = bits_of d }
words_of (Calibration.Numbers a b c d) = record { cal = unsigned 4 a; cal_ad = unsigned 4 b; offset_ad = unsigned 4 c; offset_cal = unsigned 4 d }
words_of (Calibration.Patterns a b c d) = record { cal = a; cal_ad = b; offset_ad = c; offset_cal = d }

abbrev pub text_at : ℕ → ℕ → Text
text_at at n = record { at = at; length = n }

-- a channel whose sub stands at p: its reading, with each text's place
unfoldable pub descriptor_of : R.Channel → ℕ → Descriptor
descriptor_of c p = record {
  number = (channel_reading c).channel;
  flags = (channel_reading c).flags;
  kind = (channel_reading c).type;
  format = (channel_reading c).format;
  rate = (channel_reading c).rate;
  calibration = calibration_of c.format c.cal c.cal_ad c.offset_ad c.offset_cal;
  frequency = (channel_reading c).cal_frequency;
  low_cut = (channel_reading c).low_cut;
  high_cut = (channel_reading c).high_cut;
  sensitivity = (channel_reading c).sensitivity;
  label = text_at (p + 72) 16;
  unit = text_at (p + 88) 16;
  comment = text_at (p + 196) 60;
}

-- the descriptor r is that of the channel that a walk gives at p
abbrev pub DescriptorAt : Order → List ℕ → ℕ → Descriptor → Type 0
DescriptorAt o s p r = (k : R.Sub) (room i : ℕ) (c : R.Channel) (e : ℕ) → k.calibrated ≡ not (eqb k.code 325) →
    see o 0 s p (R.channel k room i) ≡ goes c e → r ≡ descriptor_of c p

-- a field that an electrode does not have, of the sub at byte p of s: 0 for an electrode
unfoldable pub field_in : Order → List ℕ → ℕ → ℕ → ℤ
field_in o s p offset = pick (eqb (number_at o 4 s (p + 4)) 325) (pos 0) (signed 4 (number_at o 4 s (p + offset)))

-- the field at an offset of the sub at byte p ends in a file of n bytes
pub record FieldOf (p offset n : ℕ) : Type 0 where
  pub coded : p + 8 ≤ n
  pub inside : p + offset + 4 ≤ n

-- a montage's channel whose 355 stands at p, with its inputs
unfoldable pub wired_of : R.Channel → ℕ → Wired
wired_of c p = record { channel = descriptor_of c p; g1 = (channel_reading c).g1; g2 = (channel_reading c).g2 }

abbrev pub WiredAt : Order → List ℕ → ℕ → Wired → Type 0
WiredAt o s p r = (k : R.Sub) (room i : ℕ) (c : R.Channel) (e : ℕ) → k.calibrated ≡ not (eqb k.code 325) → k.wired ≡ true →
    see o 0 s p (R.channel k room i) ≡ goes c e → r ≡ wired_of c p

-- an item that stands at p
abbrev pub entry_of : R.Item → ℕ → Entry
entry_of i p = record { code = (item_reading i).code; text = text_at (p + 8) (length i.content) }
