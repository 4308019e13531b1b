-- The canonical file of a contents, as events: what document 01 calls canonical, a line for a line.
-- Assumes nothing.
use Rattle.std.specs.Prelude.{◌≡◌, Bool, true, false, List, [], ◌∷◌, ◌++◌, map, ℕ, suc, ◌+◌, ◌*◌, ◌-◌, ◌/◌, ◌%◌, leb, ltb, length, replicate}
use Rattle.words.specs.Numbers.{letter_of}
use Rattle.words.specs.declared.Order.{Order}
use Rattle.words.specs.declared.Order.TheVariants.{Little}
use Rattle.walk.specs.Walk.{Letter, Text, Padding, Event, numeral, piece, blank, row, size, refused, passed, render}
use Rattle.rules.specs.Reading.{Reading, reading}
use Rattle.rules.specs.Words.{words_of}
pub use Rattle.rules.specs.CanonicalForm.{most, shares}
use Rattle.rules.specs.Rules.{spelled, versioned, formed, Label, Heading, Head, span, Basic, Sub, Group, channels_group, montage_group, Channel, Item, item_bytes, width, sample_bytes, Frame, Maker, Recording, Contents, File, judge}

-- The size and the multiplier of a record of n bytes: multiplier 0 where n fits, else the smallest that serves

unfoldable pub multiplier_for : ℕ → ℕ
multiplier_for n = elim (leb n most) [ true ↦ 0 | false ↦ shares n most ]

unfoldable pub size_for : ℕ → ℕ
size_for n = elim (leb n most) [ true ↦ n | false ↦ shares n (multiplier_for n) ]

-- a reserve of n bytes, and padding of n bytes: all zero
abbrev pub blanks : ℕ → Event
blanks n = blank (replicate n 0)

abbrev pub zeroes : ℕ → Event
zeroes n = piece Padding (replicate n 0)

-- a record's first 16 bytes; behind them it is listed
abbrev pub numerals : Head → List Event
numerals h = numeral 4 h.size ∷ numeral 4 h.code ∷ numeral 4 h.serial ∷ numeral 4 h.multiplier ∷ []

abbrev pub row_of : Head → Event
row_of h = row 16 (span h) h.code h.serial

-- n bytes long, with multiplier 0; or with the smallest multiplier that n wants
abbrev pub plain_head : ℕ → ℕ → ℕ → Head
plain_head n code serial = record { size = n; code = code; serial = serial; multiplier = 0 }

abbrev pub sized_head : ℕ → ℕ → ℕ → Head
sized_head n code serial = record { size = size_for n; code = code; serial = serial; multiplier = multiplier_for n }

-- a record from its head and its body's events
unfoldable pub record_of : Head → List Event → List Event
record_of h body = numerals h ++ (row_of h ∷ body)

-- 100

unfoldable pub basic_fields : Basic → List Event
basic_fields b =
    numeral 4 1 ∷ numeral 4 b.channels ∷ numeral 4 b.frames ∷ blanks 4 ∷ numeral 4 b.year ∷ numeral 4 b.month ∷ numeral 4 b.day ∷
    numeral 4 b.hour ∷ numeral 4 b.minute ∷ numeral 4 b.second ∷ piece Text b.time ∷ numeral 4 b.mains ∷ blanks 16 ∷ piece Text b.comment ∷ []

-- 120, 320 and 350, and their subs

-- a number of 4 bytes where it is a field; else reserve
unfoldable pub field_event : Bool → ℕ → Event
field_event true n = numeral 4 n
field_event false n = blanks 4

unfoldable pub channel_fields : Sub → Channel → List Event
channel_fields k c =
    numeral 4 c.channel ∷ numeral 4 c.flags ∷ numeral 4 c.type ∷ numeral 4 c.format ∷ numeral 4 c.rate ∷ numeral 4 c.cal ∷ numeral 4 c.cal_ad ∷
    numeral 4 c.offset_ad ∷ numeral 4 c.offset_cal ∷ field_event k.calibrated c.cal_frequency ∷ numeral 4 c.low_cut ∷ numeral 4 c.high_cut ∷
    field_event k.calibrated c.sensitivity ∷ blanks 4 ∷ piece Text c.label ∷ piece Text c.unit ∷ field_event k.wired c.g1 ∷
    field_event k.wired c.g2 ∷ blanks 84 ∷ piece Text c.comment ∷ []

unfoldable pub channel_events : Sub → ℕ → List Channel → List Event
channel_events k i [] = []
channel_events k i (c ∷ cs) = record_of (plain_head 256 k.code i) (channel_fields k c) ++ channel_events k (suc i) cs

abbrev pub channels_head : Group → List Channel → Head
channels_head g cs = plain_head (32 + 256 * length cs) g.code 0

unfoldable pub channels_written : Group → List Channel → List Event
channels_written g cs = numeral 4 (length cs) ∷ numeral 4 256 ∷ blanks 8 ∷ channel_events g.sub 1 cs

-- 130 and 200

unfoldable pub item_events : List Item → List Event
item_events [] = []
item_events (i ∷ is) = numeral 4 (8 + length i.content) ∷ numeral 4 i.code ∷ piece Text i.content ∷ item_events is

abbrev pub items_head : ℕ → List Item → Head
items_head code is = plain_head (24 + item_bytes is) code 0

unfoldable pub items_written : List Item → List Event
items_written is = numeral 4 (length is) ∷ blanks 4 ∷ item_events is

-- 140 and 145

unfoldable pub sample_events : List Channel → List (List ℕ) → List Event
sample_events [] ss = []
sample_events (c ∷ cs) [] = []
sample_events (c ∷ cs) (s ∷ ss) = map (numeral (width c.format)) s ++ sample_events cs ss

unfoldable pub frame_written : List Channel → Frame → List Event
frame_written cs f = numeral 2 f.hour ∷ numeral 2 f.minute ∷ numeral 2 f.second ∷ blanks 2 ∷ (sample_events cs f.channels ++ (zeroes 0 ∷ []))

-- a frame's length, without padding
abbrev pub frame_size : ℕ → List Channel → ℕ
frame_size t cs = 24 + sample_bytes t cs

unfoldable pub frame_events : ℕ → List Channel → ℕ → List Frame → List Event
frame_events t cs i [] = []
frame_events t cs i (f ∷ fs) = record_of (plain_head (frame_size t cs) 145 i) (frame_written cs f) ++ frame_events t cs (suc i) fs

abbrev pub frames_bytes : ℕ → List Channel → List Frame → ℕ
frames_bytes t cs fs = 32 + length fs * frame_size t cs

abbrev pub frames_head : ℕ → List Channel → List Frame → Head
frames_head t cs fs = sized_head (frames_bytes t cs fs) 140 0

unfoldable pub frames_written : ℕ → List Channel → List Frame → List Event
frames_written t cs fs =
    numeral 4 t ∷ numeral 4 (frame_size t cs) ∷ numeral 4 (length fs) ∷ blanks 4 ∷ (frame_events t cs 1 fs ++ (zeroes (span (frames_head t cs fs) - frames_bytes t cs fs) ∷ []))

-- A maker's records, whole

unfoldable pub maker_events : List Maker → List Event
maker_events [] = []
maker_events (m ∷ ms) = record_of m.head (piece Text m.body ∷ []) ++ maker_events ms

-- A recording

-- a part that may be absent, with the maker's records behind it
unfoldable pub optional : Bool → List Event → List Event
optional true t = t
optional false t = []

abbrev pub delimiter_head : Head
delimiter_head = plain_head 0 0 0

unfoldable pub delimiter_events : List Event
delimiter_events = numerals delimiter_head ++ (row 16 16 0 0 ∷ [])

-- its 120 or 320, and its 350
abbrev pub channels_group_of : Label → Recording → Group
channels_group_of label r = channels_group label r.basic.channels

abbrev pub montage_group_of : Recording → Group
montage_group_of r = montage_group (length r.channels)

unfoldable pub content : Label → Recording → List Event
content label r =
    record_of (plain_head 128 100 0) (basic_fields r.basic) ++ (maker_events r.makers₁ ++
    (optional r.own_channels
    (record_of (channels_head (channels_group_of label r) r.channels) (channels_written (channels_group_of label r) r.channels) ++ maker_events r.makers₂) ++
    (optional r.own_patient (record_of (items_head 130 r.patient) (items_written r.patient) ++ maker_events r.makers₃) ++
    (optional r.own_events (record_of (items_head 200 r.events) (items_written r.events) ++ maker_events r.makers₄) ++
    (optional r.own_montage (record_of (channels_head (montage_group_of r) r.montage) (channels_written (montage_group_of r) r.montage) ++ maker_events r.makers₅) ++
    (record_of (frames_head r.seconds r.channels r.frames) (frames_written r.seconds r.channels r.frames) ++
    (maker_events r.makers₆ ++ delimiter_events)))))))

abbrev pub recording_head : Label → ℕ → Recording → Head
recording_head label i r = sized_head (16 + size (content label r)) 10 i

unfoldable pub recording_events : Label → ℕ → List Recording → List Event
recording_events label i [] = []
recording_events label i (r ∷ rs) =
    record_of (recording_head label i r) (content label r ++ (zeroes (span (recording_head label i r) - (16 + size (content label r))) ∷ [])) ++
    recording_events label (suc i) rs

-- The file

-- K without leading zeros, then spaces
unfoldable pub digits : ℕ → List ℕ
digits k = elim (ltb k 10) [ true ↦ (48 + k) ∷ 32 ∷ 32 ∷ 32 ∷ [] | false ↦ (48 + k / 10) ∷ (48 + k % 10) ∷ 32 ∷ 32 ∷ [] ]

unfoldable pub header_events : Heading → ℕ → List Event
header_events g k =
    piece Text (spelled g.spelling) ∷ piece Text (versioned g.label.version) ∷ piece Text (formed g.label.form) ∷ piece Letter (letter_of Little ∷ []) ∷
    piece Text (g.script ∷ []) ∷ piece Text (digits k) ∷ piece Text (replicate 10 32) ∷ []

unfoldable pub anew : Contents → List Event
anew v = header_events v.heading (length v.recordings) ++ recording_events v.heading.label 1 v.recordings

-- the canonical file of a reading, as events
abbrev pub canonical : Reading → List Event
canonical v = anew (words_of v)

-- the canonical file of a file, in an order
unfoldable pub rewritten : Order → List ℕ → List ℕ
rewritten o s = elim (judge s) [ refused n p ↦ [] | passed v r t ↦ render o (canonical (reading v)) ]

-- a file that is canonical for a reading: it is accepted, its reading is that one, and its events are those that the reading asks for
pub record Canonical (v : Reading) (s : List ℕ) : Type 0 where
  pub file : File
  pub judged : judge s ≡ passed file [] (canonical v)
  pub same : reading file ≡ v
