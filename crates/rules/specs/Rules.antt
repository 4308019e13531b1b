-- The rules of the JSSR PSG common format 3.00, as document 01 fixes them: one walk over a file, front to back. It refuses with a number and a
-- place, or gives the file's reading. A walk knows no positions: the place of a refusal is said by how many bytes back it lies from where the walk stands.
-- Subtraction stops at 0, but no position is cut off by it: neither a refusal nor a row lies back more bytes than were read (theorem
-- `Positions.no-position-cut`).
-- Every number is read as an unsigned word; a field that document 01 judges lies in 0 to 2^31 - 1, so a negative one fails its test.
-- Assumes nothing.
use Rattle.std.specs.Prelude.{Bool, true, false, ◌&&◌, ◌||◌, not, List, [], ◌∷◌, map, ℕ, zero, suc, ◌+◌, ◌*◌, ◌-◌, ◌/◌, ◌%◌, ◌^◌, max, leb, ltb, eqb, length, get_or}
use Rattle.std.proofs.Math.Option.{Option, none, some}
use Rattle.words.specs.Numbers.{letter_of}
use Rattle.words.specs.declared.Order.{Order}
use Rattle.words.specs.declared.Order.TheVariants.{Little, Big}
use Rattle.rules.specs.declared.Form.{Form}
use Rattle.rules.specs.declared.Form.TheVariants as Form
pub use Rattle.rules.specs.declared.Label.{Label}
use Rattle.rules.specs.declared.Spelling.{Spelling}
use Rattle.rules.specs.declared.Spelling.TheVariants as Spelling
use Rattle.rules.specs.declared.Version.{Version}
use Rattle.rules.specs.declared.Version.TheVariants as Version
use Rattle.walk.specs.Walk.{pick, Letter, Padding, Walk, give, refuse, check, number, read, skip, list, ◌>>=◌, ◌>>◌, Outcome, refused, passed, run, require, num, text, reserve}

-- one step each

-- a number of 4 bytes, or of w, that has to pass a test
abbrev pub field_of : ℕ → (ℕ → Bool) → Walk ℕ
field_of w ok = number w (λ v. check (ok v) 13 w (give v))

abbrev pub field : (ℕ → Bool) → Walk ℕ
field = field_of 4

-- the walk stands behind a field of 4 bytes: so many bytes back it lies
abbrev pub field_back : ℕ
field_back = 4

-- every byte is zero; the first that is not is refused at its place
unfoldable pub zeros : List ℕ → Walk (Unit {0})
zeros [] = give tt
zeros (b ∷ bs) = check (eqb b 0) 15 (suc (length bs)) (zeros bs)

unfoldable pub padding : ℕ → Walk (Unit {0})
padding n = read Padding n zeros

-- n walks, numbered from i, each with room for itself and the later ones: every one takes `step` bytes of the room
unfoldable pub series : {A : Type 0} → ℕ → ℕ → ℕ → ℕ → (ℕ → ℕ → Walk A) → Walk (List A)
unfolding ◌>>=◌
series zero i step room w = give []
series (suc n) i step room w = do
  a ← w room i
  rest ← series n (suc i) step (room - step) w
  give (a ∷ rest)

unfoldable pub between : ℕ → ℕ → ℕ → Bool
between low high n = leb low n && leb n high

abbrev pub limit : ℕ
limit = 2 ^ 31

-- The file header

unfoldable pub same_bytes : List ℕ → List ℕ → Bool
same_bytes [] [] = true
same_bytes [] (y ∷ ys) = false
same_bytes (x ∷ xs) [] = false
same_bytes (x ∷ xs) (y ∷ ys) = eqb x y && same_bytes xs ys

-- the eight bytes of a spelling: JSSR-SPG, JSSR-PSG
unfoldable pub spelled : Spelling → List ℕ
spelled Spelling.Spg = 74 ∷ 83 ∷ 83 ∷ 82 ∷ 45 ∷ 83 ∷ 80 ∷ 71 ∷ []
spelled Spelling.Psg = 74 ∷ 83 ∷ 83 ∷ 82 ∷ 45 ∷ 80 ∷ 83 ∷ 71 ∷ []

-- bytes that name the first of several things or one of the others, each with its text; and which
unfoldable pub is_one_of : {A : Type 0} → (A → List ℕ) → A → List A → List ℕ → Bool
is_one_of text a [] bs = same_bytes bs (text a)
is_one_of text a (b ∷ others) bs = same_bytes bs (text a) || is_one_of text b others bs

unfoldable pub one_of : {A : Type 0} → (A → List ℕ) → A → List A → List ℕ → A
one_of text a [] bs = a
one_of text a (b ∷ others) bs = pick (same_bytes bs (text a)) a (one_of text b others bs)

abbrev pub is_spelling : List ℕ → Bool
is_spelling = is_one_of spelled Spelling.Spg (Spelling.Psg ∷ [])

abbrev pub spelling_of : List ℕ → Spelling
spelling_of = one_of spelled Spelling.Spg (Spelling.Psg ∷ [])

-- the six bytes of a version: 000100, 000110, 000200, 000300
unfoldable pub versioned : Version → List ℕ
versioned Version.V100 = 48 ∷ 48 ∷ 48 ∷ 49 ∷ 48 ∷ 48 ∷ []
versioned Version.V110 = 48 ∷ 48 ∷ 48 ∷ 49 ∷ 49 ∷ 48 ∷ []
versioned Version.V200 = 48 ∷ 48 ∷ 48 ∷ 50 ∷ 48 ∷ 48 ∷ []
versioned Version.V300 = 48 ∷ 48 ∷ 48 ∷ 51 ∷ 48 ∷ 48 ∷ []

abbrev pub is_version : List ℕ → Bool
is_version = is_one_of versioned Version.V100 (Version.V110 ∷ Version.V200 ∷ Version.V300 ∷ [])

abbrev pub version_of : List ℕ → Version
version_of = one_of versioned Version.V100 (Version.V110 ∷ Version.V200 ∷ Version.V300 ∷ [])

-- what a version allows
pub record Allows : Type 0 where
  -- form 01
  pub electrodes : Bool
  -- script U
  pub unicode : Bool
  -- the largest multiplier of a record
  pub multiplier : ℕ
  -- type 20
  pub twenty : Bool
  -- the largest format of a channel's samples
  pub format : ℕ
  -- a recording without an event table of its own
  pub eventless : Bool

unfoldable pub allows : Version → Allows
allows Version.V100 = record { electrodes = false; unicode = false; multiplier = 0; twenty = false; format = 1; eventless = false }
allows Version.V110 = record { electrodes = false; unicode = false; multiplier = 0; twenty = true; format = 1; eventless = false }
allows Version.V200 = record { electrodes = true; unicode = false; multiplier = 0; twenty = true; format = 1; eventless = true }
allows Version.V300 = record { electrodes = true; unicode = true; multiplier = 128; twenty = true; format = 4; eventless = true }

abbrev pub allowed : Label → Allows
allowed label = allows label.version

abbrev pub most_of : Label → ℕ
most_of label = (allowed label).multiplier

-- the two bytes of a form: 00, channels; 01, electrodes
unfoldable pub formed : Form → List ℕ
formed Form.Channels = 48 ∷ 48 ∷ []
formed Form.Electrodes = 48 ∷ 49 ∷ []

abbrev pub is_form : Version → List ℕ → Bool
is_form v bs = same_bytes bs (formed Form.Channels) || ((allows v).electrodes && same_bytes bs (formed Form.Electrodes))

abbrev pub form_of : List ℕ → Form
form_of = one_of formed Form.Channels (Form.Electrodes ∷ [])

unfoldable pub all_spaces : List ℕ → Bool
all_spaces [] = true
all_spaces (b ∷ bs) = eqb b 32 && all_spaces bs

abbrev pub is_digit : ℕ → Bool
is_digit = between 48 57

-- digits, then only spaces; the value so far is v
unfoldable pub decimal : ℕ → List ℕ → Option ℕ
decimal v [] = some v
decimal v (b ∷ bs) = elim (is_digit b) [ true ↦ decimal (10 * v + (b - 48)) bs | false ↦ elim (all_spaces (b ∷ bs)) [ true ↦ some v | false ↦ none ] ]

-- 1 to 4 digits, then only spaces
unfoldable pub count_of : List ℕ → Option ℕ
count_of [] = none
count_of (b ∷ bs) = elim (is_digit b) [ true ↦ decimal 0 (b ∷ bs) | false ↦ none ]

abbrev pub count_fits : Option ℕ → Bool
count_fits none = false
count_fits (some k) = between 1 64 k

abbrev pub count_is : Option ℕ → ℕ
count_is none = 0
count_is (some k) = k

-- S, J, E or U
abbrev pub is_script : Version → ℕ → Bool
is_script v b = eqb b 83 || eqb b 74 || eqb b 69 || ((allows v).unicode && eqb b 85)

-- what the header says of the whole file, besides the order and K
pub record Heading : Type 0 where
  pub spelling : Spelling
  pub label : Label
  pub script : ℕ

pub record FileHeader : Type 0 where
  pub heading : Heading
  pub count : ℕ

unfoldable pub file_header : ℕ → Walk FileHeader
file_header size = do
  require (leb 32 size) 1 0
  id ← text 8
  require (is_spelling id) 2 8
  v ← text 6
  require (is_version v) 3 6
  f ← text 2
  require (is_form (version_of v) f) 4 2
  letter ← read Letter 1 give
  require (eqb (get_or letter 0 0) (letter_of Little)) 5 1
  script ← text 1
  require (is_script (version_of v) (get_or script 0 0)) 6 1
  digits ← text 4
  require (count_fits (count_of digits)) 7 4
  spaces ← text 10
  require (all_spaces spaces) 8 10
  give (record {
    heading = record { spelling = spelling_of id; label = record { version = version_of v; form = form_of f }; script = get_or script 0 0 };
    count = count_is (count_of digits);
  })

-- A record's first 16 bytes

pub record Head : Type 0 where
  pub size : ℕ
  pub code : ℕ
  pub serial : ℕ
  pub multiplier : ℕ

unfoldable pub length_of : ℕ → ℕ → ℕ
length_of size zero = size
length_of size (suc m) = size * suc m

abbrev pub span : Head → ℕ
span h = length_of h.size h.multiplier

-- there is room for a record's 16 bytes in what is left of the parent
unfoldable pub head : ℕ → Walk Head
head room = do
  require (leb 16 room) 10 0
  size ← num 4
  code ← num 4
  serial ← num 4
  multiplier ← num 4
  give (record { size = size; code = code; serial = serial; multiplier = multiplier })

-- the walk stands behind the head: so many bytes back lie the record's start, its code, its serial and its multiplier
abbrev pub start_back : ℕ
start_back = 16

abbrev pub code_back : ℕ
code_back = 12

abbrev pub serial_back : ℕ
serial_back = 8

abbrev pub multiplier_back : ℕ
multiplier_back = 4

abbrev pub coded : Head → ℕ → Walk (Unit {0})
coded h code = require (eqb h.code code) 9 code_back

-- the multiplier, the length and the serial; the record is then listed. `room` is counted from the record's start
unfoldable pub admit : ℕ → ℕ → (ℕ → Bool) → (ℕ → Bool) → Head → Walk (Unit {0})
admit room most fits serial h = do
  require (leb h.multiplier most) 11 multiplier_back
  require (ltb h.size limit && (fits (span h) && leb (span h) room)) 10 start_back
  require (serial h.serial) 12 serial_back
  list start_back (span h) h.code h.serial (give tt)

-- padding of n bytes is shorter than the multiplier, and none where that is 0
unfoldable pub padded : ℕ → ℕ → Bool
padded multiplier n = ltb n (max 1 multiplier)

abbrev pub pad_ok : Head → ℕ → Bool
pad_ok h n = padded h.multiplier n

-- What is fixed about each kind of record

pub record Rule : Type 0 where
  -- the codes that it may have
  pub code : ℕ → Bool
  -- the largest multiplier
  pub most : ℕ
  -- the length of a record with this multiplier
  pub fits : ℕ → ℕ → Bool
  -- the serial
  pub serial : ℕ → Bool

-- a fixed length and no multiplier
abbrev pub exactly : ℕ → ℕ → ℕ → Rule
exactly bytes code serial = record { code = λ c. eqb c code; most = 0; fits = λ _. eqb bytes; serial = eqb serial }

-- a least length, and a multiplier up to `most`
abbrev pub at_least : ℕ → ℕ → ℕ → ℕ → Rule
at_least bytes code most serial = record { code = λ c. eqb c code; most = most; fits = λ _. leb bytes; serial = eqb serial }

unfoldable pub maker_code : ℕ → Bool
maker_code c = leb 1024 c && ltb c limit

abbrev pub recording_rule : Label → ℕ → Rule
recording_rule label i = at_least 16 10 (most_of label) i

abbrev pub basic_rule : Rule
basic_rule = exactly 128 100 0

-- 120, 320 or 350, by the code; and 125, 325 or 355
abbrev pub channels_rule : ℕ → Rule
channels_rule code = at_least 32 code 0 0

abbrev pub channel_rule : ℕ → ℕ → Rule
channel_rule code i = exactly 256 code i

-- 130 or 200, by the code
abbrev pub items_rule : ℕ → Rule
items_rule code = at_least 24 code 0 0

abbrev pub frames_rule : Label → Rule
frames_rule label = at_least 32 140 (most_of label) 0

-- the length that 140 says, with samples that end at byte `filled`
abbrev pub frame_rule : Label → ℕ → ℕ → ℕ → Rule
frame_rule label size filled i = record {
  code = λ c. eqb c 145;
  most = most_of label;
  fits = λ multiplier n. eqb n size && padded multiplier (n - filled);
  serial = eqb i;
}

abbrev pub maker_rule : Label → Rule
maker_rule label = record { code = maker_code; most = most_of label; fits = λ _. leb 16; serial = λ _. true }

-- what every record meets but the delimiter
abbrev pub any_rule : Rule
any_rule = record { code = λ _. true; most = 128; fits = λ _. leb 16; serial = λ _. true }

abbrev pub coded_by : Rule → Head → Walk (Unit {0})
coded_by r h = require (r.code h.code) 9 code_back

abbrev pub admit_by : Rule → ℕ → Head → Walk (Unit {0})
admit_by r room h = admit room r.most (r.fits h.multiplier) r.serial h

-- a record with a body that its rule is all about: 100, and 125, 325 and 355
unfoldable pub fixed : {A : Type 0} → Rule → Walk A → ℕ → Walk A
fixed r body room = do
  h ← head room
  coded_by r h
  admit_by r room h
  body

-- 100

unfoldable pub leap : ℕ → Bool
leap y = eqb (y % 4) 0 && (not (eqb (y % 100) 0) || eqb (y % 400) 0)

unfoldable pub month_days : List ℕ
month_days = 31 ∷ 28 ∷ 31 ∷ 30 ∷ 31 ∷ 30 ∷ 31 ∷ 31 ∷ 30 ∷ 31 ∷ 30 ∷ 31 ∷ []

unfoldable pub days_in : ℕ → ℕ → ℕ
days_in y m = pick (eqb m 2 && leap y) 29 (get_or month_days (m - 1) 0)

-- 0 when the year is 0, else within the range
unfoldable pub dated : ℕ → ℕ → ℕ → Bool
dated y high n = pick (eqb y 0) (eqb n 0) (between 1 high n)

unfoldable pub is_mains : ℕ → Bool
is_mains n = eqb n 0 || eqb n 50 || eqb n 60

pub record Basic : Type 0 where
  pub channels : ℕ
  pub frames : ℕ
  pub year : ℕ
  pub month : ℕ
  pub day : ℕ
  pub hour : ℕ
  pub minute : ℕ
  pub second : ℕ
  pub time : List ℕ
  pub mains : ℕ
  pub comment : List ℕ

unfoldable pub basic_body : Walk Basic
basic_body = do
  _ ← field (eqb 1)
  channels ← field (between 1 128)
  frames ← field (between 1 1_000_000)
  reserve 4
  year ← field (λ y. leb y 9999)
  month ← field (dated year 12)
  day ← field (dated year (days_in year month))
  hour ← field (λ x. leb x 23)
  minute ← field (λ x. leb x 59)
  second ← field (λ x. leb x 59)
  time ← text 20
  mains ← field is_mains
  reserve 16
  comment ← text 32
  give (record {
    channels = channels;
    frames = frames;
    year = year;
    month = month;
    day = day;
    hour = hour;
    minute = minute;
    second = second;
    time = time;
    mains = mains;
    comment = comment;
  })

abbrev pub basic : ℕ → Walk Basic
basic = fixed basic_rule basic_body

-- 120 with 125, 320 with 325, and 350 with 355: channels, electrodes, and a montage's channels

-- what any of the three subs says; 0 for a field that it does not have
pub record Channel : Type 0 where
  -- an electrode's code in a 325
  pub channel : ℕ
  pub flags : ℕ
  pub type : ℕ
  pub format : ℕ
  pub rate : ℕ
  pub cal : ℕ
  pub cal_ad : ℕ
  pub offset_ad : ℕ
  pub offset_cal : ℕ
  pub cal_frequency : ℕ
  pub low_cut : ℕ
  pub high_cut : ℕ
  pub sensitivity : ℕ
  pub label : List ℕ
  pub unit : List ℕ
  -- the inputs of a montage's channel
  pub g1 : ℕ
  pub g2 : ℕ
  pub comment : List ℕ

-- what is fixed about each kind of sub
pub record Sub : Type 0 where
  pub code : ℕ
  -- the tests on the number, the type, the format, and the rate by flags and type
  pub number : ℕ → Bool
  pub type : ℕ → Bool
  pub format : ℕ → Bool
  pub rate : ℕ → ℕ → ℕ → Bool
  -- the calibration frequency and the sensitivity are fields, at 52 and 64; else reserve
  pub calibrated : Bool
  -- G1 and G2 are fields, at 104 and 108, with this test; else reserve
  pub wired : Bool
  pub input : ℕ → Bool

-- and about each kind of record that holds subs: its code, the test of its count beside record 100's, and its subs
pub record Group : Type 0 where
  pub code : ℕ
  pub counts : ℕ → Bool
  pub sub : Sub

unfoldable pub is_type : Version → ℕ → Bool
is_type v t = leb t 18 || ((allows v).twenty && eqb t 20)

-- 0 only with type OFF; else Hz, or microseconds when flag bit 0 is 1
unfoldable pub rate_ok : ℕ → ℕ → ℕ → Bool
rate_ok flags type rate =
    pick (eqb rate 0) (eqb type 0) (pick (eqb (flags % 2) 0) (leb rate 1_000_000) (ltb rate limit))

-- with so many electrodes: the high 16 bits are 0 to 3; where they are 0, the low 16 bits are 0, earth, or an electrode's serial
unfoldable pub is_input : ℕ → ℕ → Bool
is_input electrodes g = pick (eqb (g / 65536) 0) (leb (g % 65536) electrodes) (leb (g / 65536) 3)

abbrev pub anything : ℕ → Bool
anything n = true

abbrev pub channel_sub : Version → Sub
channel_sub v = record {
  code = 125;
  number = anything;
  type = is_type v;
  format = between 1 (allows v).format;
  rate = rate_ok;
  calibrated = true;
  wired = false;
  input = anything;
}

abbrev pub electrode_sub : Version → Sub
electrode_sub v = record {
  code = 325;
  number = λ n. ltb n limit;
  type = λ t. is_type v t || eqb t 101;
  format = between 1 (allows v).format;
  rate = rate_ok;
  calibrated = false;
  wired = false;
  input = anything;
}

abbrev pub montage_sub : ℕ → Sub
montage_sub electrodes = record {
  code = 355;
  number = anything;
  type = anything;
  format = anything;
  rate = λ _ _. anything;
  calibrated = true;
  wired = true;
  input = is_input electrodes;
}

-- 120 and 320, of as many channels as record 100 has; 350, over so many electrodes
abbrev pub channel_group : Version → ℕ → Group
channel_group v count = record { code = 120; counts = λ m. eqb m count; sub = channel_sub v }

abbrev pub electrode_group : Version → ℕ → Group
electrode_group v count = record { code = 320; counts = λ m. eqb m count; sub = electrode_sub v }

abbrev pub montage_group : ℕ → Group
montage_group electrodes = record { code = 350; counts = anything; sub = montage_sub electrodes }

-- 120 or 320, by the form
unfoldable pub channels_group : Label → ℕ → Group
channels_group label count = elim label.form [
  | Form.Channels ↦ channel_group label.version count
  | Form.Electrodes ↦ electrode_group label.version count
]

-- a number of 4 bytes where it is a field; else reserve, and 0
unfoldable pub field_if : Bool → (ℕ → Bool) → Walk ℕ
field_if true ok = field ok
field_if false ok = skip 4 (give 0)

unfoldable pub channel_body : Sub → Walk Channel
channel_body k = do
  n ← field k.number
  flags ← num 4
  type ← field k.type
  format ← field k.format
  rate ← field (k.rate flags type)
  cal ← num 4
  cal_ad ← num 4
  offset_ad ← num 4
  offset_cal ← num 4
  cal_frequency ← field_if k.calibrated anything
  low_cut ← num 4
  high_cut ← num 4
  sensitivity ← field_if k.calibrated anything
  reserve 4
  label ← text 16
  unit ← text 16
  g1 ← field_if k.wired k.input
  g2 ← field_if k.wired k.input
  reserve 84
  comment ← text 60
  give (record {
    channel = n;
    flags = flags;
    type = type;
    format = format;
    rate = rate;
    cal = cal;
    cal_ad = cal_ad;
    offset_ad = offset_ad;
    offset_cal = offset_cal;
    cal_frequency = cal_frequency;
    low_cut = low_cut;
    high_cut = high_cut;
    sensitivity = sensitivity;
    label = label;
    unit = unit;
    g1 = g1;
    g2 = g2;
    comment = comment;
  })

abbrev pub channel : Sub → ℕ → ℕ → Walk Channel
channel k room i = fixed (channel_rule k.code i) (channel_body k) room

-- the body of a 120, a 320 or a 350 of this length
unfoldable pub channels_body : Group → ℕ → Walk (List Channel)
channels_body g bytes = do
  m ← field (between 1 128)
  require (g.counts m) 14 field_back
  require (eqb bytes (32 + 256 * m)) 14 field_back
  _ ← field (eqb 256)
  reserve 8
  series m 1 256 (bytes - 32) (channel g.sub)

-- the rest of a 120, a 320 or a 350 whose head is read
unfoldable pub channels : Group → ℕ → Head → Walk (List Channel)
channels g room h = do
  admit_by (channels_rule g.code) room h
  channels_body g (span h)

-- the rest of a 350 whose head is read: in form 00 there is none
unfoldable pub montage : Label → List Channel → ℕ → Head → Walk (List Channel)
montage label electrodes room h = elim label.form [
  | Form.Channels ↦ refuse 9 code_back
  | Form.Electrodes ↦ channels (montage_group (length electrodes)) room h
]

-- 130 and 200

pub record Item : Type 0 where
  pub code : ℕ
  pub content : List ℕ

unfoldable pub keywords : List ℕ
keywords = 0 ∷ 1 ∷ 201 ∷ 210 ∷ 220 ∷ []

unfoldable pub is_in : ℕ → List ℕ → Bool
is_in n [] = false
is_in n (k ∷ ks) = eqb n k || is_in n ks

unfoldable pub patient_code : ℕ → Bool
patient_code c = is_in c keywords || between 11 14 c || between 21 26 c || between 101 107 c || between 301 399 c

-- 0, or 4096 to 65535 with bit 12 set
unfoldable pub event_code : ℕ → Bool
event_code c = eqb c 0 || (between 4096 65535 c && eqb (c / 4096 % 2) 1)

-- the walk stands behind an item's size and code: so many bytes back the item begins
abbrev pub item_back : ℕ
item_back = 8

unfoldable pub item : (ℕ → Bool) → ℕ → Walk Item
item ok room = do
  require (leb 8 room) 10 0
  size ← num 4
  code ← num 4
  require (leb 8 size && (ltb size limit && leb size room)) 10 item_back
  require (ok code) 13 field_back
  content ← text (size - 8)
  give (record { code = code; content = content })

abbrev pub item_size : Item → ℕ
item_size i = 8 + length i.content

unfoldable pub item_bytes : List Item → ℕ
item_bytes [] = 0
item_bytes (i ∷ is) = item_size i + item_bytes is

unfoldable pub item_list : (ℕ → Bool) → ℕ → ℕ → Walk (List Item)
item_list ok zero room = give []
item_list ok (suc n) room = do
  i ← item ok room
  rest ← item_list ok n (room - item_size i)
  give (i ∷ rest)

-- the body of a 130 or a 200 of this length
unfoldable pub items_body : (ℕ → Bool) → ℕ → Walk (List Item)
items_body ok bytes = do
  n ← field (λ n. leb n 256)
  reserve 4
  is ← item_list ok n (bytes - 24)
  require (eqb (24 + item_bytes is) bytes) 14 (8 + item_bytes is)
  give is

-- the rest of a 130 or a 200 whose head is read
unfoldable pub items : (ℕ → Bool) → ℕ → Head → Walk (List Item)
items ok room h = do
  admit_by (items_rule h.code) room h
  items_body ok (span h)

-- 140 and 145

unfoldable pub width : ℕ → ℕ
width format = pick (eqb format 1) 2 (pick (eqb format 2) 3 4)

-- samples of a channel in T seconds; by a period, as many as fit, rounded down
unfoldable pub samples_of : ℕ → ℕ → ℕ → ℕ
samples_of t flags rate = pick (eqb rate 0) 0 (pick (eqb (flags % 2) 0) (rate * t) (t * 1_000_000 / rate))

abbrev pub samples_in : ℕ → Channel → ℕ
samples_in t c = samples_of t c.flags c.rate

-- rate 0, or at least one sample
abbrev pub sampled : ℕ → Channel → Bool
sampled t c = eqb c.rate 0 || leb 1 (samples_in t c)

unfoldable pub all : {A : Type 0} → (A → Bool) → List A → Bool
all p [] = true
all p (a ∷ l) = p a && all p l

unfoldable pub sample_bytes : ℕ → List Channel → ℕ
sample_bytes t [] = 0
sample_bytes t (c ∷ cs) = samples_in t c * width c.format + sample_bytes t cs

unfoldable pub number_list : ℕ → ℕ → Walk (List ℕ)
number_list w zero = give []
number_list w (suc n) = do
  v ← num w
  rest ← number_list w n
  give (v ∷ rest)

unfoldable pub samples : ℕ → List Channel → Walk (List (List ℕ))
samples t [] = give []
samples t (c ∷ cs) = do
  s ← number_list (width c.format) (samples_in t c)
  rest ← samples t cs
  give (s ∷ rest)

pub record Frame : Type 0 where
  pub hour : ℕ
  pub minute : ℕ
  pub second : ℕ
  pub channels : List (List ℕ)

-- the body of a 145 of this length
unfoldable pub frame_body : ℕ → ℕ → List Channel → Walk Frame
frame_body size t cs = do
  hour ← field_of 2 (λ x. leb x 23)
  minute ← field_of 2 (λ x. leb x 59)
  second ← field_of 2 (λ x. leb x 59)
  reserve 2
  ss ← samples t cs
  padding (size - (24 + sample_bytes t cs))
  give (record { hour = hour; minute = minute; second = second; channels = ss })

unfoldable pub frame : Label → ℕ → ℕ → List Channel → ℕ → ℕ → Walk Frame
frame label size t cs room i = do
  let rule = frame_rule label size (24 + sample_bytes t cs) i
  h ← head room
  coded_by rule h
  admit_by rule room h
  frame_body size t cs

-- T and the frames, their length, and how many bytes of padding stand in the 140
pub record Frames : Type 0 where
  pub seconds : ℕ
  pub frames : List Frame
  pub size : ℕ
  pub padded : ℕ

-- the body of a 140 with this head
unfoldable pub frames_body : Label → Basic → List Channel → Head → Walk Frames
frames_body label b cs h = do
  t ← field (between 1 3600)
  require (all (sampled t) cs) 14 field_back
  let filled = 24 + sample_bytes t cs
  size ← num 4
  require (between filled (filled + 127) size && ltb size limit) 14 field_back
  n ← num 4
  require (eqb n b.frames) 14 field_back
  let used = 32 + n * size
  require (leb used (span h) && pad_ok h (span h - used)) 14 field_back
  reserve 4
  fs ← series n 1 size (span h - 32) (frame label size t cs)
  padding (span h - used)
  give (record { seconds = t; frames = fs; size = size; padded = n * (size - filled) + (span h - used) })

-- the rest of a 140 whose head is read. `own`: the recording has a 120 of its own; else 100's count of channels, so many bytes back, is tested
unfoldable pub frames : Label → Basic → Bool → List Channel → ℕ → ℕ → Head → Walk Frames
frames label b own cs back room h = do
  admit_by (frames_rule label) room h
  require (own || eqb (length cs) b.channels) 14 back
  frames_body label b cs h

-- A maker's own records, then the head of the next record and what room is left from its start

pub record Maker : Type 0 where
  pub head : Head
  pub body : List ℕ

pub record Next : Type 0 where
  pub makers : List Maker
  pub head : Head
  pub room : ℕ

abbrev pub more : Maker → Next → Next
more m n = record { makers = m ∷ n.makers; head = n.head; room = n.room }

unfoldable pub next : Label → ℕ → ℕ → Walk Next
next label zero room = refuse 0 0
next label (suc fuel) room = do
  h ← head room
  pick ((maker_rule label).code h.code) (do
    admit_by (maker_rule label) room h
    body ← text (span h - 16)
    n ← next label fuel (room - span h)
    give (more (record { head = h; body = body }) n)) (give (record { makers = []; head = h; room = room }))

-- A recording

pub record Recording : Type 0 where
  pub basic : Basic
  pub own_channels : Bool
  pub channels : List Channel
  pub own_patient : Bool
  pub patient : List Item
  pub own_events : Bool
  pub events : List Item
  pub own_montage : Bool
  pub montage : List Channel
  pub seconds : ℕ
  pub frames : List Frame
  -- behind 100, 120 or 320, 130, 200, 350 and 140
  pub makers₁ : List Maker
  pub makers₂ : List Maker
  pub makers₃ : List Maker
  pub makers₄ : List Maker
  pub makers₅ : List Maker
  pub makers₆ : List Maker

-- what a later recording takes over where it has none of its own
pub record Held : Type 0 where
  pub channels : List Channel
  pub patient : List Item

-- a part that may be absent: whether it is there, what holds, and what follows it
pub record Part (A : Type 0) : Type 0 where
  pub own : Bool
  pub value : A
  pub next : Next

-- a record with this code is read; without it the held value stands, or the record that stands here is refused
unfoldable pub part : {A : Type 0} → Label → ℕ → ℕ → (ℕ → Head → Walk A) → Option A → Next → Walk (Part A)
part label fuel code body held n =
    elim (eqb n.head.code code) [
      | true ↦ do
        a ← body n.room n.head
        m ← next label fuel (n.room - span n.head)
        give (record { own = true; value = a; next = m })
      | false ↦ elim held [
        | none ↦ refuse 9 code_back
        | some a ↦ give (record { own = false; value = a; next = record { makers = []; head = n.head; room = n.room } })
      ]
    ]

-- 200; where a version does not allow a recording without one, another record in its place is refused
unfoldable pub event_table : Label → ℕ → Next → Walk (Part (List Item))
event_table label fuel n = do
  require ((allowed label).eventless || eqb n.head.code 200) 9 code_back
  part label fuel 200 (items event_code) (some []) n

abbrev pub held_channels : Option Held → Option (List Channel)
held_channels none = none
held_channels (some h) = some h.channels

abbrev pub held_patient : Option Held → Option (List Item)
held_patient none = none
held_patient (some h) = some h.patient

abbrev pub content_limit : ℕ
content_limit = 137_438_953_472

-- a delimiter whose head is read
unfoldable pub delimiter : Head → Walk (Unit {0})
delimiter h = do
  coded h 0
  require (eqb h.multiplier 0) 11 multiplier_back
  require (eqb h.size 0) 10 start_back
  require (eqb h.serial 0) 12 serial_back
  list start_back 16 0 0 (give tt)

-- where it stands: the recording's length, how far into it 120 or 320, 130, 200, 350 and 140 stand (where one is absent: the record that stands
-- in its place), and its frames' length
pub record Layout : Type 0 where
  pub bytes : ℕ
  pub at120 : ℕ
  pub at130 : ℕ
  pub at200 : ℕ
  pub at350 : ℕ
  pub at140 : ℕ
  pub frame : ℕ

pub record Placed : Type 0 where
  pub recording : Recording
  pub layout : Layout

-- 100, the head behind it, and the records up to the 140, each of which may be absent
pub record Descriptions : Type 0 where
  pub basic : Basic
  pub next : Next
  pub channels : Part (List Channel)
  pub patient : Part (List Item)
  pub events : Part (List Item)
  pub montage : Part (List Channel)

-- of a recording of so many bytes; its 10 and its 100 take 16 and 128 of them
unfoldable pub descriptions : Label → Option Held → ℕ → Walk Descriptions
descriptions label held bytes = do
  b ← basic (bytes - 16)
  let g = channels_group label b.channels
  n ← next label bytes (bytes - 144)
  c ← part label bytes g.code (channels g) (held_channels held) n
  p ← part label bytes 130 (items patient_code) (held_patient held) c.next
  e ← event_table label bytes p.next
  m ← part label bytes 350 (montage label c.value) (some []) e.next
  give (record { basic = b; next = n; channels = c; patient = p; events = e; montage = m })

-- 100's count of channels stands 36 bytes into the recording: so many bytes back from behind the head of the 140, which has so much room
abbrev pub count_back : ℕ → ℕ → ℕ
count_back bytes room = bytes - room - 20

-- 140, the delimiter and the padding behind it, of a recording with this head
unfoldable pub signals : Label → Descriptions → Head → Walk Placed
signals label t h = do
  let bytes = span h
  let last = t.montage.next
  coded_by (frames_rule label) last.head
  f ← frames label t.basic t.channels.own t.channels.value (count_back bytes last.room) last.room last.head
  d ← next label bytes (last.room - span last.head)
  delimiter d.head
  let left = d.room - 16
  let used = bytes - left
  require (leb (used - f.padded) content_limit) 14 used
  require (pad_ok h left) 10 0
  padding left
  give (record {
    recording = record {
      basic = t.basic;
      own_channels = t.channels.own;
      channels = t.channels.value;
      own_patient = t.patient.own;
      patient = t.patient.value;
      own_events = t.events.own;
      events = t.events.value;
      own_montage = t.montage.own;
      montage = t.montage.value;
      seconds = f.seconds;
      frames = f.frames;
      makers₁ = t.next.makers;
      makers₂ = t.channels.next.makers;
      makers₃ = t.patient.next.makers;
      makers₄ = t.events.next.makers;
      makers₅ = t.montage.next.makers;
      makers₆ = d.makers;
    };
    layout = record {
      bytes = bytes;
      at120 = bytes - t.next.room;
      at130 = bytes - t.channels.next.room;
      at200 = bytes - t.patient.next.room;
      at350 = bytes - t.events.next.room;
      at140 = bytes - last.room;
      frame = f.size;
    };
  })

-- the body of a recording with this head
unfoldable pub recording_body : Label → Option Held → Head → Walk Placed
recording_body label held h = do
  t ← descriptions label held (span h)
  signals label t h

unfoldable pub recording : Label → Option Held → ℕ → ℕ → Walk Placed
recording label held room i = do
  h ← head room
  coded_by (recording_rule label i) h
  admit_by (recording_rule label i) room h
  recording_body label held h

unfoldable pub recordings : Label → ℕ → Option Held → ℕ → ℕ → Walk (List Placed)
recordings label zero held room i = give []
recordings label (suc n) held room i = do
  r ← recording label held room i
  rest ← recordings label n (some (record { channels = r.recording.channels; patient = r.recording.patient })) (room - r.layout.bytes) (suc i)
  give (r ∷ rest)

-- What a file holds, and where

pub record File : Type 0 where
  pub heading : Heading
  pub recordings : List Placed

-- A file's reading: the header's values, and of each of the K recordings which records it holds, all fields but size, multiplier, frame length
-- and reserve, all texts, all samples, and each maker's record whole

pub record Contents : Type 0 where
  pub heading : Heading
  pub recordings : List Recording

abbrev pub contents : File → Contents
contents v = record { heading = v.heading; recordings = map (λ p. p.recording) v.recordings }

unfoldable pub file : ℕ → Walk File
file size = do
  f ← file_header size
  rs ← recordings f.heading.label f.count none (size - 32) 1
  give (record { heading = f.heading; recordings = rs })

-- the order that the file's letter names; another letter is refused by the walk
unfoldable pub order_of : List ℕ → Order
order_of s = elim (eqb (get_or s 16 0) (letter_of Big)) [ true ↦ Big | false ↦ Little ]

-- nothing may be left behind recording K
unfoldable pub whole : ℕ → Outcome File → Outcome File
whole size (refused n p) = refused n p
whole size (passed v [] t) = passed v [] t
whole size (passed v (b ∷ r) t) = refused 16 (size - suc (length r))

unfoldable pub judge : List ℕ → Outcome File
judge s = whole (length s) (run (order_of s) 0 s (file (length s)))
