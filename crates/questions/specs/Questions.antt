-- The answer to each question about a file, by the rules' outcome for the file: its refusal, then 19 outside a range, then the values of the
-- reading and where they stand.
-- Assumes nothing.
use Rattle.std.specs.Prelude.{List, [], ℕ, ◌+◌, ◌-◌, ◌*◌, length, take}
use Rattle.words.specs.declared.Order.{Order}
use Rattle.walk.specs.Walk.{pick, Outcome, refused, passed}
use Rattle.rules.specs.Rules as R
use Rattle.rules.specs.declared.Label.{Label}
use Rattle.records.specs.declared.items.Holder.{Holder}
use Rattle.recordings.specs.Answers.{Answer, value, refusal, ◌>>=◌, indexed, numbered}
use Rattle.recordings.specs.Recordings.{Chosen, recording_of, start_of, at120, at130}
use Rattle.recordings.specs.declared.Counts.{Counts}
use Rattle.samples.specs.Frames.{frame_of, time_of, samples_of, number_in}
use Rattle.samples.specs.declared.Number.{Number}
use Rattle.samples.specs.declared.Time.{Time}
use Rattle.questions.specs.Values.{descriptor_of, wired_of, entry_of}
use Rattle.questions.specs.declared.channels.Descriptor.{Descriptor}
use Rattle.questions.specs.declared.channels.Wired.{Wired}
use Rattle.questions.specs.declared.headers.Header.{Header}
use Rattle.questions.specs.declared.items.Entry.{Entry}

-- the number of a version's digits, and of a form's
abbrev pub version_number : Label → ℕ
version_number label = R.count_is (R.decimal 0 (R.versioned label.version))

abbrev pub form_number : Label → ℕ
form_number label = R.count_is (R.decimal 0 (R.formed label.form))

-- the header of a file in this order, with these values and K recordings
abbrev pub header_in : Order → R.Heading → ℕ → Header
header_in o g k = record {
  spelling = g.spelling;
  version = version_number g.label;
  form = form_number g.label;
  order = o;
  script = g.script;
  recordings = k;
}

-- by the rules' outcome for a file in this order
abbrev pub header_told : Order → Outcome R.File → Answer Header
header_told o (refused n p) = refusal n p
header_told o (passed v r t) = value (header_in o v.heading (length v.recordings))

abbrev pub header_of : List ℕ → Answer Header
header_of s = header_told (R.order_of s) (R.judge s)

-- M, F and T

abbrev pub facts_of : List ℕ → ℕ → Answer Counts
facts_of s i = do
  r ← recording_of s i
  value (record { channels = length r.this.recording.channels; frames = length r.this.recording.frames; seconds = r.this.recording.seconds })

-- a channel that holds

abbrev pub channel_of : List ℕ → ℕ → ℕ → Answer Descriptor
channel_of s i j = do
  r ← recording_of s i
  c ← numbered r.this.recording.channels j
  value (descriptor_of c (at120 r + (32 + 256 * (j - 1))))

-- the channels of a recording's own montage: 0 where it has none; and one of them

abbrev pub montage_count_of : List ℕ → ℕ → Answer ℕ
montage_count_of s i = recording_of s i >>= λ r. value (length r.this.recording.montage)

abbrev pub montage_of : List ℕ → ℕ → ℕ → Answer Wired
montage_of s i j = do
  r ← recording_of s i
  c ← numbered r.this.recording.montage j
  value (wired_of c (start_of r + r.this.layout.at350 + (32 + 256 * (j - 1))))

-- the items of a 130 or a 200, and where it stands

abbrev pub items_of : Holder → Chosen → List R.Item
items_of Holder.Patient r = r.this.recording.patient
items_of Holder.Event r = pick r.this.recording.own_events r.this.recording.events []

abbrev pub items_at : Holder → Chosen → ℕ
items_at Holder.Patient r = at130 r
items_at Holder.Event r = start_of r + r.this.layout.at200

-- an item of the record at p with these items
unfoldable pub item_in : List R.Item → ℕ → ℕ → Answer Entry
item_in is p j = numbered is j >>= λ x. value (entry_of x (p + (24 + R.item_bytes (take (j - 1) is))))

abbrev pub item_of : Holder → List ℕ → ℕ → ℕ → Answer Entry
item_of k s i j = recording_of s i >>= λ r. item_in (items_of k r) (items_at k r) j

abbrev pub patient_item_of : List ℕ → ℕ → ℕ → Answer Entry
patient_item_of = item_of Holder.Patient

abbrev pub event_item_of : List ℕ → ℕ → ℕ → Answer Entry
event_item_of = item_of Holder.Event

-- the clock time of a frame

abbrev pub clock_of : List ℕ → ℕ → ℕ → Answer Time
clock_of s i j = frame_of s i j >>= λ f. value (time_of f.frame)

-- a sample of a channel in a frame

abbrev pub sample_of : List ℕ → ℕ → ℕ → ℕ → ℕ → Answer Number
sample_of s i j k n = do
  x ← samples_of s i j k
  v ← indexed x.values n
  value (number_in v)
