-- What each call that C and Rust link does with the file s: the contract of `psg_judge`, `psg_table` and the others, in this order. The answer a is
-- what the crate below says, taken apart; a call that writes finds a buffer that holds out and leaves it holding out'.
-- Assumes nothing.
use Rattle.std.specs.Prelude.{◌≡◌, List, ℕ, ℤ, length}
use Rattle.rules.specs.Rules as R
use Rattle.table.specs.Table as Table
use Rattle.turn.specs.Turn as Turn
use Rattle.rewrite.specs.Rewrite as Rewrite
use Rattle.room.specs.Room.{room_of}
use Rattle.codes.specs.Codes.{kind_told}
use Rattle.questions.specs.Questions.{header_of, facts_of, channel_of, montage_count_of, montage_of, patient_item_of, event_item_of, clock_of, sample_of}
use Rattle.samples.specs.Placed.{place_of, track_of, part_in}
use Rattle.index.specs.Index as Index
use Rattle.runs.specs.Runs as Runs
use Rattle.runs.specs.declared.Sibling.{Sibling}
use Rattle.answers.specs.Flat.{Leaves, counted_rows, counted_bytes, flat_header, flat_heading, flat_facts, flat_channel, flat_montage, flat_item, flat_clock, flat_count, flat_place, flat_part, flat_sample}
use Rattle.answers.specs.Flat.{flat_track, flat_kind}
use Rattle.answers.specs.declared.Channel.{Channel}
use Rattle.answers.specs.declared.Clock.{Clock}
use Rattle.answers.specs.declared.Counted.{Counted}
use Rattle.answers.specs.declared.Facts.{Facts}
use Rattle.answers.specs.declared.Header.{Header}
use Rattle.answers.specs.declared.Heading.{Heading}
use Rattle.answers.specs.declared.Item.{Item}
use Rattle.answers.specs.declared.Kind.{Kind}
use Rattle.answers.specs.declared.Montage.{Montage}
use Rattle.answers.specs.declared.Part.{Part}
use Rattle.answers.specs.declared.Place.{Place}
use Rattle.answers.specs.declared.Sample.{Sample}
use Rattle.answers.specs.declared.Track.{Track}

abbrev pub JudgeAnswers : List ℕ → Header → Type 0
JudgeAnswers s a = a ≡ flat_header s (R.judge s)

abbrev pub TableAnswers : List ℕ → List ℤ → List ℤ → Counted → Type 0
TableAnswers s out out' a = Leaves (counted_rows (Table.answer_of s (length out))) (Table.afterwards s out) a out'

abbrev pub TurnAnswers : List ℕ → List ℕ → List ℕ → Counted → Type 0
TurnAnswers s out out' a = Leaves (counted_bytes (Turn.answer_of s (length out))) (Turn.afterwards s out) a out'

-- c is the letter of the order asked for
abbrev pub RewriteAnswers : List ℕ → ℕ → List ℕ → List ℕ → Counted → Type 0
RewriteAnswers s c out out' a = Leaves (counted_bytes (Rewrite.answer_of s c (length out))) (Rewrite.afterwards s c out) a out'

-- so many bytes are enough for `psg_rewrite`
abbrev pub RoomAnswers : List ℕ → Counted → Type 0
RoomAnswers s a = a ≡ counted_bytes (room_of s)

-- the questions: about the header, and about recording i

abbrev pub HeaderAnswers : List ℕ → Heading → Type 0
HeaderAnswers s a = a ≡ flat_heading (header_of s)

abbrev pub FactsAnswers : List ℕ → ℕ → Facts → Type 0
FactsAnswers s i a = a ≡ flat_facts (facts_of s i)

abbrev pub ChannelAnswers : List ℕ → ℕ → ℕ → Channel → Type 0
ChannelAnswers s i j a = a ≡ flat_channel (channel_of s i j)

abbrev pub MontageCountAnswers : List ℕ → ℕ → Counted → Type 0
MontageCountAnswers s i a = a ≡ flat_count (montage_count_of s i)

abbrev pub MontageAnswers : List ℕ → ℕ → ℕ → Montage → Type 0
MontageAnswers s i j a = a ≡ flat_montage (montage_of s i j)

abbrev pub PatientItemAnswers : List ℕ → ℕ → ℕ → Item → Type 0
PatientItemAnswers s i j a = a ≡ flat_item (patient_item_of s i j)

abbrev pub EventItemAnswers : List ℕ → ℕ → ℕ → Item → Type 0
EventItemAnswers s i j a = a ≡ flat_item (event_item_of s i j)

abbrev pub ClockAnswers : List ℕ → ℕ → ℕ → Clock → Type 0
ClockAnswers s i j a = a ≡ flat_clock (clock_of s i j)

abbrev pub PlaceAnswers : List ℕ → ℕ → ℕ → ℕ → Place → Type 0
PlaceAnswers s i j k a = a ≡ flat_place (place_of s i j k)

abbrev pub TrackAnswers : List ℕ → ℕ → ℕ → Track → Type 0
TrackAnswers s i k a = a ≡ flat_track (track_of s i k)

-- the place of three numbers, in any file of n bytes
abbrev pub PartAnswers : (n position width count : ℕ) → Part → Type 0
PartAnswers n position width count a = a ≡ flat_part (part_in n (record { position = position; width = width; count = count }))

abbrev pub SampleAnswers : List ℕ → ℕ → ℕ → ℕ → ℕ → Sample → Type 0
SampleAnswers s i j k n a = a ≡ flat_sample (sample_of s i j k n)

-- the night events
abbrev pub IndexAnswers : List ℕ → List ℤ → List ℤ → Counted → Type 0
IndexAnswers s out out' a = Leaves (flat_count (Index.answer_of s (length out))) (Index.afterwards s out) a out'

-- n samples from the first on, by either call
abbrev pub RunAnswers : (b : Sibling) → List ℕ → (i j k first n : ℕ) → (out out' : List (Runs.Element b)) → Counted → Type 0
RunAnswers b s i j k first n out out' a = Leaves (flat_count (Runs.answer_of b s i j k first n (length out))) (Runs.afterwards b s i j k first n out) a out'

-- the code c, of no file
abbrev pub KindAnswers : ℕ → Kind → Type 0
KindAnswers c a = a ≡ flat_kind (kind_told c)
