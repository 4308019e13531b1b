-- What each question answers, in one definition: its `ensures` cites it, and that there is one answer is proved of it.
-- Assumes nothing.
use Rattle.questions.specs.declared.items.Entry.{Entry}
use Rattle.questions.specs.declared.channels.Wired.{Wired}
use Rattle.questions.specs.declared.channels.Descriptor.{Descriptor}
use Rattle.questions.specs.declared.headers.Header.{Header}
use Rattle.samples.specs.declared.Number.{Number}
use Rattle.samples.specs.declared.Track.{Track}
use Rattle.samples.specs.declared.Place.{Place}
use Rattle.samples.specs.declared.Time.{Time}
use Rattle.recordings.specs.declared.Counts.{Counts}
use Rattle.std.specs.Prelude.{Result}
use Rattle.rules.specs.declared.Refusal.{Refusal}
use Rattle.std.specs.Prelude.{◌≡◌, List, ℕ}
use Rattle.samples.specs.Placed.{place_of, track_of}
use Rattle.recordings.specs.Answers.{meaning}
use Rattle.questions.specs.Questions.{header_of, facts_of, channel_of, montage_count_of, montage_of, patient_item_of, event_item_of, clock_of, sample_of}

-- the header of the file s
abbrev pub HeaderAnswer : List ℕ → Result Header Refusal → Type 0
HeaderAnswer s a = meaning a ≡ header_of s

-- of the file s: recording i, and in it channel, item or frame j; of a frame channel k, and its sample n; and channel k in all frames
module _ (s : List ℕ) (i : ℕ) where
  abbrev pub FactsAnswer : Result Counts Refusal → Type 0
  FactsAnswer a = meaning a ≡ facts_of s i

  abbrev pub ChannelAnswer : ℕ → Result Descriptor Refusal → Type 0
  ChannelAnswer j a = meaning a ≡ channel_of s i j

  abbrev pub MontageCountAnswer : Result ℕ Refusal → Type 0
  MontageCountAnswer a = meaning a ≡ montage_count_of s i

  abbrev pub MontageAnswer : ℕ → Result Wired Refusal → Type 0
  MontageAnswer j a = meaning a ≡ montage_of s i j

  abbrev pub PatientItemAnswer : ℕ → Result Entry Refusal → Type 0
  PatientItemAnswer j a = meaning a ≡ patient_item_of s i j

  abbrev pub EventItemAnswer : ℕ → Result Entry Refusal → Type 0
  EventItemAnswer j a = meaning a ≡ event_item_of s i j

  abbrev pub ClockAnswer : ℕ → Result Time Refusal → Type 0
  ClockAnswer j a = meaning a ≡ clock_of s i j

  abbrev pub PlaceAnswer : ℕ → ℕ → Result Place Refusal → Type 0
  PlaceAnswer j k a = meaning a ≡ place_of s i j k

  abbrev pub TrackAnswer : ℕ → Result Track Refusal → Type 0
  TrackAnswer k a = meaning a ≡ track_of s i k

  abbrev pub SampleAnswer : ℕ → ℕ → ℕ → Result Number Refusal → Type 0
  SampleAnswer j k n a = meaning a ≡ sample_of s i j k n
