-- Only one answer meets the contract of each question, for every file and whatever is asked.
-- Assumes nothing.
use Rattle.samples.specs.declared.Number.{Number}
use Rattle.samples.specs.declared.Track.{Track}
use Rattle.samples.specs.declared.Place.{Place}
use Rattle.samples.specs.declared.Time.{Time}
use Rattle.recordings.specs.declared.Counts.{Counts}
use Rattle.std.proofs.Common.{Result}
use mathlib.Core.Path.{◌≡◌}
use mathlib.Core.List.{List}
use Prim.Native.Nat.{ℕ}
use Rattle.rules.specs.declared.Refusal.{Refusal}
use Rattle.questions.specs.Promised.{HeaderAnswer, FactsAnswer, ChannelAnswer, MontageCountAnswer, MontageAnswer, PatientItemAnswer, EventItemAnswer, ClockAnswer, PlaceAnswer, TrackAnswer, SampleAnswer}
use Rattle.questions.specs.declared.headers.Header.{Header}
use Rattle.questions.specs.declared.channels.Descriptor.{Descriptor}
use Rattle.questions.specs.declared.channels.Wired.{Wired}
use Rattle.questions.specs.declared.items.Entry.{Entry}
use Rattle.recordings.proofs.Answers.{meaning-one}

-- each question, of the definition that its `ensures` cites

pub header-unique : (s : List ℕ) (a b : Result Header Refusal) → HeaderAnswer s a → HeaderAnswer s b → a ≡ b
header-unique s a b = meaning-one a b

module _ (s : List ℕ) (i : ℕ) where
  pub facts-unique : (a b : Result Counts Refusal) → FactsAnswer s i a → FactsAnswer s i b → a ≡ b
  facts-unique a b = meaning-one a b

  pub channel-unique : (j : ℕ) (a b : Result Descriptor Refusal) → ChannelAnswer s i j a → ChannelAnswer s i j b → a ≡ b
  channel-unique j a b = meaning-one a b

  pub montage-count-unique : (a b : Result ℕ Refusal) → MontageCountAnswer s i a → MontageCountAnswer s i b → a ≡ b
  montage-count-unique a b = meaning-one a b

  pub montage-unique : (j : ℕ) (a b : Result Wired Refusal) → MontageAnswer s i j a → MontageAnswer s i j b → a ≡ b
  montage-unique j a b = meaning-one a b

  pub patient-item-unique : (j : ℕ) (a b : Result Entry Refusal) → PatientItemAnswer s i j a → PatientItemAnswer s i j b → a ≡ b
  patient-item-unique j a b = meaning-one a b

  pub event-item-unique : (j : ℕ) (a b : Result Entry Refusal) → EventItemAnswer s i j a → EventItemAnswer s i j b → a ≡ b
  event-item-unique j a b = meaning-one a b

  pub clock-unique : (j : ℕ) (a b : Result Time Refusal) → ClockAnswer s i j a → ClockAnswer s i j b → a ≡ b
  clock-unique j a b = meaning-one a b

  pub place-unique : (j k : ℕ) (a b : Result Place Refusal) → PlaceAnswer s i j k a → PlaceAnswer s i j k b → a ≡ b
  place-unique j k a b = meaning-one a b

  pub track-unique : (k : ℕ) (a b : Result Track Refusal) → TrackAnswer s i k a → TrackAnswer s i k b → a ≡ b
  track-unique k a b = meaning-one a b

  pub sample-unique : (j k n : ℕ) (a b : Result Number Refusal) → SampleAnswer s i j k n a → SampleAnswer s i j k n b → a ≡ b
  sample-unique j k n a b = meaning-one a b
