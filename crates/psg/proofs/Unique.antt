-- Only one answer meets the contract of each call that C and Rust link, and of a call that writes only one buffer with it: for every file, argument and
-- buffer. Each theorem is over the definition that the call's `ensures` cites.
-- Assumes nothing.
use mathlib.Core.Path.{◌≡◌, sym, ◌∙◌}
use mathlib.Core.List.{List}
use Prim.Native.Nat.{ℕ}
use lib.IntN.{ℤ}
use Rattle.runs.specs.Runs as Runs
use Rattle.runs.specs.declared.Sibling.{Sibling}
use Rattle.answers.specs.Flat.{Leaves}
use Rattle.psg.specs.Calls.{JudgeAnswers, TableAnswers, TurnAnswers, RewriteAnswers, RoomAnswers}
use Rattle.psg.specs.Calls.{HeaderAnswers, FactsAnswers, ChannelAnswers, MontageCountAnswers, MontageAnswers, PatientItemAnswers, EventItemAnswers}
use Rattle.psg.specs.Calls.{ClockAnswers, PlaceAnswers, TrackAnswers, PartAnswers, SampleAnswers, RunAnswers, IndexAnswers}
use Rattle.psg.specs.Calls.{KindAnswers}
use Rattle.answers.specs.declared.Channel.{Channel}
use Rattle.answers.specs.declared.Clock.{Clock}
use Rattle.answers.specs.declared.Counted.{Counted}
use Rattle.answers.specs.declared.Facts.{Facts}
use Rattle.answers.specs.declared.Header.{Header}
use Rattle.answers.specs.declared.Heading.{Heading}
use Rattle.answers.specs.declared.Item.{Item}
use Rattle.answers.specs.declared.Kind.{Kind}
use Rattle.answers.specs.declared.Montage.{Montage}
use Rattle.answers.specs.declared.Part.{Part}
use Rattle.answers.specs.declared.Place.{Place}
use Rattle.answers.specs.declared.Sample.{Sample}
use Rattle.answers.specs.declared.Track.{Track}

-- what is one thing is one
only : {A : Type 0} {x a b : A} → a ≡ x → b ≡ x → a ≡ b
only h k = h ∙ sym k

only-leaves : {A : Type 0} {x a b : Counted} {xs out₁ out₂ : List A} → Leaves x xs a out₁ → Leaves x xs b out₂ → (a ≡ b) × (out₁ ≡ out₂)
only-leaves u v = (only u.answers v.answers, only u.holds v.holds)

module _ (s : List ℕ) where
  pub psg-judge-unique : (a b : Header) → JudgeAnswers s a → JudgeAnswers s b → a ≡ b
  psg-judge-unique a b = only

  pub psg-header-unique : (a b : Heading) → HeaderAnswers s a → HeaderAnswers s b → a ≡ b
  psg-header-unique a b = only

  -- the calls that write
  pub psg-table-unique : (out out₁ out₂ : List ℤ) (a b : Counted) → TableAnswers s out out₁ a → TableAnswers s out out₂ b → (a ≡ b) × (out₁ ≡ out₂)
  psg-table-unique out out₁ out₂ a b = only-leaves

  pub psg-turn-unique : (out out₁ out₂ : List ℕ) (a b : Counted) → TurnAnswers s out out₁ a → TurnAnswers s out out₂ b → (a ≡ b) × (out₁ ≡ out₂)
  psg-turn-unique out out₁ out₂ a b = only-leaves

  pub psg-rewrite-unique : (c : ℕ) (out out₁ out₂ : List ℕ) (a b : Counted) → RewriteAnswers s c out out₁ a → RewriteAnswers s c out out₂ b → (a ≡ b) × (out₁ ≡ out₂)
  psg-rewrite-unique c out out₁ out₂ a b = only-leaves

  pub psg-rewrite-room-unique : (a b : Counted) → RoomAnswers s a → RoomAnswers s b → a ≡ b
  psg-rewrite-room-unique a b = only

  -- the questions
  pub psg-facts-unique : (i : ℕ) (a b : Facts) → FactsAnswers s i a → FactsAnswers s i b → a ≡ b
  psg-facts-unique i a b = only

  pub psg-channel-unique : (i j : ℕ) (a b : Channel) → ChannelAnswers s i j a → ChannelAnswers s i j b → a ≡ b
  psg-channel-unique i j a b = only

  pub psg-montage-count-unique : (i : ℕ) (a b : Counted) → MontageCountAnswers s i a → MontageCountAnswers s i b → a ≡ b
  psg-montage-count-unique i a b = only

  pub psg-montage-unique : (i j : ℕ) (a b : Montage) → MontageAnswers s i j a → MontageAnswers s i j b → a ≡ b
  psg-montage-unique i j a b = only

  pub psg-patient-item-unique : (i j : ℕ) (a b : Item) → PatientItemAnswers s i j a → PatientItemAnswers s i j b → a ≡ b
  psg-patient-item-unique i j a b = only

  pub psg-event-item-unique : (i j : ℕ) (a b : Item) → EventItemAnswers s i j a → EventItemAnswers s i j b → a ≡ b
  psg-event-item-unique i j a b = only

  pub psg-clock-unique : (i j : ℕ) (a b : Clock) → ClockAnswers s i j a → ClockAnswers s i j b → a ≡ b
  psg-clock-unique i j a b = only

  pub psg-place-unique : (i j k : ℕ) (a b : Place) → PlaceAnswers s i j k a → PlaceAnswers s i j k b → a ≡ b
  psg-place-unique i j k a b = only

  pub psg-track-unique : (i k : ℕ) (a b : Track) → TrackAnswers s i k a → TrackAnswers s i k b → a ≡ b
  psg-track-unique i k a b = only

  pub psg-sample-unique : (i j k n : ℕ) (a b : Sample) → SampleAnswers s i j k n a → SampleAnswers s i j k n b → a ≡ b
  psg-sample-unique i j k n a b = only

  -- a run of samples, by either call
  pub psg-run-unique : (k : Sibling) (i j c first n : ℕ) (out out₁ out₂ : List (Runs.Element k)) (a b : Counted) → RunAnswers k s i j c first n out out₁ a → RunAnswers k s i j c first n out out₂ b → (a ≡ b) × (out₁ ≡ out₂)
  psg-run-unique k i j c first n out out₁ out₂ a b = only-leaves

  -- the night events
  pub psg-index-unique : (out out₁ out₂ : List ℤ) (a b : Counted) → IndexAnswers s out out₁ a → IndexAnswers s out out₂ b → (a ≡ b) × (out₁ ≡ out₂)
  psg-index-unique out out₁ out₂ a b = only-leaves

-- of four numbers, and of a code: no file
pub psg-part-unique : (n position width count : ℕ) (a b : Part) → PartAnswers n position width count a → PartAnswers n position width count b → a ≡ b
psg-part-unique n position width count a b = only

pub psg-event-kind-unique : (c : ℕ) (a b : Kind) → KindAnswers c a → KindAnswers c b → a ≡ b
psg-event-kind-unique c a b = only
