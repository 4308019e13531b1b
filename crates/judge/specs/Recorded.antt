-- What the answer of `recording_at` says, as a verdict on the walk of a recording.
-- Assumes nothing.
use Rattle.std.specs.Prelude.{Result, Ok, Err, Some, None}
use Rattle.rules.specs.declared.Refusal.{Refusal}
use Rattle.std.specs.Prelude as Std
use Rattle.std.specs.Prelude.{◌≡◌, List, ℕ, ◌+◌, ◌-◌, ◌≤◌, length, take, drop}
use Rattle.std.proofs.Math.Option.{Option, some}
use Rattle.words.specs.Sizes.{Addressable}
use Rattle.words.specs.declared.Order.{Order}
use Rattle.walk.specs.Walk.{pick}
use Rattle.walk.specs.See.{Verdict, goes, see, Goes}
use Rattle.rules.specs.Rules as R
use Rattle.rules.specs.declared.Label.{Label}
use Rattle.records.specs.Says.{halts, subs_at, ChannelsIn}
use Rattle.descriptions.specs.declared.Places.{Places}
use Rattle.descriptions.specs.declared.Described.{Described}
use Rattle.descriptions.specs.DescriptionsJudged.{channels_in, patient_in, held_at, HeldWithin, HeldAs}

-- where a recording that starts here stands, as the walk's value has it: a 120 or 320, or a 130, of its own, or the one taken over from before
abbrev pub places_of : ℕ → Std.Option Places → R.Placed → Places
places_of start before x = record {
  start = start;
  end = start + x.layout.bytes;
  channels = pick x.recording.own_channels (start + x.layout.at120) (held_at (channels_in before));
  count = length x.recording.channels;
  patient = pick x.recording.own_patient (start + x.layout.at130) (held_at (patient_in before));
  events = pick x.recording.own_events (Some (start + x.layout.at200)) None;
  montage = pick x.recording.own_montage (Some (start + x.layout.at350)) None;
  frames = start + x.layout.at140;
  frame = x.layout.frame;
  total = x.recording.basic.frames;
  seconds = x.recording.seconds;
}

-- as the code has it: a body of n bytes with these descriptions, and frames that are so long and of so many seconds
abbrev pub places_for : ℕ → ℕ → Described → ℕ → ℕ → Places
places_for start n t frame seconds = record {
  start = start;
  end = start + 16 + n;
  channels = t.channels;
  count = t.count;
  patient = t.patient;
  events = t.events;
  montage = t.montage;
  frames = start + 16 + t.next.at;
  frame = frame;
  total = t.basic.frames;
  seconds = seconds;
}

-- what a recording leaves to hold
abbrev pub leaves : R.Placed → Option R.Held
leaves x = some (record { channels = x.recording.channels; patient = x.recording.patient })

-- the code's places are those of the walk's value, and its channels stand where they say
pub record Places-of (o : Order) (file : List ℕ) (start : ℕ) (before : Std.Option Places) (q : Places) (x : R.Placed) (e : ℕ) : Type 0 where
  pub end : e ≡ q.end
  pub same : q ≡ places_of start before x
  pub held : HeldAs o file (Some q) (leaves x)

abbrev pub recorded : Order → List ℕ → ℕ → Std.Option Places → Verdict R.Placed → Result Places Refusal → Type 0
recorded o file start before v (Ok q) = Goes v (Places-of o file start before q)
recorded o file start before v (Err r) = v ≡ halts r

-- the bounds that hold whatever the walk holds: a recording from byte p on, with these places, in a file of n bytes
pub record PlacedIn (p n : ℕ) (q : Places) : Type 0 where
  pub start : p ≤ q.end
  pub end : q.end ≤ n
  -- the subs that hold for it, and behind it
  pub channels : ChannelsIn n (subs_at q.channels q.count)

abbrev pub Continues : ℕ → ℕ → Result Places Refusal → Type 0
Continues p n (Ok q) = PlacedIn p n q
Continues p n (Err r) = Unit {0}

-- what the functions ask

-- a file of n bytes has its header
pub record HeaderIn (n : ℕ) : Type 0 where
  -- recordings stand behind its 32 bytes
  pub header : 32 ≤ n
  -- every byte has a place in a slice
  pub short : Addressable n

-- a recording may stand at byte p of it, behind the recording before
pub record RecordingIn (n p : ℕ) (before : Std.Option Places) : Type 0 where
  pub inside : p ≤ n
  pub short : Addressable n
  pub held : HeldWithin n before

-- s is the body of the recording at `at`
pub record BodyIn (file s : List ℕ) (at : ℕ) (before : Std.Option Places) : Type 0 where
  pub part : s ≡ take (length s) (drop (at + 16) file)
  pub inside : at + 16 + length s ≤ length file
  pub short : Addressable (length file)
  pub held : HeldWithin (length file) before

-- it has n bytes, and the head behind these descriptions is in it
pub record TablesIn (at n : ℕ) (t : Described) : Type 0 where
  pub inside : t.next.at ≤ n
  pub short : Addressable (at + 16 + n)

-- and what they promise. `told`: the answer is what the rules' walk comes to, where the code and the walk hold the same of the recording before

-- the body s of the recording at `at`, for any head of its length and multiplier
pub record BodyJudged (o : Order) (label : Label) (file s : List ℕ) (at multiplier : ℕ) (before : Std.Option Places) (a : Result Places Refusal) : Type 0 where
  pub told : (held : Option R.Held) (h : R.Head) → HeldAs o file before held → R.span h ≡ 16 + length s → h.multiplier ≡ multiplier →
      recorded o file at before (see o (at + 16) s (at + 16) (R.recording_body label held h)) a
  pub continues : Continues at (length file) a

-- the recording at byte p, with the serial i
pub record RecordingAt (o : Order) (label : Label) (file : List ℕ) (p i : ℕ) (before : Std.Option Places) (a : Result Places Refusal) : Type 0 where
  pub told : (held : Option R.Held) → HeldAs o file before held → recorded o file p before (see o 0 file p (R.recording label held (length file - p) i)) a
  pub continues : Continues p (length file) a

-- a body that the walk accepts, in any file where it stands
pub record BodyAgain (o : Order) (label : Label) (s : List ℕ) (at : ℕ) (before : Std.Option Places) (a : Result Places Refusal) : Type 0 where
  pub told : (file : List ℕ) (held : Option R.Held) (h : R.Head) (x : R.Placed) (e : ℕ) → s ≡ take (length s) (drop (at + 16) file) →
      HeldAs o file before held → R.span h ≡ 16 + length s → see o (at + 16) s (at + 16) (R.recording_body label held h) ≡ goes x e →
      recorded o file at before (see o (at + 16) s (at + 16) (R.recording_body label held h)) a
  pub continues : (n : ℕ) → at + 16 + length s ≤ n → HeldWithin n before → Continues at n a

-- a recording that the walk accepts, at byte p, whatever its serial
pub record RecordingAgain (o : Order) (label : Label) (file : List ℕ) (p : ℕ) (before : Std.Option Places) (a : Result Places Refusal) : Type 0 where
  pub told : (held : Option R.Held) (i : ℕ) (x : R.Placed) (e : ℕ) → HeldAs o file before held →
      see o 0 file p (R.recording label held (length file - p) i) ≡ goes x e →
      recorded o file p before (see o 0 file p (R.recording label held (length file - p) i)) a
  pub continues : Continues p (length file) a
