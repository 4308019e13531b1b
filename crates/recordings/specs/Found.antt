-- What the functions say that find the recording asked for.
-- Assumes nothing.
use Rattle.std.specs.Prelude.{Result, Ok, Err, Some, None}
use Rattle.rules.specs.Reasons.{number_of}
use Rattle.std.specs.Prelude.{◌≡◌, List, ℕ, ◌+◌, ◌-◌, ◌≤◌, length}
use Rattle.words.specs.Numbers.{Bytes}
use Rattle.words.specs.declared.Order.{Order}
use Rattle.walk.specs.Walk.{pick}
use Rattle.rules.specs.Rules as R
use Rattle.rules.specs.declared.FileHeader.{FileHeader}
use Rattle.rules.specs.declared.Label.{Label}
use Rattle.rules.specs.declared.Refusal.{Refusal}
use Rattle.descriptions.specs.DescriptionsJudged.{Owned}
use Rattle.descriptions.specs.declared.Places.{Places}
use Rattle.judge.specs.Judged.{AcceptedAs}
use Rattle.judge.specs.Recorded.{HeaderIn}
use Rattle.recordings.specs.Answers.{value, refusal, numbered}
use Rattle.recordings.specs.Recordings.{Chosen, recording_of, start_of, at120, at130}
use Rattle.recordings.specs.declared.Counts.{Counts}

abbrev pub counts_of : Places → Counts
counts_of q = record { channels = q.count; frames = q.total; seconds = q.seconds }

-- where the recording stands, and the records that hold for it
abbrev pub places_at : Chosen → Places
places_at r = record {
  start = start_of r;
  end = start_of r + r.this.layout.bytes;
  channels = at120 r;
  count = length r.this.recording.channels;
  patient = at130 r;
  events = pick r.this.recording.own_events (Some (start_of r + r.this.layout.at200)) None;
  montage = pick r.this.recording.own_montage (Some (start_of r + r.this.layout.at350)) None;
  frames = start_of r + r.this.layout.at140;
  frame = r.this.layout.frame;
  total = r.this.recording.basic.frames;
  seconds = r.this.recording.seconds;
}

-- the code has the places of recording n of ps, from 1, and its channels stand where they say
pub record Standing (o : Order) (s : List ℕ) (ps : List R.Placed) (n : ℕ) (q : Places) : Type 0 where
  -- that recording
  pub this : R.Placed
  pub is : numbered ps n ≡ value this
  -- its places
  pub same : q ≡ places_at (record { all = ps; index = n - 1; this = this })
  -- its channels, in the file
  pub owned : Owned o s q.channels q.count this.recording.channels

-- the walk to recording n of the file s begins behind the file header
pub record Walkable (s : List ℕ) (n : ℕ) : Type 0 where
  -- which is in the file
  pub file : HeaderIn (length s)
  -- recordings are counted from 1
  pub first : 1 ≤ n

-- it reaches recording n; in an accepted file nothing is refused on the way
abbrev pub Reached : Order → List ℕ → List R.Placed → ℕ → Result Places Refusal → Type 0
Reached o s ps n (Ok q) = Standing o s ps n q
Reached o s ps n (Err r) = ⊥

abbrev pub ReachedAs : Order → Label → List ℕ → ℕ → Result Places Refusal → Type 0
ReachedAs o label s n a =
    (h : FileHeader) (x : AcceptedAs s h) → o ≡ h.order → label ≡ h.heading.label → n ≤ h.count → Reached o s x.file.recordings n a

-- the recording r is the one asked for, q are its places, and what is known of it
pub record FoundIn (s : List ℕ) (i : ℕ) (o : Order) (q : Places) (r : Chosen) : Type 0 where
  -- the file is bytes
  pub bytes : Bytes s
  -- the recording asked for
  pub is : recording_of s i ≡ value r
  -- the file's byte order
  pub order : o ≡ R.order_of s
  -- its places
  pub same : q ≡ places_at r
  -- as many frames as its 100 says
  pub frames : q.total ≡ length r.this.recording.frames
  -- T is at most an hour
  pub seconds : q.seconds ≤ 3600
  -- its channels, in the file
  pub owned : Owned o s q.channels q.count r.this.recording.channels

abbrev pub RecordingFoundAs : List ℕ → ℕ → Result (Order × Places) Refusal → Type 0
RecordingFoundAs s i (Ok (o, q)) = (r : Chosen) × FoundIn s i o q r
RecordingFoundAs s i (Err r) = recording_of s i ≡ refusal (number_of r.0) r.1
