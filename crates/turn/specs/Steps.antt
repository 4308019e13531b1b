-- The way of turning, and what the steps of the code ask and write.
-- Assumes nothing.
use Rattle.std.specs.Prelude as Std
use Rattle.std.specs.Prelude.{◌≡◌, Bool, true, List, ◌++◌, ℕ, ◌+◌, ◌-◌, ◌*◌, ◌≤◌, length, take, drop}
use Rattle.std.proofs.Math.Option.{Option}
use Rattle.words.specs.Numbers.{other}
use Rattle.words.specs.Sizes.{Addressable}
use Rattle.words.specs.declared.Order.{Order}
use Rattle.walk.specs.See.{goes, see}
use Rattle.rules.specs.Rules as R
use Rattle.rules.specs.declared.Channels.{Channels}
use Rattle.rules.specs.declared.Head.{Head}
use Rattle.rules.specs.declared.Label.{Label}
use Rattle.records.specs.Says.{head_of, subs_at, ChannelsIn, ChannelsStand}
use Rattle.descriptions.specs.declared.Places.{Places}
use Rattle.judge.specs.Recorded.{HeaderIn}
use Rattle.children.specs.Children.{Said, Known, Reads, Inner}
use Rattle.bodies.specs.Copy.{copy, widths_in, Pastes, HoldsFrom}
use Rattle.bodies.specs.Asks.{AtLeast}
use Rattle.bodies.specs.declared.Way.{Way}
use Rattle.transcripts.specs.Transcript.{Copied}

-- from an order to the other, and every byte that is not judged as it stands
abbrev pub turning : Order → Label → Way
turning o label = record { from = o; label = label; to = other o; keep = true }

-- what the steps ask of frames that go from s into d

-- the frame s, which has so many bytes before its padding
pub record FrameFrom (o : Order) (file : List ℕ) (cs : Channels) (widths : Std.Option ℕ) (t filled : ℕ) (s d : List ℕ) : Type 0 where
  -- the subs that hold for it are in the file
  pub channels : cs.subs + 256 * cs.count ≤ length file
  -- these are the widths that they give
  pub wide : widths ≡ widths_in o file cs.subs cs.count
  -- the longest frame
  pub seconds : t ≤ 3600
  -- its head and its clock are among the bytes
  pub least : 24 ≤ filled
  -- and they are in s
  pub part : AtLeast filled s d

-- the body s of a 140 of so many frames of this size
pub record FramesSized (file : List ℕ) (cs : Channels) (t filled size count : ℕ) (s d : List ℕ) : Type 0 where
  -- the subs that hold for it are in the file
  pub channels : cs.subs + 256 * cs.count ≤ length file
  -- the longest frame
  pub seconds : t ≤ 3600
  -- a frame's head and its clock are among its bytes before the padding
  pub least : 24 ≤ filled
  -- which are in the frame
  pub fits : filled ≤ size
  -- and the frames are in s, behind the 140's own fields
  pub part : AtLeast (16 + size * count) s d

-- what the other steps ask: the channels that hold stand in the file, and the next bytes go to byte k of the buffer

-- the body s of a 140, with its own fields
pub record FramesFrom (file : List ℕ) (cs : Channels) (s out : List ℕ) (k : ℕ) : Type 0 where
  pub channels : ChannelsIn (length file) cs
  pub fields : 16 ≤ length s
  pub target : k ≤ length out

-- a record from byte p up to q of the part s, with its head
pub record ChildFrom (file : List ℕ) (cs : Channels) (s : List ℕ) (p q : ℕ) (out : List ℕ) (k : ℕ) : Type 0 where
  pub channels : ChannelsIn (length file) cs
  pub headed : p + 16 ≤ q
  pub inside : q ≤ length s
  pub target : k ≤ length out

-- a recording's body s, which stands at `base`
pub record BodyFrom (file : List ℕ) (cs : Channels) (s : List ℕ) (base : ℕ) (out : List ℕ) (k : ℕ) : Type 0 where
  pub channels : ChannelsIn (length file) cs
  pub short : Addressable (base + length s)
  pub target : k ≤ length out

-- the recording from byte p of the file on, which has these places and goes to byte p of the buffer
pub record RecordingFrom (file : List ℕ) (p : ℕ) (q : Places) (out : List ℕ) : Type 0 where
  -- it ends behind its start
  pub on : p ≤ q.end
  -- and in the file
  pub inside : q.end ≤ length file
  pub short : Addressable (length file)
  -- the buffer has room for the file
  pub room : length file ≤ length out
  -- the subs that hold for it are in the file
  pub channels : ChannelsIn (length file) (subs_at q.channels q.count)

-- the file
pub record FileFrom (file out : List ℕ) : Type 0 where
  -- it has its header
  pub headed : HeaderIn (length file)
  -- the buffer has room for it
  pub room : length file ≤ length out

-- and what they write

-- the body s of a 140: where the walk reads it with these channels, it is written from k on, and the next bytes go at k'
pub record FramesPasted (w : Way) (file : List ℕ) (cs : Channels) (s out out' : List ℕ) (k k' : ℕ) : Type 0 where
  pub inside : k' ≤ length out
  pub wrote : (b : ℕ) (c : R.Basic) (ch : List R.Channel) (hd : R.Head) (f : R.Frames) (e : ℕ) → ChannelsStand w.from file cs ch → R.span hd ≡ 16 + length s →
      see w.from b s b (R.frames_body w.label c ch hd) ≡ goes f e → Pastes out out' k k' (copy w b s b (R.frames_body w.label c ch hd))

-- the 140 at byte p of the part s, which ends at byte q: where the walk reads it with these channels, its head and its rest are written from k on, and the
-- next bytes go at k'
pub record FramesSent (w : Way) (file : List ℕ) (cs : Channels) (s : List ℕ) (p q : ℕ) (out out' : List ℕ) (k k' : ℕ) : Type 0 where
  pub inside : k' ≤ length out
  pub wrote : (b : ℕ) (c : R.Basic) (own : Bool) (ch : List R.Channel) (back : ℕ) (h : R.Head) (l : Said) → q ≡ p + R.span h → ChannelsStand w.from file cs ch →
      Reads w.from b s p (R.frames w.label c own ch back (length s - p) h) l → Copied w l out out' k k'

-- any record that stands in a recording, with the code's head h
pub record ChildSent (w : Way) (file : List ℕ) (cs : Channels) (s : List ℕ) (h : Head) (q : ℕ) (out out' : List ℕ) (k k' : ℕ) : Type 0 where
  pub inside : k' ≤ length out
  pub wrote : (b : ℕ) (known : Known) → known.label ≡ w.label → (l : Said) → q ≡ h.at + R.span (head_of h) → ChannelsStand w.from file cs known.channels →
      Inner w.from b s h.at known (head_of h) l → Copied w l out out' k k'

-- the delimiter at byte p and the bytes behind it, as they stand
abbrev pub LastSent : Way → List ℕ → ℕ → List ℕ → List ℕ → ℕ → Type 0
LastSent w s p out out' k = p + 16 ≤ length s → (b room : ℕ) →
    HoldsFrom out out' k (copy w b s (b + p) (R.head room) ++ take (length s - (p + 16)) (drop (p + 16) s))

-- a recording's body, where the walk accepts it
abbrev pub BodySent : Way → List ℕ → Channels → List ℕ → ℕ → List ℕ → List ℕ → ℕ → Type 0
BodySent w file cs s b out out' k =
    (held : Option R.Held) (h : R.Head) (x : R.Placed) (e : ℕ) → R.span h ≡ 16 + length s → ChannelsStand w.from file cs x.recording.channels →
    see w.from b s b (R.recording_body w.label held h) ≡ goes x e → HoldsFrom out out' k (copy w b s b (R.recording_body w.label held h))
