-- What the answer of `frames_at` says, as a verdict on the walk of record 140.
-- Assumes nothing.
use Rattle.std.specs.Prelude.{Result, Ok, Err}
use Rattle.rules.specs.declared.Refusal.{Refusal}
use Rattle.std.specs.Prelude.{◌≡◌, Bool, List, ℕ, ◌+◌, ◌-◌, ◌≤◌, length}
use Rattle.words.specs.declared.Order.{Order}
use Rattle.walk.specs.See.{Verdict, goes, see, over}
use Rattle.rules.specs.Rules as R
use Rattle.rules.specs.declared.Label.{Label}
use Rattle.rules.specs.declared.Basic.{Basic}
use Rattle.rules.specs.declared.Channels.{Channels}
use Rattle.rules.specs.declared.Frames.{Frames}
use Rattle.rules.specs.declared.Head.{Head}
use Rattle.records.specs.Says.{halts, head_of, basic_of, HeadFrom, From, ChannelsIn, ChannelsStand}
use Rattle.descriptions.specs.DescriptionsJudged.{BodyAt}

-- what the code keeps of a 140
abbrev pub frames_of : R.Frames → Frames
frames_of f = record { seconds = f.seconds; size = f.size; padded = f.padded }

-- it stops at byte q of the part that stands at `base`, or is refused
abbrev pub framed : ℕ → Result (Frames × ℕ) Refusal → Verdict Frames
framed base (Ok (f, q)) = goes f (base + q)
framed base (Err r) = halts r

-- where it stops is at or behind byte p, in a part of n bytes
abbrev pub StopsFrom : ℕ → ℕ → Result (Frames × ℕ) Refusal → Type 0
StopsFrom p n (Ok (f, q)) = From p n q
StopsFrom p n (Err r) = Unit {0}

-- a recording's body s, which stands at `base`, up to the head h where its 140 should stand; b is its 100, and cs are the channels that hold
pub record SignalsIn (file : List ℕ) (cs : Channels) (b : Basic) (h : Head) (base : ℕ) (s : List ℕ) : Type 0 where
  pub body : BodyAt base s
  -- the head is behind the 100
  pub head : HeadFrom 128 (length s) h
  pub few : b.frames ≤ 1000000
  pub channels : ChannelsIn (length file) cs

-- the rest of the 140 whose head is h, for the 100 and the channels of which the code keeps b and cs
pub record FramesAt (o : Order) (label : Label) (file : List ℕ) (cs : Channels) (own : Bool) (b : Basic) (h : Head) (base : ℕ) (s : List ℕ) (a : Result (Frames × ℕ) Refusal) : Type 0 where
  pub seen : (c : R.Basic) (ch : List R.Channel) → basic_of c ≡ b → ChannelsStand o file cs ch →
      over frames_of (see o base s (base + (h.at + 16)) (R.frames label c own ch (h.at - 4) (length s - h.at) (head_of h))) ≡ framed base a
  pub stands : StopsFrom (h.at + 32) (length s) a
