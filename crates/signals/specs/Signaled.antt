-- What the answer of `signals` says, as a verdict on the walk of a recording's second half.
-- Assumes nothing.
use Rattle.std.specs.Prelude.{Result, Ok, Err}
use Rattle.std.specs.Prelude.{◌≡◌, Bool, List, ℕ, ◌+◌, ◌-◌, ◌≤◌, leb, length}
use Rattle.words.specs.declared.Order.{Order}
use Rattle.walk.specs.See.{Verdict, gate, see, Goes}
use Rattle.rules.specs.Rules as R
use Rattle.rules.specs.declared.Label.{Label}
use Rattle.rules.specs.declared.Basic.{Basic}
use Rattle.rules.specs.declared.Channels.{Channels}
use Rattle.rules.specs.declared.Frames.{Frames}
use Rattle.rules.specs.declared.Head.{Head}
use Rattle.rules.specs.declared.Refusal.{Refusal}
use Rattle.records.specs.Says.{halts, head_of, basic_of, ChannelsStand}
use Rattle.rules.specs.Rules.{Descriptions}
use Rattle.descriptions.specs.DescriptionsJudged.{BodyAt}

-- what the code has of the descriptions t and of the recording's head r, whose body is s: h is the head found where the 140 should stand
pub record DescriptionsKnown (o : Order) (file : List ℕ) (cs : Channels) (is_own : Bool) (b : Basic) (h : Head) (s : List ℕ) (m : ℕ) (t : Descriptions) (r : R.Head) : Type 0 where
  pub basic : basic_of t.basic ≡ b
  pub own : t.channels.own ≡ is_own
  pub channels : ChannelsStand o file cs t.channels.value
  pub head : t.montage.next.head ≡ head_of h
  pub room : t.montage.next.room ≡ length s - h.at
  pub bytes : R.span r ≡ 16 + length s
  pub multiplier : r.multiplier ≡ m

-- a recording of these descriptions with a 140 of which the code keeps f
pub record Whole (t : Descriptions) (r : R.Head) (f : Frames) (p : R.Placed) : Type 0 where
  pub layout : p.layout ≡ record {
    bytes = R.span r;
    at120 = R.span r - t.next.room;
    at130 = R.span r - t.channels.next.room;
    at200 = R.span r - t.patient.next.room;
    at350 = R.span r - t.events.next.room;
    at140 = R.span r - t.montage.next.room;
    frame = f.size;
  }
  pub seconds : p.recording.seconds ≡ f.seconds
  pub basic : p.recording.basic ≡ t.basic
  pub own_channels : p.recording.own_channels ≡ t.channels.own
  pub channels : p.recording.channels ≡ t.channels.value
  pub own_patient : p.recording.own_patient ≡ t.patient.own
  pub patient : p.recording.patient ≡ t.patient.value
  pub own_events : p.recording.own_events ≡ t.events.own
  pub own_montage : p.recording.own_montage ≡ t.montage.own

-- it ends there
pub record WholeAt (end : ℕ) (t : Descriptions) (r : R.Head) (f : Frames) (p : R.Placed) (e : ℕ) : Type 0 where
  pub ends : e ≡ end
  pub whole : Whole t r f p

-- v, the verdict on the walk: it goes on to `end` with such a recording, or is refused
abbrev pub Signaled : Verdict R.Placed → ℕ → Descriptions → R.Head → Result (Frames × ℕ) Refusal → Type 0
Signaled v end t r (Ok (f, q)) = Goes v (WholeAt end t r f)
Signaled v end t r (Err x) = v ≡ halts x

-- what `signals` answers, of any descriptions and any recording's head of which the code has this
abbrev pub SignalsOf : Order → Label → List ℕ → Channels → Bool → Basic → Head → ℕ → List ℕ → ℕ → Result (Frames × ℕ) Refusal → Type 0
SignalsOf o label file cs own b h base s multiplier a = (t : Descriptions) (r : R.Head) → DescriptionsKnown o file cs own b h s multiplier t r →
    Signaled (see o base s (base + (h.at + 16)) (R.signals label t r)) (base + length s) t r a

-- the delimiter of the recording whose body is s stops at byte `end`
pub record ClosedIn (base : ℕ) (s : List ℕ) (end : ℕ) : Type 0 where
  pub body : BodyAt base s
  pub inside : end ≤ length s

-- the tests of what follows it: the content's limit, how long the padding is, and its bytes
abbrev pub closing_tests : Order → ℕ → List ℕ → ℕ → ℕ → ℕ → Verdict (Unit {0})
closing_tests o base s end padded multiplier =
    gate (leb (16 + end - padded) R.content_limit)
    (gate (R.padded multiplier (length s - end)) (see o base s (base + end) (R.padding (length s - end))) 10 (base + end))
    14 (base - 16)
