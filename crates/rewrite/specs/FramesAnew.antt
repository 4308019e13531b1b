-- A 140 and its frames, written anew: what the code asks for, and what it then writes.
-- Assumes nothing.
use Rattle.std.specs.Prelude as Std
use Rattle.std.specs.Prelude.{◌≡◌, false, List, ℕ, ◌+◌, ◌*◌, ◌≤◌, ◌<◌, length}
use Rattle.std.proofs.Math.Option.{Option}
use Rattle.walk.specs.Walk.{Event, render}
use Rattle.walk.specs.See.{see, goes}
use Rattle.rules.specs.Rules as R
use Rattle.rules.specs.Canonical as C
use Rattle.rules.specs.declared.Channels.{Channels}
use Rattle.records.specs.Says.{ChannelsIn, ChannelsStand}
use Rattle.bodies.specs.Copy.{widths_in, Pastes}
use Rattle.bodies.specs.declared.Way.{Way}
use Rattle.measures.specs.Measures.{MeasureOf, MeasureIn, MeasureBounds, FramesSay, FrameIn}
use Rattle.measures.specs.declared.Measure.{Measure}

-- s is a frame up to its padding, d has as much room, and the samples' widths are those of the subs at cs
pub record FrameFits (w : Way) (file s d : List ℕ) (cs : Channels) (widths : Std.Option ℕ) (t : ℕ) : Type 0 where
  pub channels : cs.subs + 256 * cs.count ≤ length file
  pub seconds : t ≤ 3600
  pub least : 24 ≤ length s
  pub small : length s < 4294967296
  pub room : length d ≡ length s
  pub wide : widths ≡ widths_in w.from file cs.subs cs.count

-- d is the frame that stands in s, written as the one with the serial i
abbrev pub FrameAnew : Way → List ℕ → List ℕ → List ℕ → Channels → ℕ → ℕ → Type 0
FrameAnew w file s d cs t i =
    w.keep ≡ false → (ch : List R.Channel) (f : R.Frame) → ChannelsStand w.from file cs ch →
    length s ≡ 24 + R.sample_bytes t ch → FrameIn w.from t ch s f →
    d ≡ render w.to (C.record_of (C.plain_head (length s) 145 i) (C.frame_written ch f))

-- the body s of a 140 holds so many frames of `size` bytes, `filled` of them without the padding, and d has room for those
pub record FramesRoom (file s d : List ℕ) (cs : Channels) (t filled size count : ℕ) : Type 0 where
  pub channels : cs.subs + 256 * cs.count ≤ length file
  pub seconds : t ≤ 3600
  pub least : 24 ≤ filled
  pub fits : filled ≤ size
  pub small : size < 4294967296
  pub source : 16 + size * count ≤ length s
  pub target : 16 + filled * count ≤ length d

-- where the walk accepts the body s as f, and the buffer d has the room of its canonical form, d' is that
abbrev pub FramesAnew : Way → List ℕ → List ℕ → List ℕ → List ℕ → Channels → ℕ → ℕ → ℕ → ℕ → Type 0
FramesAnew w file s d d' cs t filled size count =
    w.keep ≡ false → (b : ℕ) (c : R.Basic) (ch : List R.Channel) (hd : R.Head) (f : R.Frames) (e : ℕ) → ChannelsStand w.from file cs ch →
    filled ≡ 24 + R.sample_bytes t ch → FramesSay w.from s t size count → R.span hd ≡ 16 + length s →
    see w.from b s b (R.frames_body w.label c ch hd) ≡ goes f e → 16 + length d ≡ R.span (C.frames_head t ch f.frames) →
    d' ≡ render w.to (C.frames_written t ch f.frames)

-- where the walk accepts the body s of a recording, which stands at `base`, as x, and f is its measure
pub record BodyMeasured (w : Way) (file s : List ℕ) (cs : Channels) (f : Measure) (base : ℕ) (x : R.Placed) : Type 0 where
  -- reserve is cleared
  pub clear : w.keep ≡ false
  -- the recording's head, what earlier ones hand on, and where the walk came to
  pub head : R.Head
  pub held : Option R.Held
  pub end : ℕ
  pub fills : R.span head ≡ 16 + length s
  pub went : see w.from base s base (R.recording_body w.label held head) ≡ goes x end
  -- its channels stand at cs
  pub channels : ChannelsStand w.from file cs x.recording.channels
  -- what the measure says of the bytes, and of the recording
  pub reads : MeasureIn w.from base s f
  pub is : MeasureOf w.label f x

-- its 140 in canonical form
abbrev pub signals_events : R.Recording → List Event
signals_events r = C.record_of (C.frames_head r.seconds r.channels r.frames) (C.frames_written r.seconds r.channels r.frames)

-- it goes to byte k of the buffer
pub record SignalsFit (file s out : List ℕ) (cs : Channels) (f : Measure) (k : ℕ) : Type 0 where
  pub channels : ChannelsIn (length file) cs
  pub bounds : MeasureBounds (length s) f
  pub target : k ≤ length out

-- where there is room, the 140 in canonical form stands there, and the next bytes go at r
pub record SignalsAnew (w : Way) (file s : List ℕ) (cs : Channels) (f : Measure) (out out' : List ℕ) (k r : ℕ) : Type 0 where
  pub inside : r ≤ length out
  pub wrote : (base : ℕ) (x : R.Placed) → BodyMeasured w file s cs f base x →
      Pastes out out' k r (render w.to (signals_events x.recording))
