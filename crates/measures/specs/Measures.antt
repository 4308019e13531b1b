-- How long the canonical form of a recording is, and what its records 10 and 140 then say.
-- Assumes nothing.
use Rattle.std.specs.Prelude.{Some, None}
use Rattle.std.specs.Prelude as Std
use Rattle.std.specs.Prelude.{◌≡◌, ◌&&◌, List, [], ◌∷◌, ◌++◌, ℕ, ◌+◌, ◌*◌, ◌-◌, ◌≤◌, ◌<◌, leb, length, take, drop}
use Rattle.std.proofs.Math.Option.{Option}
use Rattle.words.specs.Numbers.{number_at}
use Rattle.words.specs.Sizes.{Addressable}
use Rattle.words.specs.declared.Order.{Order}
use Rattle.walk.specs.Walk.{Event, size, pick}
use Rattle.walk.specs.See.{goes, see}
use Rattle.rules.specs.Rules as R
use Rattle.rules.specs.declared.Label.{Label}
use Rattle.rules.specs.Canonical as C
use Rattle.rules.specs.declared.Channels.{Channels}
use Rattle.records.specs.Asks.{PartAt}
use Rattle.records.specs.Says.{ChannelsIn, ChannelsStand}
use Rattle.measures.specs.declared.Sized.{Sized}
use Rattle.measures.specs.declared.Measure.{Measure}

-- the size and the multiplier of a record of n bytes, and the length that they make
abbrev pub sized_for : ℕ → Sized
sized_for n = record { size = C.size_for n; multiplier = C.multiplier_for n; length = R.length_of (C.size_for n) (C.multiplier_for n) }

-- what the largest multiplier serves
abbrev pub most_served : ℕ
most_served = 274877906816

-- a record of n bytes that the size alone does not serve
pub record Large (n : ℕ) : Type 0 where
  pub more : C.most < n
  pub served : n ≤ most_served

-- r is the smallest multiplier that serves it
pub record Smallest (n r : ℕ) : Type 0 where
  pub is : r ≡ C.multiplier_for n
  pub low : 1 ≤ r
  pub high : r ≤ 128

-- r serves a record of n bytes, with little to pad
pub record Serves (n : ℕ) (r : Sized) : Type 0 where
  pub is : r ≡ sized_for n
  pub enough : n ≤ r.length
  pub close : r.length < n + 128

-- a 140 from byte `at` to byte `end` of a body, with a delimiter behind it that stops at `last`, and the length of its frames
pub record InOrder (at end last filled : ℕ) : Type 0 where
  pub start : at ≤ end
  pub stop : end ≤ last
  pub short : Addressable last
  pub frame : filled < 4294967296

-- the measure of a 140 with these fields and places; none where a length goes beyond what the largest multiplier serves

abbrev pub measure_for : ℕ → ℕ → ℕ → ℕ → ℕ → ℕ → ℕ → Measure
measure_for at end last seconds size filled count =
    record {
      at = at;
      end = end;
      last = last;
      seconds = seconds;
      size = size;
      filled = filled;
      count = count;
      signals = sized_for (32 + filled * count);
      whole = sized_for (16 + (at + (sized_for (32 + filled * count)).length + (last - end)));
    }

unfoldable pub measured_for : ℕ → ℕ → ℕ → ℕ → ℕ → ℕ → ℕ → Std.Option Measure
measured_for at end last seconds size filled count =
    pick (leb (32 + filled * count) most_served && leb (16 + (at + (sized_for (32 + filled * count)).length + (last - end))) most_served)
    (Some (measure_for at end last seconds size filled count)) None

-- what a measure says of a recording in a file with this label: its 140's own fields, and the sizes of its canonical form
pub record MeasureOf (label : Label) (f : Measure) (x : R.Placed) : Type 0 where
  pub at : 16 + f.at ≡ x.layout.at140
  pub seconds : f.seconds ≡ x.recording.seconds
  pub count : f.count ≡ length x.recording.frames
  pub filled : f.filled ≡ C.frame_size x.recording.seconds x.recording.channels
  pub signals : f.signals ≡ sized_for (C.frames_bytes x.recording.seconds x.recording.channels x.recording.frames)
  pub whole : f.whole ≡ sized_for (16 + size (C.content label x.recording))

-- the bounds that hold whatever the bytes are, in a body of n bytes
pub record MeasureBounds (n : ℕ) (f : Measure) : Type 0 where
  pub seconds : f.seconds ≤ 3600
  pub low : 24 ≤ f.filled
  pub fits : f.filled ≤ f.size
  pub small : f.size < 4294967296
  pub frames : f.at + 32 + f.size * f.count ≤ f.end
  pub end : f.end ≤ f.last
  pub last : f.last ≤ n
  pub signals : 32 + f.filled * f.count ≤ f.signals.length
  pub whole : 16 + (f.at + f.signals.length + (f.last - f.end)) ≤ f.whole.length
  pub most : f.whole.length < 549755813888

-- the length that it asks for
abbrev pub length_in : Std.Option Measure → ℕ
length_in (Some f) = f.whole.length
length_in None = 0

-- where the measure is there, it is one that P holds of
abbrev pub Given : Std.Option Measure → (Measure → Type 0) → Type 0
Given (Some f) P = P f
Given None P = ⊥

-- whatever the bytes are, P holds of the measure, if there is one
abbrev pub Each : Std.Option Measure → (Measure → Type 0) → Type 0
Each (Some f) P = P f
Each None P = Unit {0}

-- the body of the 140 of a recording whose body is s
abbrev pub signals_in : List ℕ → Measure → List ℕ
signals_in s f = take (f.end - (f.at + 16)) (drop (f.at + 16) s)

-- s is the body of a 140 with these numbers
pub record FramesSay (o : Order) (s : List ℕ) (t frame many : ℕ) : Type 0 where
  pub seconds : number_at o 4 s 0 ≡ t
  pub size : number_at o 4 s 4 ≡ frame
  pub count : number_at o 4 s 8 ≡ many

-- what a measure says of the bytes s, which stand at b in the file: where the 140 stops, and its own numbers
pub record MeasureIn (o : Order) (b : ℕ) (s : List ℕ) (f : Measure) : Type 0 where
  pub end : (h : R.Head) (e : ℕ) → see o b s (b + f.at) (R.head (length s - f.at)) ≡ goes h e → f.end ≡ f.at + R.span h
  pub says : FramesSay o (signals_in s f) f.seconds f.size f.count

-- a recording's body s stands at `base`, its 140 at byte `at` of it, and the subs that hold for it at cs in the file
pub record Measurable (file s : List ℕ) (cs : Channels) (at base : ℕ) : Type 0 where
  -- they are in the file
  pub channels : ChannelsIn (length file) cs
  -- the 140 starts inside the body, or at its end
  pub part : PartAt base s at

-- what `measure_of` answers of it
pub record MeasuredAs (o : Order) (label : Label) (file s : List ℕ) (cs : Channels) (at base : ℕ) (a : Std.Option Measure) : Type 0 where
  -- whatever the bytes are
  pub bounds : Each a (MeasureBounds (length s))
  pub reads : Each a (MeasureIn o base s)
  -- where the walk accepts the body, there is a measure, and it is the recording's
  pub told : (held : Option R.Held) (h : R.Head) (x : R.Placed) (e : ℕ) →
      R.span h ≡ 16 + length s → ChannelsStand o file cs x.recording.channels → 16 + at ≡ x.layout.at140 →
      see o base s base (R.recording_body label held h) ≡ goes x e → Given a (λ f. MeasureOf label f x)

-- a frame's clock and samples as they stand in the bytes s, its padding left out
pub record FrameIn (o : Order) (t : ℕ) (cs : List R.Channel) (s : List ℕ) (f : R.Frame) : Type 0 where
  pub hour : f.hour ≡ number_at o 2 s 16
  pub minute : f.minute ≡ number_at o 2 s 18
  pub second : f.second ≡ number_at o 2 s 20
  pub samples : (b : ℕ) → see o b s (b + 24) (R.samples t cs) ≡ goes f.channels (b + length s)

-- what stands behind the head of a canonical recording
abbrev pub behind_head : Label → R.Recording → List Event
behind_head label r = C.content label r ++ (C.zeroes (R.span (C.recording_head label 0 r) - (16 + size (C.content label r))) ∷ [])
