-- Record 140's body in two parts, as the code reads it: the tests of its own fields, and what stands behind them.
-- Assumes nothing.
use Rattle.rules.specs.declared.Frames.{Frames}
use Rattle.std.specs.Prelude.{Result, Ok, Err}
use Rattle.std.specs.Prelude.{◌≡◌, ◌&&◌, List, ℕ, ◌+◌, ◌-◌, ◌*◌, ◌≤◌, ◌<◌, leb, ltb, eqb, length}
use Rattle.words.specs.Numbers.{number_at}
use Rattle.words.specs.declared.Order.{Order}
use Rattle.walk.specs.Walk.{Walk, give, ◌>>=◌, ◌>>◌}
use Rattle.walk.specs.See.{Verdict, gate, see, over}
use Rattle.rules.specs.Rules as R
use Rattle.rules.specs.declared.Label.{Label}
use Rattle.rules.specs.declared.Channels.{Channels}
use Rattle.rules.specs.declared.Refusal.{Refusal}
use Rattle.records.specs.Asks.{BodyOf}
use Rattle.records.specs.Says.{halts, ChannelsIn, ChannelsStand}
use Rattle.signals.specs.FramesJudged.{frames_of, framed}
use Rattle.signals.specs.declared.frames.Shape.{Shape}

-- T, the frame length and the count of frames are tested, in a 140 of so many bytes at `at`; then the verdict that follows
unfoldable pub field_tests : (at bytes total multiplier : ℕ) → List R.Channel → (t size n : ℕ) → Verdict R.Frames → Verdict R.Frames
field_tests at bytes total multiplier ch t size n v =
    gate (R.between 1 3600 t) (gate (R.all (R.sampled t) ch) (gate (R.between (24 + R.sample_bytes t ch) (24 + R.sample_bytes t ch + 127) size && ltb size R.limit) (gate (eqb n total) (gate (leb (32 + n * size) bytes && R.padded multiplier (bytes - (32 + n * size))) v
    14 (at + 24))
    14 (at + 24))
    14 (at + 20))
    14 (at + 16))
    13 (at + 16)

-- the frames of a 140 of so many bytes, and the padding behind them
unfoldable pub behind_fields : Label → (t size n bytes : ℕ) → List R.Channel → Walk R.Frames
behind_fields label t size n bytes ch = do
  fs ← R.series n 1 size (bytes - 32) (R.frame label size t ch)
  R.padding (bytes - (32 + n * size))
  give (record { seconds = t; frames = fs; size = size; padded = n * (size - (24 + R.sample_bytes t ch)) + (bytes - (32 + n * size)) })

-- a shape goes on with a verdict, or stops
abbrev pub shaped : Result Shape Refusal → Verdict R.Frames → Verdict R.Frames
shaped (Ok f) v = v
shaped (Err r) v = halts r

-- the fields that stand in the body s, and where the samples of these channels end in a frame
pub record ShapeOf (o : Order) (s : List ℕ) (total : ℕ) (ch : List R.Channel) (f : Shape) : Type 0 where
  pub seconds : f.seconds ≡ number_at o 4 s 0
  pub size : f.size ≡ number_at o 4 s 4
  pub count : total ≡ number_at o 4 s 8
  pub filled : f.filled ≡ 24 + R.sample_bytes f.seconds ch

abbrev pub FieldsIn : Order → List ℕ → ℕ → List R.Channel → Result Shape Refusal → Type 0
FieldsIn o s total ch (Ok f) = ShapeOf o s total ch f
FieldsIn o s total ch (Err r) = Unit {0}

-- the tests come to what the answer says, whatever follows them
pub record Shapes (o : Order) (at : ℕ) (s : List ℕ) (total multiplier : ℕ) (ch : List R.Channel) (a : Result Shape Refusal) : Type 0 where
  pub tests : (v : Verdict R.Frames) → field_tests at (16 + length s) total multiplier ch (number_at o 4 s 0) (number_at o 4 s 4) (number_at o 4 s 8) v ≡ shaped a v
  pub fields : FieldsIn o s total ch a

-- a frame's samples end in it, and its length is a number of the format
pub record Sized (f : Shape) : Type 0 where
  pub least : 24 ≤ f.filled
  pub fits : f.filled ≤ f.size
  pub short : f.size < 2147483648

abbrev pub Sizes : Result Shape Refusal → Type 0
Sizes (Ok f) = Sized f
Sizes (Err r) = Unit {0}

-- a 140 that stops at its byte n
abbrev pub Fills : ℕ → Result (Frames × ℕ) Refusal → Type 0
Fills n (Ok (f, q)) = q ≡ n
Fills n (Err r) = Unit {0}

-- what the functions ask

-- so many frames of this length can be counted in bytes
pub record Countable (total size : ℕ) : Type 0 where
  pub few : total ≤ 1000000
  pub short : size < 2147483648

-- the body s of the 140 at `at`, of so many frames
pub record FramesIn (at : ℕ) (s : List ℕ) (total : ℕ) : Type 0 where
  -- its own fields are in it
  pub fields : BodyOf 16 at s
  -- no recording has more
  pub few : total ≤ 1000000

-- with the channels that hold for it
pub record FieldsAsked (file : List ℕ) (cs : Channels) (at : ℕ) (s : List ℕ) (total : ℕ) : Type 0 where
  pub body : FramesIn at s total
  pub channels : ChannelsIn (length file) cs

-- with its own fields read
pub record RestAsked (at : ℕ) (s : List ℕ) (total : ℕ) (f : Shape) : Type 0 where
  pub body : FramesIn at s total
  pub sized : Sized f

-- and what they promise. `told`, `seen`: the answer is what the rules' walk comes to; `sized`, `fills`: what holds whatever the walk reads

-- the tests of its own fields, for the channels that stand at cs
pub record FieldsTested (o : Order) (file : List ℕ) (cs : Channels) (at : ℕ) (s : List ℕ) (total multiplier : ℕ) (a : Result Shape Refusal) : Type 0 where
  pub told : (ch : List R.Channel) → ChannelsStand o file cs ch → Shapes o at s total multiplier ch a
  pub sized : Sizes a

-- the frames and the padding, for channels whose samples fill a frame as the shape says
pub record RestRead (o : Order) (label : Label) (at : ℕ) (s : List ℕ) (total : ℕ) (f : Shape) (a : Result (Frames × ℕ) Refusal) : Type 0 where
  pub seen : (ch : List R.Channel) → f.filled ≡ 24 + R.sample_bytes f.seconds ch →
      over frames_of (see o (at + 16) s (at + 32) (behind_fields label f.seconds f.size total (16 + length s) ch)) ≡ framed at a
  pub fills : Fills (16 + length s) a

-- the 100, the channels and the 140's head that a walk reads the body s with, as the code has them
pub record ReadWith (o : Order) (file : List ℕ) (cs : Channels) (s : List ℕ) (total multiplier : ℕ) (b : R.Basic) (ch : List R.Channel) (h : R.Head) : Type 0 where
  pub frames : b.frames ≡ total
  pub channels : ChannelsStand o file cs ch
  pub bytes : R.span h ≡ 16 + length s
  pub times : h.multiplier ≡ multiplier

-- the whole body
pub record BodyRead (o : Order) (label : Label) (file : List ℕ) (cs : Channels) (at : ℕ) (s : List ℕ) (total multiplier : ℕ) (a : Result (Frames × ℕ) Refusal) : Type 0 where
  pub seen : (b : R.Basic) (ch : List R.Channel) (h : R.Head) → ReadWith o file cs s total multiplier b ch h →
      over frames_of (see o (at + 16) s (at + 16) (R.frames_body label b ch h)) ≡ framed at a
  pub fills : Fills (16 + length s) a
