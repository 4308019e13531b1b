-- A recording and a file, measured and written anew: what the code asks for, and what it then answers and writes.
-- Assumes nothing.
use Rattle.std.specs.Prelude as Std
use Rattle.std.specs.Prelude.{◌≡◌, false, List, [], ◌∷◌, ◌++◌, map, ℕ, ◌+◌, ◌-◌, ◌≤◌, ◌<◌, length, take, drop}
use Rattle.std.proofs.Math.Option.{Option}
use Rattle.words.specs.Runs.{pasted}
use Rattle.words.specs.Sizes.{Addressable}
use Rattle.words.specs.declared.Order.{Order}
use Rattle.walk.specs.Walk.{render, size}
use Rattle.walk.specs.See.{see, goes}
use Rattle.rules.specs.Rules as R
use Rattle.rules.specs.declared.Label.{Label}
use Rattle.rules.specs.Canonical as C
use Rattle.rules.specs.declared.Channels.{Channels}
use Rattle.rules.specs.declared.Head.{Head}
use Rattle.rules.specs.declared.Heading.{Heading}
use Rattle.records.specs.Says.{subs_at, ChannelsIn, ChannelsStand}
use Rattle.header.specs.Letters.{heading_of}
use Rattle.descriptions.specs.declared.Places.{Places}
use Rattle.judge.specs.Recorded.{HeaderIn}
use Rattle.children.specs.Recordings.{ReadAs}
use Rattle.bodies.specs.Copy.{Pastes}
use Rattle.bodies.specs.declared.Way.{Way}
use Rattle.transcripts.specs.Transcript.{Transcribed}
use Rattle.measures.specs.Measures.{MeasureOf, MeasureIn, MeasureBounds, Each, Given, behind_head}
use Rattle.measures.specs.declared.Measure.{Measure}
use Rattle.rewrite.specs.FramesAnew.{BodyMeasured, SignalsFit, SignalsAnew}

-- a recording from byte p on, with these places, stands in a file of n bytes
pub record StandsIn (n p : ℕ) (q : Places) : Type 0 where
  pub start : p ≤ q.end
  pub end : q.end ≤ n
  pub short : Addressable n
  pub room : ChannelsIn n (subs_at q.channels q.count)

-- the walk accepts it as x, with the serial i, and its channels and its 140 stand at these places
pub record AcceptedAt (o : Order) (label : Label) (file : List ℕ) (p i : ℕ) (q : Places) (held : Option R.Held) (x : R.Placed) : Type 0 where
  pub went : see o 0 file p (R.recording label held (length file - p) i) ≡ goes x q.end
  pub channels : ChannelsStand o file (subs_at q.channels q.count) x.recording.channels
  pub frames : q.frames ≡ p + x.layout.at140

-- what stands behind its head
abbrev pub body_in : List ℕ → ℕ → Places → List ℕ
body_in file p q = take (q.end - (p + 16)) (drop (p + 16) file)

-- what `measure_at` answers of it
pub record MeasuredAt (o : Order) (label : Label) (file : List ℕ) (p : ℕ) (q : Places) (a : Std.Option Measure) : Type 0 where
  -- whatever the bytes are
  pub bounds : Each a (MeasureBounds (q.end - (p + 16)))
  pub reads : Each a (MeasureIn o (p + 16) (body_in file p q))
  -- where the walk accepts it, there is a measure, and it is the recording's
  pub told : (held : Option R.Held) (i : ℕ) (x : R.Placed) → AcceptedAt o label file p i q held x → Given a (λ f. MeasureOf label f x)

-- s is a recording's body, which stands at `base`, and d has room for the canonical form that its measure f says, and no more
pub record BodyFits (file s d : List ℕ) (cs : Channels) (f : Measure) (base : ℕ) : Type 0 where
  pub channels : ChannelsIn (length file) cs
  pub short : Addressable (base + length s)
  pub bounds : MeasureBounds (length s) f
  pub room : 16 + length d ≡ f.whole.length

-- where the walk accepts the body s as x, d is what stands behind the head of its canonical form
abbrev pub BodyAnew : Way → List ℕ → List ℕ → List ℕ → Channels → Measure → ℕ → Type 0
BodyAnew w file s d cs f base = (x : R.Placed) → BodyMeasured w file s cs f base x → d ≡ render w.to (behind_head w.label x.recording)

-- a record of the body s, with the code's head h and up to byte q, goes to byte k of the buffer
pub record ChildFits (file s out : List ℕ) (cs : Channels) (f : Measure) (h : Head) (q k : ℕ) : Type 0 where
  pub recording : SignalsFit file s out cs f k
  pub least : h.at + 16 ≤ q
  pub inside : q ≤ length s

-- it is written there, and the next bytes go at r
pub record ChildAnew (w : Way) (file s : List ℕ) (cs : Channels) (f : Measure) (h : Head) (q : ℕ) (out out' : List ℕ) (k r : ℕ) : Type 0 where
  pub inside : r ≤ length out
  -- a 140 by the recording's measure
  pub signals : h.code ≡ 140 → SignalsAnew w file s cs f out out' k r
  -- any other as it is read
  pub other : (h.code ≡ 140 → ⊥) → Transcribed w s h q out out' k r

-- a recording from byte p of the file on goes to byte k of the buffer
pub record RecordingFits (file : List ℕ) (p : ℕ) (q : Places) (out : List ℕ) (k : ℕ) : Type 0 where
  pub source : StandsIn (length file) p q
  pub target : k ≤ length out

-- where there is room, its canonical form stands there, and the next bytes go at r
pub record RecordingAnew (w : Way) (file : List ℕ) (p i : ℕ) (q : Places) (out out' : List ℕ) (k r : ℕ) : Type 0 where
  pub inside : r ≤ length out
  pub wrote : w.keep ≡ false → (held : Option R.Held) (x : R.Placed) → AcceptedAt w.from w.label file p i q held x →
      Pastes out out' k r (render w.to (C.recording_events w.label i (x.recording ∷ [])))

-- a number of recordings, and a buffer for its digits
pub record DigitsFit (d : List ℕ) (count : ℕ) : Type 0 where
  -- it has two digits or one
  pub few : count < 100
  -- the header has four bytes for them
  pub room : length d ≡ 4

-- what a file header says, and a buffer of its length
pub record HeaderFits (d : List ℕ) (heading : Heading) (count : ℕ) : Type 0 where
  pub script : heading.script < 256
  pub few : count < 100
  pub room : length d ≡ 32

-- a file with as many recordings as a header may count
pub record Counts (n count : ℕ) : Type 0 where
  pub file : HeaderIn n
  pub few : count ≤ 64

-- the canonical form of a file with these recordings, and how long it is
abbrev pub file_anew : Order → Heading → ℕ → List R.Placed → List ℕ
file_anew to heading count ps =
    render to (C.header_events (heading_of heading) count) ++ render to (C.recording_events heading.label 1 (map (λ p. p.recording) ps))

abbrev pub length_anew : Label → List R.Placed → ℕ
length_anew label ps = 32 + size (C.recording_events label 1 (map (λ p. p.recording) ps))

-- a file, what its header says, and a buffer with room for a header
pub record FileFits (file out : List ℕ) (heading : Heading) (count : ℕ) : Type 0 where
  pub counts : Counts (length file) count
  pub script : heading.script < 256
  pub header : 32 ≤ length out

-- where the walk accepts its recordings, and there is room, its canonical form stands at the buffer's start
abbrev pub FileAnew : Order → Order → Heading → List ℕ → ℕ → List ℕ → List ℕ → Type 0
FileAnew o to heading file count out out' =
    (ps : List R.Placed) (e : ℕ) → ReadAs o heading.label file count ps e → length_anew heading.label ps ≤ length out →
    out' ≡ pasted out 0 (file_anew to heading count ps)
