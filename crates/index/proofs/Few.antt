-- How many entries there are at most: one for each byte of samples.
-- Assumes nothing.
use mathlib.Core.Path.{◌≡◌, subst}
use mathlib.Core.Bool.{Bool, true, false}
use mathlib.Core.List.{List, [], ◌∷◌}
use mathlib.Core.Option.{none}
use Prim.Native.Nat.{ℕ, zero, suc, ◌-◌, ◌*◌, ◌≤◌}
use native.Mathlib.Nat.{mul-one, mul-add, mul-le-mul_left}
use native.Mathlib.Omega.{arith}
use lib.ListN.{length, take, length-append}
use lib.Seq.{take-length}
use Rattle.words.specs.Numbers.{Bytes}
use Rattle.walk.specs.Walk.{pick, Event, passed}
use Rattle.rules.specs.Rules as R
use Rattle.rules.specs.Rules.{sample_bytes, samples_in, width}
use Rattle.rules.specs.declared.Label.{Label}
use Rattle.rules.specs.declared.Version.{Version}
use Rattle.rules.proofs.Canon.{file-ok}
use Rattle.rules.proofs.Sized.{longest}
use Rattle.rules.proofs.Turn.{accepted}
use Rattle.recordings.specs.Answers.{value}
use Rattle.recordings.specs.Recordings.{Chosen, recording_of}
use Rattle.recordings.proofs.Chosen.{chosen-in}
use Rattle.recordings.proofs.Reach.{one_ok}
use Rattle.samples.specs.Frames.{ChosenFrame, frame_of}
use Rattle.samples.proofs.Stretch.{width-least}
use Rattle.index.specs.Events.{of_events, last_of, codes_of, sample_entries, each_of, channel_entries, frame_entries, recording_entries}
use Rattle.index.proofs.Channels.{Each, each-zero, each_first, each-others, each-few}
use Rattle.index.proofs.Sampling.{entries-few}
use Rattle.index.proofs.Standing.{recording-there, frame-there, codes-many}

module _ (s : List ℕ) (i j t : ℕ) where
  -- a channel of a frame
  one-few : (k : ℕ) (y : R.Channel) → length (codes_of s i j k) ≡ samples_in t y → length (channel_entries s i j k y) ≤ samples_in t y * width y.format
  unfolding channel_entries
  one-few k y e = go (of_events y)
    where
      most : samples_in t y ≤ samples_in t y * width y.format
      most = omega (arith, mul-le-mul_left (samples_in t y) (width-least y.format), mul-one (samples_in t y))

      before : ℕ
      before = last_of 0 (codes_of s i (j - 1) k)

      go : (x : Bool) → length (pick x (sample_entries i j k 0 before (codes_of s i j k)) []) ≤ samples_in t y * width y.format
      go true = omega (arith, most, e, entries-few i j k 0 before (codes_of s i j k))
      go false = omega arith

  -- some channels, whose samples are so many
  abbrev Many : ℕ → R.Channel → Type 0
  Many k y = length (codes_of s i j k) ≡ samples_in t y

  channels-few : (k c : ℕ) (cs : List R.Channel) → Each (λ n y. Many n y) k cs →
      length (each_of (channel_entries s i j) k (take c cs)) ≤ sample_bytes t (take c cs)
  unfolding each_of sample_bytes
  channels-few k zero cs h = omega arith
  channels-few k (suc c) [] h = omega arith
  channels-few k (suc c) (y ∷ cs) h =
      rw length-append (omega
      (arith, one-few (suc k) y (each_first (λ n x. Many n x) k y cs h), channels-few (suc k) c cs (each-others (λ n x. Many n x) k y cs h)))

-- some channels of a frame that was asked for
pub frame-few : (s : List ℕ) → Bytes s → (i j : ℕ) {f : ChosenFrame} → frame_of s i j ≡ value f → (c : ℕ) →
    length (each_of (channel_entries s i j) 0 (take c f.of.this.recording.channels)) ≤ sample_bytes f.of.this.recording.seconds
    (take c f.of.this.recording.channels)
frame-few s b i j {f} is c =
    let t : ℕ = f.of.this.recording.seconds in
    channels-few s i j t 0 c f.of.this.recording.channels
    (each-zero (λ n y. Many s i j t n y) f.of.this.recording.channels (λ n y one. codes-many s b i j is n y one))

-- a recording
longest-most : (label : Label) → longest (R.most_of label) ≤ 274877906944
unfolding R.allows
longest-most label = go label.version
  where
    go : (v : Version) → longest (R.allows v).multiplier ≤ 274877906944
    go Version.V100 = omega arith
    go Version.V110 = omega arith
    go Version.V200 = omega arith
    go Version.V300 = omega arith

module _ (s : List ℕ) (b : Bytes s) (i : ℕ) {r : Chosen} (asked : recording_of s i ≡ value r) where
  abbrev this : R.Recording
  this = r.this.recording

  -- some of its frames
  pub frames-few : (n : ℕ) → length (each_of (frame_entries s i this.channels) 0 (take n this.frames)) ≤ n * sample_bytes this.seconds this.channels
  unfolding frame_entries
  frames-few n =
      each-few (frame_entries s i this.channels) 0 n (sample_bytes this.seconds this.channels) this.frames
      (each-zero (λ j g. length (frame_entries s i this.channels j g) ≤ sample_bytes this.seconds this.channels) this.frames
      (λ j g is. rw (take-length this.channels) at (frame-few s b i (suc j) (frame-there s i asked j is) (length this.channels))))

  -- it is as the rules ask
  pub recording-small : length this.frames * sample_bytes this.seconds this.channels ≤ 274877906944
  recording-small =
      let c = chosen-in s b i r asked in
      let label : Label = c.file.heading.label in
      let ok = one_ok label none c.file.recordings (file-ok (length s) (accepted s b c.judged).plays).recordings r.index r.this c.one in
      omega (arith, ok.1.frames.total, longest-most label, mul-add (length this.frames) 24 (sample_bytes this.seconds this.channels))

  recording-few : length (recording_entries s i this) ≤ 274877906944
  unfolding recording_entries
  recording-few = omega (arith, recording-small, rw (take-length this.frames) at (frames-few (length this.frames)))

-- some recordings of an accepted file
pub recordings-few : (s : List ℕ) → Bytes s → {v : R.File} {r : List ℕ} {t : List Event} → R.judge s ≡ passed v r t → (n : ℕ) →
    length (each_of (recording_entries s) 0 (take n (R.contents v).recordings)) ≤ n * 274877906944
recordings-few s b {v} h n =
    each-few (recording_entries s) 0 n 274877906944 (R.contents v).recordings
    (each-zero (λ k x. length (recording_entries s k x) ≤ 274877906944) (R.contents v).recordings
    (λ c x e. let y = recording-there s h c e in
    subst (λ (z : R.Recording). length (recording_entries s (suc c) z) ≤ 274877906944) y.2 (recording-few s b (suc c) y.1)))
