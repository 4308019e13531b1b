-- The track of a channel: what the code finds in the first frame says where its samples stand in every one.
-- Assumes nothing.
use mathlib.Core.Path.{◌≡◌, ap}
use mathlib.Core.Bool.{true, false}
use mathlib.Core.List.{List}
use Prim.Native.Nat.{ℕ, ◌+◌, ◌-◌, ◌≤◌}
use native.Mathlib.Omega.{arith}
use borrow.Author.Tests.{le-leb}
use lib.ListN.{length, take}
use Rattle.words.specs.Numbers.{Bytes}
use Rattle.words.specs.declared.Order.{Order}
use Rattle.walk.specs.Walk.{◌>>=◌, ◌>>◌}
use Rattle.walk.specs.See.{Yields}
use Rattle.walk.proofs.Seen.{yields}
use Rattle.rules.specs.Rules as R
use Rattle.rules.specs.Rules.{between, fixed, head, admit, basic_body}
use Rattle.rules.proofs.Asked.{recording-at, basic-at}
use Rattle.rules.proofs.Renewed.{recording-ok}
use Rattle.records.proofs.Facts.{between_in}
use Rattle.descriptions.specs.declared.Places.{Places}
use Rattle.recordings.specs.Answers.{value, refusal, numbered}
use Rattle.recordings.specs.Recordings.{Chosen, recording_of}
use Rattle.recordings.proofs.Chosen.{numbered-out, ChosenIn, chosen-in}
use Rattle.recordings.proofs.Standing.{found-seen}
use Rattle.samples.specs.Asked.{RunIn, track_at}
use Rattle.samples.specs.Frames.{ChosenFrame, frame_of, Samples, samples_of}
use Rattle.samples.specs.Placed.{place_in, place_of, track_of, place_on}
use Rattle.samples.specs.declared.Run.{Run}
use Rattle.samples.specs.declared.Track.{Track}
use Rattle.samples.proofs.Framing.{numbered-some, frame_at, this-one}
use Rattle.samples.proofs.Sampling.{samples_are, samples-are, many}

-- What the code answers

pub track-refused : (s : List ℕ) (i k : ℕ) {n p : ℕ} → samples_of s i 1 k ≡ refusal n p → refusal n p ≡ track_of s i k
track-refused s i k h = rw h

pub track-told : {s : List ℕ} {i k : ℕ} {o : Order} {q : Places} {run : Run} {x : Samples} → RunIn s i 1 k o q run x → value (track_at o q run) ≡ track_of s i k
track-told {q} h =
    let e₁ : q.frame ≡ h.frame.of.this.layout.frame = ap (λ (p : Places). p.frame) h.stands.found.same in
    let e₂ : q.seconds ≡ h.frame.of.this.recording.seconds = ap (λ (p : Places). p.seconds) h.stands.found.same in
    let e₃ = ap (λ (r : Run). r.format) h.same in
    let e₄ = ap (λ (r : Run). r.place) h.same in
    rw (h.is, h.stands.is) (ap value (λ n. record { order = h.order n; format = e₃ n; first = e₄ n; step = e₁ n; frames = h.stands.found.frames n; seconds = e₂ n }))

-- What it says: the track of channel c, number k of the recording r

abbrev pub track_in : List ℕ → Chosen → ℕ → R.Channel → Track
track_in s r k c = record {
  order = R.order_of s;
  format = c.format;
  first = record {
    position = frame_at r 1 + (24 + R.sample_bytes r.this.recording.seconds (take (k - 1) r.this.recording.channels));
    width = R.width c.format;
    count = R.samples_in r.this.recording.seconds c;
  };
  step = r.this.layout.frame;
  frames = length r.this.recording.frames;
  seconds = r.this.recording.seconds;
}

le_refl : 1 ≤ 1
le_refl = omega arith

between-true : (low high n : ℕ) → low ≤ n → n ≤ high → R.between low high n ≡ true
unfolding between
between-true low high n l h = rw (le-leb low n l, le-leb n high h)

-- a 100 that passed counts one frame or more
yields-frames : (o : Order) (b : ℕ) (s : List ℕ) (room at : ℕ) → Yields o b s at (R.basic room) (λ x e. 1 ≤ x.frames)
unfolding fixed head admit basic_body ◌>>=◌ ◌>>◌
yields-frames o b s room at _ _ _ _ _ _ _ f _ _ _ _ _ _ _ = (between_in 1 1000000 _ f).0

module _ (s : List ℕ) (b : Bytes s) (i : ℕ) (r : Chosen) (is : recording_of s i ≡ value r) where
  abbrev chosen : ChosenIn s i r
  chosen = chosen-in s b i r is

  -- so there is a first one
  pub frames-some : 1 ≤ length r.this.recording.frames
  frames-some =
      let x = chosen in
      let a = recording-at s b x.judged r.this r.index x.one.inside in
      let k = recording-ok x.file.heading.label a.held a.room (1 + r.index) a.found.plays in
      let g = basic-at s b x.judged r.this r.index x.one.inside in
      let y = yields (R.order_of s) 0 s _ _ _ (yields-frames (R.order_of s) 0 s _ _) (found-seen s b x.judged g) in
      omega (arith, rw (this-one s b i r x) at y, rw (this-one s b i r x) at k.frames.count)

  module _ (k : ℕ) (c : R.Channel) (nth : numbered r.this.recording.channels k ≡ value c) (j : ℕ) (first : 1 ≤ j) (last : j ≤ length r.this.recording.frames) where
    abbrev some : (f : R.Frame) × (numbered r.this.recording.frames j ≡ value f)
    some = numbered-some r.this.recording.frames j (between-true 1 (length r.this.recording.frames) j first last)

    abbrev frame : ChosenFrame
    frame = record { of = r; frame = some.0; at = frame_at r j }

    frame_is : frame_of s i j ≡ value frame
    frame_is = rw (is, some.1)

    samples-of : samples_of s i j k ≡ value (samples_are frame k c)
    samples-of = samples-are s b i j frame frame_is k c nth

    place_same : place_in (samples_are frame k c) ≡ place_on (track_in s r k c) j
    place_same =
        let e : frame_at r j + (24 + R.sample_bytes r.this.recording.seconds (take (k - 1) r.this.recording.channels)) ≡ (place_on (track_in s r k c) j).position = omega arith in
        let m = many s b i j frame frame_is k c nth in
        λ n. record { position = e n; width = R.width c.format; count = m n }

    -- in each frame the samples stand where the track says
    pub place-on : place_of s i j k ≡ value (place_on (track_in s r k c) j)
    place-on = rw samples-of (ap value place_same)

  -- the track is that of its channel, if it has one of this number
  pub track-there : (k : ℕ) (c : R.Channel) → numbered r.this.recording.channels k ≡ value c → track_of s i k ≡ value (track_in s r k c)
  track-there k c nth =
      let m = many s b i 1 (frame k c nth 1 le_refl frames-some) (frame_is k c nth 1 le_refl frames-some) k c nth in
      rw (samples-of k c nth 1 le_refl frames-some, frame_is k c nth 1 le_refl frames-some)
      (ap (λ (n : ℕ). value (record {
        order = R.order_of s;
        format = c.format;
        first = record {
          position = frame_at r 1 + (24 + R.sample_bytes r.this.recording.seconds (take (k - 1) r.this.recording.channels));
          width = R.width c.format;
          count = n;
        };
        step = r.this.layout.frame;
        frames = length r.this.recording.frames;
        seconds = r.this.recording.seconds;
      })) m)

  -- and else it is outside
  pub track-out : (k : ℕ) → R.between 1 (length r.this.recording.channels) k ≡ false → track_of s i k ≡ refusal 19 0
  track-out k e = let f = numbered-some r.this.recording.frames 1 (between-true 1 (length r.this.recording.frames) 1 le_refl frames-some) in rw (is, f.1, numbered-out r.this.recording.channels k e)
