-- Demands 2 and 3, of `track`: what C is told is the track, with the letter of its order; and of a file in the other order it is the same but for that.
-- Assumes nothing.
use mathlib.Core.Path.{◌≡◌, refl, ap, ◌∙◌}
use mathlib.Core.List.{List}
use Prim.Native.Nat.{ℕ, ◌≤◌}
use native.Mathlib.Omega.{arith}
use lib.ListN.{length}
use Rattle.words.specs.Numbers.{letter_of, other}
use Rattle.words.specs.declared.Order.{Order}
use Rattle.rules.specs.Reading.{ChannelReading, Reading}
use Rattle.rules.specs.Rules as R
use Rattle.recordings.specs.Answers.{Answer, value, refusal, ◌>>=◌}
use Rattle.samples.specs.Frames.{ChosenFrame, Samples, frame_of, samples_of}
use Rattle.samples.specs.Placed.{place_in, track_of}
use Rattle.samples.specs.declared.Track.{Track}
use Rattle.questions.specs.Tied.{TrackIs}
use Rattle.answers.specs.Flat.{flat_track}
use Rattle.answers.specs.declared.Track as TrackC
use Rattle.demands.specs.Demands.{TrackToldC, track_in_other, SameTrackButOrder}
use Rattle.demands.proofs.Refusing.{Proper, proper-track}

pub track-told : (s : List ℕ) (g : Reading) (i k : ℕ) (x : Track) (c : ChannelReading) → TrackIs s g i k x c → TrackToldC s g i k (flat_track (value x)) c
track-told s g i k x c y = record { letter = ap letter_of y.order; is = rw (← y.order) y }

-- the track that a file in this order answers, by the samples in the first frame and by that frame
abbrev track_by : Order → Answer Samples → Answer ChosenFrame → Answer Track
track_by o a c = do
  x ← a
  f ← c
  value (record {
    order = o;
    format = x.format;
    first = place_in x;
    step = f.of.this.layout.frame;
    frames = length f.of.this.recording.frames;
    seconds = f.of.this.recording.seconds;
  })

-- and in the other order
turned : (o : Order) (a : Answer Samples) (c : Answer ChosenFrame) → track_by (other o) a c ≡ (track_by o a c >>= λ x. value (track_in_other x))
turned o (value x) (value f) = refl
turned o (value x) (refusal n p) = refl
turned o (refusal n p) c = refl

-- for C: the letter of either, where there is a track; all other numbers are the same
abbrev unlettered : TrackC.Track → TrackC.Track
unlettered a = record {
  refusal = a.refusal;
  position = a.position;
  order = 0;
  format = a.format;
  start = a.start;
  width = a.width;
  count = a.count;
  step = a.step;
  frames = a.frames;
  seconds = a.seconds;
}

but-order : (o : Order) (a b : TrackC.Track) → unlettered a ≡ unlettered b → (a.refusal ≡ 0 → a.order ≡ letter_of o) → (a.refusal ≡ 0 → b.order ≡ letter_of (other o)) → (1 ≤ a.refusal → a ≡ b) → SameTrackButOrder o a b
but-order o a b e f g h = record {
  first = f;
  second = g;
  refused = h;
  refusal = ap (λ (x : TrackC.Track). x.refusal) e;
  position = ap (λ (x : TrackC.Track). x.position) e;
  format = ap (λ (x : TrackC.Track). x.format) e;
  start = ap (λ (x : TrackC.Track). x.start) e;
  width = ap (λ (x : TrackC.Track). x.width) e;
  count = ap (λ (x : TrackC.Track). x.count) e;
  step = ap (λ (x : TrackC.Track). x.step) e;
  frames = ap (λ (x : TrackC.Track). x.frames) e;
  seconds = ap (λ (x : TrackC.Track). x.seconds) e;
}

letters-told : (o : Order) (x : Track) → x.order ≡ o → SameTrackButOrder o (flat_track (value x)) (flat_track (value (track_in_other x)))
letters-told o x e = but-order o _ _ refl (λ _. ap letter_of e) (λ _. ap (λ (d : Order). letter_of (other d)) e) (λ l. absurd (omega arith))

module _ (s : List ℕ) (o : Order) where
  letters-refused : (n p : ℕ) → Proper s {A = Track} (refusal n p) → SameTrackButOrder o (flat_track (refusal n p)) (flat_track (refusal n p))
  letters-refused n p h = but-order o _ _ refl (λ z. absurd (omega (arith, h.nonzero))) (λ z. absurd (omega (arith, h.nonzero))) (λ _. refl)

  letters : (a : Answer Samples) (c : Answer ChosenFrame) → Proper s (track_by o a c) →
      SameTrackButOrder o (flat_track (track_by o a c)) (flat_track (track_by (other o) a c))
  letters (value x) (value f) h = letters-told o _ refl
  letters (value x) (refusal n p) h = letters-refused n p h
  letters (refusal n p) c h = letters-refused n p h

-- two files of which the rules say the same, in the two orders
module _ (s s' : List ℕ) (e : R.judge s' ≡ R.judge s) (d : R.order_of s' ≡ other (R.order_of s)) (i k : ℕ) where
  track-by : track_of s' i k ≡ track_by (other (R.order_of s)) (samples_of s i 1 k) (frame_of s i 1)
  track-by = rw (e, d)

  pub track-same : track_of s' i k ≡ (track_of s i k >>= λ x. value (track_in_other x))
  track-same = track-by ∙ turned (R.order_of s) (samples_of s i 1 k) (frame_of s i 1)

  pub boundary-track-same : SameTrackButOrder (R.order_of s) (flat_track (track_of s i k)) (flat_track (track_of s' i k))
  boundary-track-same = rw track-by (letters s (R.order_of s) (samples_of s i 1 k) (frame_of s i 1) (proper-track s i k))
