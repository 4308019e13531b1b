-- The track of a channel, and what the reading has of it: the one is answered where the other is, and says where its samples stand.
-- Assumes nothing.
use mathlib.Core.Path.{◌≡◌, refl, sym, ap, ◌∙◌}
use mathlib.Core.Bool.{Bool, true, false}
use mathlib.Core.List.{List, []}
use Prim.Native.Nat.{ℕ, ◌-◌, ◌*◌, ◌≤◌, ◌<◌}
use native.Mathlib.Nat.{mul-le-mul_right}
use native.Mathlib.Omega.{arith}
use lib.ListN.{length, length-map}
use Rattle.words.specs.Numbers.{Bytes}
use Rattle.words.proofs.Values.{signed-pos}
use Rattle.walk.specs.Walk.{Event, passed}
use Rattle.rules.specs.Rules as R
use Rattle.rules.specs.Reading.{channel_reading, frame_reading, recording_reading, reading}
use Rattle.records.proofs.Facts.{between_in}
use Rattle.recordings.specs.Answers.{Answer, value, refusal, ◌>>=◌, indexed, numbered}
use Rattle.recordings.specs.Recordings.{Chosen, recording_of}
use Rattle.recordings.proofs.Chosen.{indexed-in, numbered-out, numbered-one}
use Rattle.samples.specs.Placed.{track_of}
use Rattle.samples.proofs.Framing.{numbered-some}
use Rattle.samples.proofs.Stretch.{width-least, bytes-before}
use Rattle.samples.proofs.Tracking.{track_in, place-on, track-there, track-out}
use Rattle.questions.specs.Tied.{channel_read, Alike, TrackIs}
use Rattle.questions.proofs.Described.{recording-well, channel-seen, format-is}
use Rattle.questions.proofs.Readings.{sub_alike, recording-known, seconds-small}

module _ (s : List ℕ) (b : Bytes s) {v : R.File} {t : List Event} (h : R.judge s ≡ passed v [] t) (i k : ℕ) where
  -- of one of the recording's channels, or of none
  track-of : track_of s i k ≡ (recording_of s i >>= λ r. numbered r.this.recording.channels k >>= λ c. value (track_in s r k c))
  track-of = go (recording_of s i) refl
    where
      among : (r : Chosen) → recording_of s i ≡ value r → (x : Bool) → R.between 1 (length r.this.recording.channels) k ≡ x →
          track_of s i k ≡ (numbered r.this.recording.channels k >>= λ c. value (track_in s r k c))
      among r is true e = let y = numbered-some r.this.recording.channels k e in rw y.1 (track-there s b i r is k y.0 y.1)
      among r is false e = rw (numbered-out r.this.recording.channels k e) (track-out s b i r is k e)

      go : (a : Answer Chosen) → recording_of s i ≡ a → track_of s i k ≡ (a >>= λ r. numbered r.this.recording.channels k >>= λ c. value (track_in s r k c))
      go (value r) e = among r e (R.between 1 (length r.this.recording.channels) k) refl
      go (refusal n p) e = rw e

  -- a frame is shorter than its length can say, and so has few samples
  few : (r : Chosen) (c : R.Channel) → recording_of s i ≡ value r → numbered r.this.recording.channels k ≡ value c → R.samples_in r.this.recording.seconds c < 2147483648
  few r c is nth =
      let cs : List R.Channel = r.this.recording.channels in
      let n = (numbered-one cs k nth).1 in
      let e : indexed cs (k - 1) ≡ value c = indexed-in c cs (k - 1) n.inside ∙ ap value (n.is c) in
      let m : R.samples_in r.this.recording.seconds c ≤ R.width c.format * R.samples_in r.this.recording.seconds c =
      omega (arith, mul-le-mul_right (R.samples_in r.this.recording.seconds c) (width-least c.format)) in
      omega (arith, m, bytes-before r.this.recording.seconds (k - 1) cs e, (recording-well s b h i r is).1.frames.small)

  track-is : (r : Chosen) (c : R.Channel) → recording_of s i ≡ value r → numbered r.this.recording.channels k ≡ value c → TrackIs s (reading v) i k (track_in s r k c) (channel_reading c)
  track-is r c is nth = record {
    order = refl;
    format = sym (format-is v.heading.label _ (channel-seen s b h i r is k nth));
    wide = refl;
    recording = recording_reading r.this.recording;
    held = recording-known s b h i is;
    frames = sym (length-map r.this.recording.frames (frame_reading r.this.recording.channels));
    seconds = sym (signed-pos 4 r.this.recording.seconds (omega (arith, seconds-small s b h i r is)));
    some = (between_in 1 3600 _ (recording-well s b h i r is).1.frames.seconds).0;
    few = few r c is nth;
    places = place-on s b i r is k c nth;
  }

  pub track-read : Alike (TrackIs s (reading v) i k) (track_of s i k) (channel_read (reading v) i k)
  track-read = rw track-of (sub_alike s b h i (λ r. r.this.recording.channels) (λ r. r.channels) (λ r. refl) (λ r c. track_in s r k c) k track-is)
