-- In an accepted file the bytes of a place, read by the channel's width and the file's order, are the reading's samples, all of them and in order.
-- Assumes nothing.
use mathlib.Core.Path.{◌≡◌, refl, sym, ap, ◌∙◌}
use mathlib.Core.List.{List, []}
use Prim.Native.Nat.{ℕ}
use Rattle.words.specs.Numbers.{Bytes}
use Rattle.walk.specs.Walk.{Event, passed}
use Rattle.rules.specs.Rules as R
use Rattle.rules.specs.Reading.{channel_reading, reading}
use Rattle.recordings.specs.Answers.{value}
use Rattle.samples.specs.Frames.{Samples, samples_of}
use Rattle.samples.specs.Placed.{place_in, place_of}
use Rattle.samples.proofs.Framing.{frame-of}
use Rattle.samples.proofs.Placing.{all_shown}
use Rattle.samples.proofs.Sampling.{samples-from}
use Rattle.questions.specs.Tied.{samples_read, Alike, format_in, PlaceIs}
use Rattle.questions.proofs.Described.{channel-seen, format-is}
use Rattle.questions.proofs.Readings.{alike_then, channel-known, samples-alike}

module _ (s : List ℕ) (b : Bytes s) {v : R.File} {t : List Event} (h : R.judge s ≡ passed v [] t) (i j k : ℕ) where
  place_is : (x : Samples) → samples_of s i j k ≡ value x → PlaceIs s (reading v) i k (place_in x) x.values
  place_is x a =
      let y = samples-from s b i j k a in
      let f = frame-of s b i j y.framed in
      let c = channel-seen s b h i y.frame.of f.asked k y.described in
      let e : format_in (channel_reading y.channel) ≡ x.format = format-is v.heading.label _ c ∙ sym y.format in
      record {
        channel = channel_reading y.channel;
        described = channel-known s b h i y.frame.of k f.asked y.described;
        wide = ap R.width (sym e);
        count = refl;
        inside = y.located.inside;
        shows = rw e (all_shown s x y.located);
      }

  pub place-samples : Alike (PlaceIs s (reading v) i k) (place_of s i j k) (samples_read (reading v) i j k)
  place-samples = alike_then place_in (samples-alike s b h i j k) (λ x vs a e. rw e (place_is x a))
