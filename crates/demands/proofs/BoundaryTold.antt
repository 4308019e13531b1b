-- Demands 2 and 3, of what C is answered: what the reading has, and the same of two files of which the rules say the same.
-- Assumes nothing.
use mathlib.Core.Path.{◌≡◌, refl, ap, ◌∙◌}
use mathlib.Core.List.{List}
use Prim.Native.Nat.{ℕ}
use lib.ListN.{length}
use Rattle.words.specs.Numbers.{Bytes}
use Rattle.words.specs.declared.Order.{Order}
use Rattle.walk.specs.Walk.{Event}
use Rattle.rules.specs.Rules as R
use Rattle.rules.specs.Reading.{Value, ChannelReading, Reading, reading}
use Rattle.rules.specs.declared.Version.{Version}
use Rattle.rules.specs.declared.Form.{Form}
use Rattle.records.specs.declared.items.Holder.TheVariants as Holder
use Rattle.recordings.specs.Answers.{Answer, value, refusal}
use Rattle.recordings.proofs.Chosen.{refusal-value}
use Rattle.samples.specs.Placed.{part_in}
use Rattle.samples.proofs.Placing.{all_of, part-inside}
use Rattle.questions.specs.Questions.{version_number, form_number, channel_of, montage_of}
use Rattle.questions.specs.Tied.{channel_read, montage_read, samples_read, Alike, values, refusals, FactsAre, NumbersAre, TextsAre, ItemIs, ClockIs, PlaceIs}
use Rattle.questions.specs.declared.channels.Descriptor.{Descriptor}
use Rattle.questions.proofs.Readings.{alike-value, facts-read, numbers-read, montage-count-read, clock-read}
use Rattle.questions.proofs.Texts.{channel-texts, montage-wired, item-text}
use Rattle.questions.proofs.Showing.{place-samples}
use Rattle.questions.proofs.Tracks.{track-read}
use Rattle.runs.specs.Runs as Runs
use Rattle.answers.specs.Flat.{spelling_number, flat_heading, flat_channel, flat_montage, flat_count, flat_place, flat_part}
use Rattle.answers.specs.declared.Heading.{Heading}
use Rattle.answers.specs.declared.Part.{Part}
use Rattle.answers.specs.declared.Place as PlaceC
use Rattle.psg.specs.Calls.{PlaceAnswers, PartAnswers}
use Rattle.demands.specs.Bits.{CalibrationIs, ChannelIs, MontageIs, SampleIs, SamplesAt}
use Rattle.demands.specs.Demands.{Accepted, header_read, HeadingIs, channel_code, TellsC, counts_c, entry_c, place_c, time_c, TrackToldC, BoundaryTells}
use Rattle.demands.proofs.Boundary.{Meant, facts, channel, montage-count, montage, item, clock, place, track, sample}
use Rattle.demands.proofs.Floats.{calibration-bits, montage-bits, sample-bits}
use Rattle.demands.proofs.Running.{run-read}
use Rattle.demands.proofs.Telling.{header-told}
use Rattle.demands.proofs.Tracking.{track-told}

-- Answers that are alike: in two ways, behind a value of the reading, and with the first taken apart

alike-also : {A B : Type 0} {P Q K : A → B → Type 0} {x : Answer A} {y : Answer B} → Alike P x y → Alike Q x y → ((a : A) (b : B) → P a b → Q a b → K a b) → Alike K x y
alike-also (values {a} {b} p) q f =
    let g = alike-value q refl in
    let e : b ≡ g.given = cc g.is in
    values (f a b p (rw e g.like))
alike-also refusals q f = refusals

alike-given : {A B : Type 0} {P : A → B → Type 0} {x : Answer A} {y : Answer B} {b : B} → Alike P x y → y ≡ value b → (a : A) × (x ≡ value a) × P a b
alike-given {b} (values {a} {b = c} p) e = let i : c ≡ b = cc in (a, refl, rw (← i) p)
alike-given refusals e = refusal-value e

module _ {Y E A : Type 0} (l : Meant {X = Y} value refusal E A) {X : Type 0} {P : Y → X → Type 0} {a : A} (Holds : A → X → Type 0) where
  tells : {m : Answer Y} {x : Answer X} → a ≡ l.flat m → Alike P m x → ((y : Y) (u : X) → P y u → Holds (l.flat (value y)) u) → TellsC (Holds a) (l.says a).0 (l.says a).1 x
  tells e (values {a = y} {b = u} p) f = (ap (λ (z : A). (l.says z).0) e ∙ l.zero y, rw e (f y u p))
  tells e (refusals {n} {p = q}) f = (ap (λ (z : A). (l.says z).0) e ∙ ap (λ (r : ℕ × ℕ). r.0) (l.named n q), ap (λ (z : A). (l.says z).1) e ∙ ap (λ (r : ℕ × ℕ). r.1) (l.named n q))

-- the numbers of a version and of a form
abbrev number_in : Version → ℕ
number_in v = version_number (record { version = v; form = Form.Channels })

abbrev form_in : Form → ℕ
form_in f = form_number (record { version = Version.V300; form = f })

-- what C is answered of a header
heading-is : (o : Order) (g : Reading) {a : Heading} → a ≡ flat_heading (value (header_read o g)) → HeadingIs o g a
unfolding R.decimal R.between R.all_spaces R.versioned R.formed
heading-is o g x =
    rw x (record { accepted = refl; spg = λ e. ap spelling_number e; psg = λ e. ap spelling_number e; v100 = λ e. ap number_in e; v110 = λ e. ap number_in e; v200 = λ e. ap number_in e; v300 = λ e. ap number_in e; channels = λ e. ap form_in e; electrodes = λ e. ap form_in e; order = refl; script = refl; recordings = refl })

-- An accepted file

channel-is : {s : List ℕ} {sub j : ℕ} (d : Descriptor) (c : ChannelReading) → (NumbersAre d c × TextsAre s d c) → CalibrationIs s sub j (flat_channel (value d)) c → ChannelIs s sub j (flat_channel (value d)) c
channel-is d c (n, t) b = record {
  number = n.number;
  flags = n.flags;
  kind = n.kind;
  format = n.format;
  rate = n.rate;
  frequency = n.frequency;
  low_cut = n.low_cut;
  high_cut = n.high_cut;
  sensitivity = n.sensitivity;
  label = t.label;
  unit = t.unit;
  comment = t.comment;
  calibration = b;
}

module _ (s : List ℕ) (b : Bytes s) {v : R.File} {t : List Event} (h : Accepted s v t) where
  channel-told : (i j : ℕ) → Alike (λ d c. ChannelIs s (channel_code (reading v)) j (flat_channel (value d)) c) (channel_of s i j) (channel_read (reading v) i j)
  channel-told i j =
      let x : Alike (λ d c. NumbersAre d c × TextsAre s d c) (channel_of s i j) (channel_read (reading v) i j) = alike-also (numbers-read s b h i j) (channel-texts s b h i j) (λ d c n m. (n, m)) in
      alike-also x (calibration-bits s b h i j) channel-is

  montage-told : (i j : ℕ) → Alike (λ d c. MontageIs s j (flat_montage (value d)) c) (montage_of s i j) (montage_read (reading v) i j)
  montage-told i j =
      alike-also (montage-wired s b h i j) (montage-bits s b h i j) (λ d c n m. record { channel = channel-is d.channel c (n.numbers, n.texts) m; g1 = n.g1; g2 = n.g2 })

  samples-at : (i j k : ℕ) (a : PlaceC.Place) → PlaceAnswers s i j k a → (c : Part) → PartAnswers (length s) a.start a.width a.count c → (vs : List Value) → samples_read (reading v) i j k ≡ value vs → SamplesAt s (reading v) i k c vs
  samples-at i j k a x c y vs e =
      let w = alike-given (place-samples s b h i j k) e in
      let l = part-inside (length s) w.0 w.2.inside in
      let f : a ≡ flat_place (value w.0) = x ∙ ap flat_place w.1 in
      let g : c ≡ flat_part (all_of w.0) = y ∙ (ap (λ (z : PlaceC.Place). flat_part (part_in (length s) (place_c z))) f ∙ ap flat_part l) in
      let n = w.2.count in
      rw g
      (record {
        channel = w.2.channel;
        described = w.2.described;
        inside = w.2.inside;
        long = rw (w.2.wide, n);
        shows = rw (← n) (rw l at w.2.shows);
      })

  pub boundary-tells : BoundaryTells s (reading v)
  boundary-tells = record {
    header = λ a x. heading-is (R.order_of s) (reading v) (x ∙ ap flat_heading (header-told s h));
    facts = λ i a x. tells facts (λ c. FactsAre (counts_c c)) x (facts-read s b h i) (λ y u k. k);
    channel = λ i j a x. tells channel (ChannelIs s (channel_code (reading v)) j) x (channel-told i j) (λ y u k. k);
    montage_count = λ i a x. tells montage-count (λ c r. c.count ≡ length r.montage) x (montage-count-read s b h i) (λ y u k. k);
    montage = λ i j a x. tells montage (MontageIs s j) x (montage-told i j) (λ y u k. k);
    patient_item = λ i j a x. tells item (λ c. ItemIs s (entry_c c)) x (item-text s b h i j Holder.Patient) (λ y u k. k);
    event_item = λ i j a x. tells item (λ c. ItemIs s (entry_c c)) x (item-text s b h i j Holder.Event) (λ y u k. k);
    clock = λ i j a x. tells clock (λ c. ClockIs (time_c c)) x (clock-read s b h i j) (λ y u k. k);
    place = λ i j k a x. tells place (λ c. PlaceIs s (reading v) i k (place_c c)) x (place-samples s b h i j k) (λ y u w. w);
    part = samples-at;
    track = λ i k a x. tells track (TrackToldC s (reading v) i k) x (track-read s b h i k) (track-told s (reading v) i k);
    sample = λ i j k n a x. tells sample (SampleIs s (reading v) i j k n) x (sample-bits s b h i j k n) (λ y u w. w);
    run = λ c i j k first n out out' a x. record {
      answer = x.answers ∙ ap (λ (y : Answer (List Value)). flat_count (Runs.counted n (length out) y)) (run-read s b h c i j k first n);
      buffer = x.holds ∙ ap (λ (y : Answer (List Value)). Runs.holding c n y out) (run-read s b h c i j k first n);
    };
  }
