-- In an accepted file the calibration numbers and the samples that C is answered have the file's bits, and mean the reading's values.
-- Assumes nothing.
use mathlib.Core.Path.{◌≡◌, refl, sym, ap, ◌∙◌}
use mathlib.Core.Bool.{Bool, true, false}
use mathlib.Core.List.{List, []}
use Prim.Native.Nat.{ℕ, ◌+◌, ◌*◌, ◌^◌, ◌≤◌, ◌<◌}
use native.Mathlib.Nat.{mul-le-mul_left}
use native.Mathlib.Omega.{arith}
use borrow.Author.Tests.{eq-eqb, ne_eqb, eqb-true, eqb-false}
use lib.Dec.{eqb}
use lib.IntN.{pos}
use lib.ListN.{length}
use Rattle.words.specs.Floats.{nan_pattern}
use Rattle.words.specs.Numbers.{Bytes, number_at}
use Rattle.words.specs.Values.{signed, unsigned}
use Rattle.words.specs.declared.Order.{Order}
use Rattle.words.proofs.Floats.{bits_of-float_of}
use Rattle.words.proofs.Values.{signed-pos, unsigned_signed}
use Rattle.words.proofs.Words.{number_lt}
use Rattle.walk.specs.Walk.{Event, pick, passed}
use Rattle.rules.specs.Rules as R
use Rattle.rules.specs.Rules.{order_of, width}
use Rattle.rules.specs.Reading.{Value, whole, float, value_of, channel_reading, reading}
use Rattle.rules.proofs.Held.{same-sub}
use Rattle.recordings.specs.Answers.{value, indexed}
use Rattle.recordings.proofs.Chosen.{indexed-one}
use Rattle.samples.specs.Frames.{Samples, samples_of, float_in, number_in}
use Rattle.samples.specs.Placed.{place_in}
use Rattle.samples.proofs.Bits.{a-pattern, a-float}
use Rattle.samples.proofs.Framing.{frame-of}
use Rattle.samples.proofs.Sampling.{samples-from}
use Rattle.questions.specs.Questions.{channel_of, montage_of, sample_of}
use Rattle.questions.specs.Tied.{channel_read, montage_read, sample_read, Alike, format_in}
use Rattle.questions.specs.Values.{some_nan, floats_of, calibration_of, Words, descriptor_of, wired_of}
use Rattle.questions.specs.declared.channels.Calibration.{Calibration}
use Rattle.questions.proofs.Calibrated.{floats, patterns, words-kept}
use Rattle.questions.proofs.Described.{ChannelSeen, channel-seen, montage-seen, sub-seen, format-is}
use Rattle.questions.proofs.Readings.{alike-bind, alike_then, alike_self, channel-alike, montage-alike, channel-known, samples-alike}
use Rattle.demands.specs.Bits.{value_in, WordIs, CalibrationIs, FloatAt, WholeNumberAt, SampleIs}
use Rattle.demands.specs.Demands.{channel_code}
use Rattle.answers.specs.Flat.{are_floats, flat_channel, flat_sample}
use Rattle.answers.specs.declared.Sample.{Sample}

-- Calibration

module _ (c : R.Channel) where
  abbrev calibration : Calibration
  calibration = calibration_of c.format c.cal c.cal_ad c.offset_ad c.offset_cal

  are-floats : c.format ≡ 4 → are_floats calibration ≡ 1
  unfolding calibration_of
  are-floats e = rw (eq-eqb c.format 4 e) (go (some_nan c.cal c.cal_ad c.offset_ad c.offset_cal) refl)
    where
      go : (x : Bool) → some_nan c.cal c.cal_ad c.offset_ad c.offset_cal ≡ x → are_floats (floats_of c.cal c.cal_ad c.offset_ad c.offset_cal) ≡ 1
      go true h = rw (patterns c.cal c.cal_ad c.offset_ad c.offset_cal h)
      go false h = rw (floats c.cal c.cal_ad c.offset_ad c.offset_cal h)

  are-numbers : (c.format ≡ 4 → ⊥) → are_floats calibration ≡ 0
  unfolding calibration_of
  are-numbers n = rw (ne_eqb c.format 4 n)

  -- what one of the four words means
  word-means : (n : ℕ) → value_of c.format 4 n ≡ value_in (are_floats calibration) n (signed 4 n)
  unfolding value_of
  word-means n = go (eqb c.format 4) refl
    where
      go : (x : Bool) → eqb c.format 4 ≡ x → pick (eqb c.format 4) (float n) (whole (signed 4 n)) ≡ value_in (are_floats calibration) n (signed 4 n)
      go true e = rw (are-floats (eqb-true c.format 4 e), e)
      go false e = rw (are-numbers (eqb-false c.format 4 e), e)

  word-is : (s : List ℕ) (p : ℕ) {word n : ℕ} → word ≡ n → n ≡ number_at (order_of s) 4 s p → WordIs s p (are_floats calibration) word (value_of c.format 4 n)
  word-is s p {n} h e = record { bits = h ∙ e; means = rw h (word-means n) }

-- the words of a sub that stands in the file
pub record WordsSmall (c : R.Channel) : Type 0 where
  pub format : c.format < 2 ^ 32
  pub cal : c.cal < 2 ^ 32
  pub cal_ad : c.cal_ad < 2 ^ 32
  pub offset_ad : c.offset_ad < 2 ^ 32
  pub offset_cal : c.offset_cal < 2 ^ 32

-- what the walk gave of them
record WordsStand (o : Order) (s : List ℕ) (p : ℕ) (c : R.Channel) : Type 0 where
  format : c.format ≡ number_at o 4 s (p + 28)
  cal : c.cal ≡ number_at o 4 s (p + 36)
  cal_ad : c.cal_ad ≡ number_at o 4 s (p + 40)
  offset_ad : c.offset_ad ≡ number_at o 4 s (p + 44)
  offset_cal : c.offset_cal ≡ number_at o 4 s (p + 48)

module _ {s : List ℕ} (b : Bytes s) {k : R.Sub} {p j : ℕ} {c : R.Channel} (x : ChannelSeen k s p j c) where
  words-stand : WordsStand (order_of s) s p c
  words-stand = rw (sub-seen x).is (record { format = refl; cal = refl; cal_ad = refl; offset_ad = refl; offset_cal = refl })

  pub words_small : WordsSmall c
  words_small =
      let w = words-stand in
      record { format = small 28 w.format (omega arith); cal = small 36 w.cal (omega arith); cal_ad = small 40 w.cal_ad (omega arith); offset_ad = small 44 w.offset_ad (omega arith); offset_cal = small 48 w.offset_cal (omega arith) }
    where
      small : (q : ℕ) {n : ℕ} → n ≡ number_at (order_of s) 4 s (p + q) → q + 4 ≤ 256 → n < 2 ^ 32
      small q e l = rw e (number_lt (order_of s) 4 s (p + q) b (omega (arith, l, x.inside)))

  calibration-at : CalibrationIs s k.code j (flat_channel (value (descriptor_of c p))) (channel_reading c)
  unfolding descriptor_of unsigned
  calibration-at =
      let z = sub-seen x in
      let e = words-stand in
      let h = words_small in
      let w = words-kept c.cal c.cal_ad c.offset_ad c.offset_cal h.cal h.cal_ad h.offset_ad h.offset_cal c.format in
      record {
        at = p;
        label = refl;
        code = eqb-true _ k.code z.code;
        serial = sym (eqb-true j _ z.serial);
        inside = x.inside;
        cal = word-is c s (p + 36) (ap (λ (y : Words). y.cal) w) e.cal;
        cal_ad = word-is c s (p + 40) (ap (λ (y : Words). y.cal_ad) w) e.cal_ad;
        offset_ad = word-is c s (p + 44) (ap (λ (y : Words). y.offset_ad) w) e.offset_ad;
        offset_cal = word-is c s (p + 48) (ap (λ (y : Words). y.offset_cal) w) e.offset_cal;
        floats = λ f. are-floats c (sym (unsigned_signed 4 c.format h.format) ∙ ap (unsigned 4) f);
        numbers = λ f. are-numbers c (λ e. f (ap (signed 4) e ∙ signed-pos 4 4 (omega arith)));
      }

-- A sample

-- a float of 32 bits, taken apart
flat-float : (n : ℕ) → n < 2 ^ 32 → flat_sample (value (float_in n)) ≡ record { refusal = 0; position = 0; is_float = 1; value = pos 0; bits = n }
flat-float n h = go (nan_pattern n) refl
  where
    go : (x : Bool) → nan_pattern n ≡ x → flat_sample (value (float_in n)) ≡ record { refusal = 0; position = 0; is_float = 1; value = pos 0; bits = n }
    go true e = rw (a-pattern n e)
    go false e = rw (a-float n e) (λ i. record { refusal = 0; position = 0; is_float = 1; value = pos 0; bits = bits_of-float_of n h e i })

-- the sample at byte p, in a channel of this format
record FlatAt (s : List ℕ) (format p : ℕ) (x : Value) (a : Sample) : Type 0 where
  means : x ≡ value_in a.is_float a.bits a.value
  floats : format ≡ 4 → FloatAt s p a
  numbers : (format ≡ 4 → ⊥) → WholeNumberAt s (width format) p a

flat-at : (s : List ℕ) → Bytes s → (format p : ℕ) → p + width format ≤ length s →
    let x = value_of format (width format) (number_at (order_of s) (width format) s p) in FlatAt s format p x (flat_sample (value (number_in x)))
unfolding value_of width
flat-at s b format p l = go (eqb format 4) refl
  where
    go : (y : Bool) → eqb format 4 ≡ y → let x = value_of format (width format) (number_at (order_of s) (width format) s p) in FlatAt s format p x (flat_sample (value (number_in x)))
    go true e =
        let f = eqb-true format 4 e in
        let n = number_lt (order_of s) 4 s p b (rw f at l) in
        rw (f, flat-float (number_at (order_of s) 4 s p) n) (record { means = refl; floats = λ _. record { is_float = refl; bits = refl }; numbers = λ m. absurd (m refl) })
    go false e = rw e (record { means = refl; floats = λ f. absurd (eqb-false format 4 e f); numbers = λ _. record { is_float = refl; number = refl } })

wide : width 4 ≡ 4
unfolding width
wide = refl

-- an accepted file
module _ (s : List ℕ) (b : Bytes s) {v : R.File} {t : List Event} (h : R.judge s ≡ passed v [] t) (i j : ℕ) where
  pub calibration-bits : Alike (λ d c. CalibrationIs s (channel_code (reading v)) j (flat_channel (value d)) c) (channel_of s i j) (channel_read (reading v) i j)
  calibration-bits = channel-alike s b h i j (λ r c is nth. rw (ap (λ (k : R.Sub). k.code) (same-sub v.heading.label r.this.recording.basic.channels 0)) at (calibration-at b (channel-seen s b h i r is j nth)))

  -- of a montage's channel
  pub montage-bits : Alike (λ d c. CalibrationIs s 355 j (flat_channel (value d.channel)) c) (montage_of s i j) (montage_read (reading v) i j)
  unfolding wired_of
  montage-bits = montage-alike s b h i j (λ r c is nth. calibration-at b (montage-seen s b h i r is j nth))

  module _ (k n : ℕ) where
    sample-is : (x : Samples) (y : Value) → samples_of s i j k ≡ value x → indexed x.values n ≡ value y → SampleIs s (reading v) i j k n (flat_sample (value (number_in y))) y
    sample-is x y a nth =
        let z = samples-from s b i j k a in
        let f = frame-of s b i j z.framed in
        let l : n < length x.values = (indexed-one x.values n nth).inside in
        let e : format_in (channel_reading z.channel) ≡ x.format = format-is v.heading.label _ (channel-seen s b h i z.frame.of f.asked k z.described) ∙ sym z.format in
        let g : y ≡ value_of x.format (width x.format) (number_at (order_of s) (width x.format) s (x.at + width x.format * n)) = cc (z.located.each n l) in
        let w = flat-at s b x.format (x.at + width x.format * n) (omega (arith, mul-le-mul_left (width x.format) l, z.located.inside)) in
        rw g
        (record {
          means = w.means;
          channel = channel_reading z.channel;
          described = channel-known s b h i z.frame.of k f.asked z.described;
          place = place_in x;
          placed = rw a;
          floats = λ m.
              let d : x.at + width x.format * n ≡ x.at + 4 * n = rw (sym e ∙ m, wide) in
              rw (← d) (w.floats (sym e ∙ m));
          numbers = λ m. rw e (w.numbers (λ d. m (e ∙ d)));
        })

    pub sample-bits : Alike (λ x y. SampleIs s (reading v) i j k n (flat_sample (value x)) y) (sample_of s i j k n) (sample_read (reading v) i j k n)
    sample-bits =
        alike-bind _ _ (samples-alike s b h i j k)
        (λ x vs is e. rw e (alike_then number_in (alike_self (indexed x.values n)) (λ y z nth d. rw d (sample-is x y is nth))))
