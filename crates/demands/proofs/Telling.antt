-- Demand 2: each question answers what the file's reading says.
-- Assumes nothing.
use mathlib.Core.Path.{◌≡◌, refl, sym, ap, ◌∙◌}
use mathlib.Core.Bool.{Bool, true, false}
use mathlib.Core.List.{List, map}
use Prim.Native.Nat.{ℕ, ◌^◌, ◌<◌}
use native.Mathlib.Omega.{arith}
use borrow.Author.Tests.{eqb-true}
use lib.Dec.{eqb}
use lib.ListN.{length, get_or, length-map, get_or-map}
use Rattle.words.specs.Floats.{nan_pattern}
use Rattle.words.specs.Numbers.{Bytes}
use Rattle.words.specs.Values.{signed, unsigned}
use Rattle.words.proofs.Floats.{bits_of-float_of}
use Rattle.walk.specs.Walk.{pick, Event}
use Rattle.rules.specs.Reading.{Value, whole, float, value_of, channel_reading, frame_reading, recording_reading, reading}
use Rattle.rules.specs.Words.{channel_words, recording_words}
use Rattle.rules.specs.Rules as R
use Rattle.rules.specs.Rules.{width}
use Rattle.rules.proofs.Rewrite.{reading-words}
use Rattle.recordings.specs.Answers.{Answer, value, refusal, ◌>>=◌, indexed, numbered}
use Rattle.recordings.proofs.Chosen.{indexed-one}
use Rattle.samples.specs.Frames.{time_of, Samples, number_in, float_in}
use Rattle.samples.specs.declared.Number.{Number}
use Rattle.samples.proofs.Bits.{a-pattern, a-float}
use Rattle.questions.specs.Questions.{header_in, header_of, facts_of, channel_of, montage_count_of, montage_of, clock_of, sample_of}
use Rattle.questions.specs.Tied.{recording_read, channel_read, montage_read, frame_read, sample_read}
use Rattle.questions.specs.Values.{some_nan, floats_of, calibration_of, descriptor_of, wired_of}
use Rattle.questions.specs.declared.channels.Calibration.TheVariants as Calibration
use Rattle.questions.proofs.Calibrated.{plain, patterns, floats}
use Rattle.questions.proofs.Described.{sub_at, wired_at, channel-seen, montage-seen}
use Rattle.questions.proofs.Readings.{channel-alike, montage-alike, montage-count-read}
use Rattle.demands.specs.Demands.{Accepted, calibrated_by, value_told, header_read, counts_in, time_in, DescriptorTells, Agree, values, refusals}
use Rattle.demands.proofs.Agreeing.{agree_then, agree_on, agree-equal, agree-alike, alike-equal, image-value}
use Rattle.demands.proofs.Floats.{WordsSmall, words_small}
use Rattle.demands.proofs.Samples.{numbers-small, Stand, recording-picked, frame-picked, samples-stand}

-- Numbers: what the code answers keeps a float's bits

float-told : (n : ℕ) → n < 2 ^ 32 → value_told (float_in n) ≡ float n
float-told n h = go (nan_pattern n) refl
  where
    go : (c : Bool) → nan_pattern n ≡ c → value_told (float_in n) ≡ float n
    go true e = rw (a-pattern n e)
    go false e = rw (a-float n e) (ap float (bits_of-float_of n h e))

-- of a word of this format
number-told : (format n : ℕ) → n < 256 ^ width format → value_told (number_in (value_of format (width format) n)) ≡ value_of format (width format) n
unfolding value_of width
number-told format n h = go (eqb format 4) refl
  where
    wide : eqb format 4 ≡ true → n < 2 ^ 32
    wide e = rw (eqb-true format 4 e) at h

    go : (c : Bool) → eqb format 4 ≡ c → value_told (number_in (pick c (float n) (whole (signed (width format) n)))) ≡ pick c (float n) (whole (signed (width format) n))
    go true e = float-told n (wide e)
    go false e = refl

pub sample-kept : {v : R.File} {t : List Event} {i k : ℕ} {l : List Value} {x : Samples} → Stand v t i k l x → (n : ℕ) {u : Value} → indexed x.values n ≡ value u → value_told (number_in u) ≡ u
sample-kept {x} st n {u} e =
    let f : ℕ → Value = value_of x.format (width x.format) in
    let o = indexed-one x.values n e in
    let m : ℕ = get_or st.words n 0 in
    let z : u ≡ f m = sym (o.is (f 0)) ∙ (ap (λ (y : List Value). get_or y n (f 0)) st.each ∙ get_or-map f st.words n 0) in
    let l : n < length st.words = omega (arith, o.inside, ap length st.each, length-map st.words f) in
    rw z (number-told x.format m (numbers-small (width x.format) st.many st.found.plays n l))

module _ (format a b c d : ℕ) (h₁ : a < 2 ^ 32) (h₂ : b < 2 ^ 32) (h₃ : c < 2 ^ 32) (h₄ : d < 2 ^ 32) where
  calibrated : calibrated_by (calibration_of format a b c d) ≡ record { cal = value_of format 4 a; cal_ad = value_of format 4 b; offset_ad = value_of format 4 c; offset_cal = value_of format 4 d }
  unfolding calibration_of value_of
  calibrated = go (eqb format 4)
    where
      four : (n : Bool) → some_nan a b c d ≡ n → calibrated_by (floats_of a b c d) ≡ record { cal = float a; cal_ad = float b; offset_ad = float c; offset_cal = float d }
      four true e = rw (patterns a b c d e)
      four false e =
          let p = plain a b c d e in
          rw (floats a b c d e)
          (λ j. record { cal = float (bits_of-float_of a h₁ p.cal j); cal_ad = float (bits_of-float_of b h₂ p.cal_ad j); offset_ad = float (bits_of-float_of c h₃ p.offset_ad j); offset_cal = float (bits_of-float_of d h₄ p.offset_cal j) })

      go : (x : Bool) → calibrated_by (pick x (floats_of a b c d) (Calibration.Numbers (signed 4 a) (signed 4 b) (signed 4 c) (signed 4 d))) ≡
          record { cal = pick x (float a) (whole (signed 4 a)); cal_ad = pick x (float b) (whole (signed 4 b)); offset_ad = pick x (float c) (whole (signed 4 c)); offset_cal = pick x (float d) (whole (signed 4 d)) }
      go true = four (some_nan a b c d) refl
      go false = refl

channel-told : (c : R.Channel) (p : ℕ) → WordsSmall c → DescriptorTells (channel_reading c) (descriptor_of c p)
unfolding descriptor_of
channel-told c p h = record {
  number = refl;
  flags = refl;
  kind = refl;
  format = refl;
  rate = refl;
  calibration = calibrated c.format c.cal c.cal_ad c.offset_ad c.offset_cal h.cal h.cal_ad h.offset_ad h.offset_cal;
  frequency = refl;
  low_cut = refl;
  high_cut = refl;
  sensitivity = refl;
}

-- The questions about an accepted file

pub header-told : (s : List ℕ) {v : R.File} {t : List Event} → Accepted s v t → header_of s ≡ value (header_read (R.order_of s) (reading v))
header-told s {v} h =
    let rs : List R.Recording = map (λ (p : R.Placed). p.recording) v.recordings in
    let n : length (map recording_reading rs) ≡ length v.recordings = length-map rs recording_reading ∙ length-map v.recordings (λ (p : R.Placed). p.recording) in
    rw h (ap (λ (k : ℕ). value (header_in (R.order_of s) v.heading k)) (sym n))

module _ (s : List ℕ) (b : Bytes s) {v : R.File} {t : List Event} (h : Accepted s v t) (i : ℕ) where
  -- the words of a recording are those of its reading
  recording-words : (p : R.Placed) → numbered v.recordings i ≡ value p → recording_words (recording_reading p.recording) ≡ p.recording
  recording-words p is =
      let x = image-value (λ (q : R.Placed). q.recording) v.recordings i is in
      let y = image-value recording_words _ i (image-value recording_reading _ i x) in
      cc (sym y ∙ (ap (λ (c : R.Contents). numbered c.recordings i) (reading-words s b h) ∙ x))

  pub channel-words : (p : R.Placed) → numbered v.recordings i ≡ value p → (k : ℕ) (c : R.Channel) → numbered p.recording.channels k ≡ value c → channel_words (channel_reading c) ≡ c
  channel-words p is k c has =
      let y = image-value channel_words _ k (image-value channel_reading p.recording.channels k has) in
      cc (sym y ∙ (ap (λ (r : R.Recording). numbered r.channels k) (recording-words p is) ∙ has))

  pub facts-told : facts_of s i ≡ (recording_read (reading v) i >>= λ r. value (counts_in r))
  facts-told =
      agree-equal
      (agree_then (λ r. value (counts_in r))
      (λ c. value (record { channels = length c.this.recording.channels; frames = length c.this.recording.frames; seconds = c.this.recording.seconds })) (recording-picked s h i)
      (λ r c p.
      let q : R.Recording = c.this.recording in
      let m : length q.channels ≡ length (map channel_reading q.channels) = sym (length-map q.channels channel_reading) in
      let f : length q.frames ≡ length (map (frame_reading q.channels) q.frames) = sym (length-map q.frames (frame_reading q.channels)) in
      let u : q.seconds ≡ unsigned 4 (signed 4 q.seconds) = sym (ap (λ (x : R.Recording). x.seconds) (recording-words c.this p.is)) in
      rw p.reads (values (λ n. record { channels = m n; frames = f n; seconds = u n }))))

  pub channel-agrees : (j : ℕ) → Agree DescriptorTells (channel_read (reading v) i j) (channel_of s i j)
  channel-agrees j = agree-alike (channel-alike s b h i j (λ r c is nth. channel-told c (sub_at r j) (words_small b (channel-seen s b h i r is j nth))))

  pub montage-count-told : montage_count_of s i ≡ (recording_read (reading v) i >>= λ r. value (length r.montage))
  montage-count-told = alike-equal (montage-count-read s b h i)

  pub montage-agrees : (j : ℕ) → Agree (λ c d. DescriptorTells c d.channel) (montage_read (reading v) i j) (montage_of s i j)
  unfolding wired_of
  montage-agrees j = agree-alike (montage-alike s b h i j (λ r c is nth. channel-told c (wired_at r j) (words_small b (montage-seen s b h i r is j nth))))

  pub clock-told : (j : ℕ) → clock_of s i j ≡ (frame_read (reading v) i j >>= λ f. value (time_in f))
  clock-told j =
      agree-equal (agree_then (λ f. value (time_in f)) (λ f. value (time_of f.frame)) (frame-picked s h i j) (λ g f p. rw p.reads (values refl)))

  module _ (j k : ℕ) where
    -- a sample of the answer is this value
    abbrev Told : Value → Number → Type 0
    Told u y = value_told y ≡ u

    one_told : (n : ℕ) (l : List Value) (x : Samples) → Stand v t i k l x → Agree Told (indexed l n) (indexed x.values n >>= λ u. value (number_in u))
    one_told n l x st = rw (← st.values) (go (indexed x.values n) refl)
      where
        go : (y : Answer Value) → indexed x.values n ≡ y → Agree Told y (y >>= λ u. value (number_in u))
        go (value u) e = values (sample-kept st n e)
        go (refusal m p) e = refusals

    pub sample-told : (n : ℕ) → (sample_of s i j k n >>= λ y. value (value_told y)) ≡ sample_read (reading v) i j k n
    sample-told n =
        agree-equal (agree_on value_told (agree_then (λ l. indexed l n) (λ x. indexed x.values n >>= λ u. value (number_in u)) (samples-stand s b h i j k) (one_told n)) (λ u y e. e))
