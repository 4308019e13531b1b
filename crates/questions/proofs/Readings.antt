-- What a question asks for by the rules' value for an accepted file, and what stands at the same numbers in the file's reading: the one is there where
-- the other is, and is read as the other.
-- Assumes nothing.
use mathlib.Core.Path.{◌≡◌, refl, sym, ap, ◌∙◌}
use mathlib.Core.Bool.{Bool, true, false}
use mathlib.Core.List.{List, [], ◌∷◌, map, map-map}
use Prim.Native.Nat.{ℕ, zero, suc, ◌+◌, ◌-◌, ◌≤◌}
use native.Mathlib.Omega.{arith}
use lib.ListN.{length, take, length-map}
use Rattle.words.specs.Numbers.{Bytes}
use Rattle.words.proofs.Values.{signed-pos}
use Rattle.walk.specs.Walk.{Event, pick, passed}
use Rattle.rules.specs.Rules as R
use Rattle.rules.specs.Reading.{Value, ChannelReading, channel_reading, ItemReading, item_reading, frame_reading, RecordingReading, recording_reading, samples_reading, reading}
use Rattle.records.specs.declared.items.Holder.{Holder}
use Rattle.records.proofs.Facts.{between_in}
use Rattle.recordings.specs.Answers.{Answer, value, refusal, ◌>>=◌, indexed, numbered}
use Rattle.recordings.specs.Recordings.{Chosen, recording_of}
use Rattle.recordings.proofs.Chosen.{refusal-value, numbered-out}
use Rattle.samples.specs.Frames.{ChosenFrame, frame_of, time_of, Samples, samples_of}
use Rattle.samples.proofs.Framing.{numbered-some, frame_at, frame-of}
use Rattle.samples.proofs.Readings.{samples-many}
use Rattle.samples.proofs.Sampling.{frame-samples}
use Rattle.questions.specs.Questions.{facts_of, channel_of, montage_count_of, montage_of, items_of, items_at, item_in, item_of, clock_of}
use Rattle.questions.specs.Tied.{recording_read, channel_read, montage_read, items_read, item_read, frame_read, samples_read, Alike, values, refusals, FactsAre, MontageCountIs, NumbersAre, ClockIs}
use Rattle.questions.specs.Values.{descriptor_of, wired_of, entry_of}
use Rattle.questions.specs.declared.channels.Descriptor.{Descriptor}
use Rattle.questions.specs.declared.channels.Wired.{Wired}
use Rattle.questions.specs.declared.items.Entry.{Entry}
use Rattle.questions.proofs.Described.{sub_at, wired_at, recording-well}

-- Answers that are alike

module _ {A B : Type 0} {P : A → B → Type 0} where
  -- one after the other
  pub alike-bind : {C D : Type 0} {Q : C → D → Type 0} {a : Answer A} {b : Answer B} (k : A → Answer C) (m : B → Answer D) → Alike P a b →
      ((x : A) (y : B) → a ≡ value x → P x y → Alike Q (k x) (m y)) → Alike Q (a >>= k) (b >>= m)
  alike-bind k m (values {a = x} {b = y} h) f = f x y refl h
  alike-bind k m refusals f = refusals

  -- a value made of the one that was answered
  pub alike_then : {C : Type 0} {Q : C → B → Type 0} {a : Answer A} {b : Answer B} (k : A → C) → Alike P a b → ((x : A) (y : B) → a ≡ value x → P x y → Q (k x) y) → Alike Q (a >>= λ x. value (k x)) b
  alike_then k (values {a = x} {b = y} h) f = values (f x y refl h)
  alike_then k refusals f = refusals

-- a value that is answered has its like
pub record Has {A B : Type 0} (P : A → B → Type 0) (x : A) (b : Answer B) : Type 0 where
  pub given : B
  pub is : b ≡ value given
  pub like : P x given

pub alike-value : {A B : Type 0} {P : A → B → Type 0} {a : Answer A} {b : Answer B} {x : A} → Alike P a b → a ≡ value x → Has P x b
alike-value {x} (values {a = z} {b = y} h) e = let d : z ≡ x = cc in record { given = y; is = refl; like = rw d at h }
alike-value refusals e = refusal-value e

pub alike_self : {A : Type 0} (a : Answer A) → Alike (λ x y. y ≡ x) a a
alike_self (value x) = values refl
alike_self (refusal n p) = refusals

-- one of a list, and its reading
module _ {A B : Type 0} (f : A → B) where
  alike-indexed : (l : List A) (i : ℕ) → Alike (λ x y. y ≡ f x) (indexed l i) (indexed (map f l) i)
  unfolding indexed
  alike-indexed [] i = refusals
  alike-indexed (x ∷ l) zero = values refl
  alike-indexed (x ∷ l) (suc i) = alike-indexed l i

  alike-numbered : (l : List A) (n : ℕ) → Alike (λ x y. y ≡ f x) (numbered l n) (numbered (map f l) n)
  unfolding numbered
  alike-numbered l zero = refusals
  alike-numbered l (suc i) = alike-indexed l i

  known : {a : Answer A} {b : Answer B} {x : A} → Alike (λ x y. y ≡ f x) a b → a ≡ value x → b ≡ value (f x)
  known h e = let g = alike-value h e in g.is ∙ ap value g.like

-- the whole numbers of a channel
pub numbers-are : (c : R.Channel) (p : ℕ) → NumbersAre (descriptor_of c p) (channel_reading c)
unfolding descriptor_of
numbers-are c p = record { number = refl; flags = refl; kind = refl; format = refl; rate = refl; frequency = refl; low_cut = refl; high_cut = refl; sensitivity = refl }

-- An accepted file

module _ (s : List ℕ) (b : Bytes s) {v : R.File} {t : List Event} (h : R.judge s ≡ passed v [] t) (i : ℕ) where
  recording-alike : Alike (λ r x. x ≡ recording_reading r.this.recording) (recording_of s i) (recording_read (reading v) i)
  recording-alike =
      rw (h, map-map recording_reading (λ (p : R.Placed). p.recording) v.recordings)
      (alike_then (λ x. record { all = v.recordings; index = i - 1; this = x }) (alike-numbered (λ (p : R.Placed). recording_reading p.recording) v.recordings i) (λ x y _ e. e))

  pub recording-known : {r : Chosen} → recording_of s i ≡ value r → recording_read (reading v) i ≡ value (recording_reading r.this.recording)
  recording-known is = known (λ r. recording_reading r.this.recording) recording-alike is

  -- a channel of one of its lists: what is asked of it and of its reading
  pub sub_alike : {A : Type 0} {K : A → ChannelReading → Type 0} (list : Chosen → List R.Channel) (read : RecordingReading → List ChannelReading) → ((r : Chosen) → read (recording_reading r.this.recording) ≡ map channel_reading (list r)) →
      (told : Chosen → R.Channel → A) (j : ℕ) → ((r : Chosen) (c : R.Channel) → recording_of s i ≡ value r → numbered (list r) j ≡ value c → K (told r c) (channel_reading c)) →
      Alike K (recording_of s i >>= λ r. numbered (list r) j >>= λ c. value (told r c)) (recording_read (reading v) i >>= λ r. numbered (read r) j)
  sub_alike list read same told j f =
      alike-bind _ _ recording-alike
      (λ r x is e. rw (e, same r)
      (alike_then (told r) (alike-numbered channel_reading (list r) j)
      (λ c y nth d. rw d (f r c is nth))))

  pub channel-alike : {K : Descriptor → ChannelReading → Type 0} (j : ℕ) →
      ((r : Chosen) (c : R.Channel) → recording_of s i ≡ value r → numbered r.this.recording.channels j ≡ value c → K (descriptor_of c (sub_at r j)) (channel_reading c)) → Alike K (channel_of s i j) (channel_read (reading v) i j)
  channel-alike j = sub_alike (λ r. r.this.recording.channels) (λ r. r.channels) (λ r. refl) (λ r c. descriptor_of c (sub_at r j)) j

  -- so of its own montage
  pub montage-alike : {K : Wired → ChannelReading → Type 0} (j : ℕ) →
      ((r : Chosen) (c : R.Channel) → recording_of s i ≡ value r → numbered r.this.recording.montage j ≡ value c → K (wired_of c (wired_at r j)) (channel_reading c)) → Alike K (montage_of s i j) (montage_read (reading v) i j)
  montage-alike j = sub_alike (λ r. r.this.recording.montage) (λ r. r.montage) (λ r. refl) (λ r c. wired_of c (wired_at r j)) j

  pub montage-count-read : Alike MontageCountIs (montage_count_of s i) (recording_read (reading v) i)
  montage-count-read = alike_then _ recording-alike (λ r x is e. rw e (sym (length-map r.this.recording.montage channel_reading)))

  pub channel-known : (r : Chosen) (j : ℕ) {c : R.Channel} → recording_of s i ≡ value r → numbered r.this.recording.channels j ≡ value c → channel_read (reading v) i j ≡ value (channel_reading c)
  channel-known r j is nth = rw (recording-known is) (known channel_reading (alike-numbered channel_reading r.this.recording.channels j) nth)

  -- an item
  items-read : (k : Holder) (r : Chosen) → items_read k (recording_reading r.this.recording) ≡ map item_reading (items_of k r)
  items-read Holder.Patient r = refl
  items-read Holder.Event r = go r.this.recording.own_events
    where
      go : (x : Bool) → pick x (map item_reading r.this.recording.events) [] ≡ map item_reading (pick x r.this.recording.events [])
      go true = refl
      go false = refl

  pub item-alike : {K : Entry → ItemReading → Type 0} (k : Holder) (j : ℕ) →
      ((r : Chosen) (x : R.Item) → recording_of s i ≡ value r → numbered (items_of k r) j ≡ value x → K (entry_of x (items_at k r + (24 + R.item_bytes (take (j - 1) (items_of k r))))) (item_reading x)) →
      Alike K (item_of k s i j) (item_read k (reading v) i j)
  unfolding item_in
  item-alike k j f =
      alike-bind _ _ recording-alike
      (λ r y is e. rw (e, items-read k r)
      (alike_then (λ x. entry_of x (items_at k r + (24 + R.item_bytes (take (j - 1) (items_of k r))))) (alike-numbered item_reading (items_of k r) j)
      (λ x z nth d. rw d (f r x is nth))))

  -- a frame
  frame-alike : (j : ℕ) → Alike (λ f y. y ≡ frame_reading f.of.this.recording.channels f.frame) (frame_of s i j) (frame_read (reading v) i j)
  frame-alike j =
      alike-bind _ _ recording-alike
      (λ r x is e. rw e
      (alike_then (λ f. record { of = r; frame = f; at = frame_at r j }) (alike-numbered (frame_reading r.this.recording.channels) r.this.recording.frames j)
      (λ f y nth d. d)))

  -- the samples of a channel in it
  abbrev framed : ChosenFrame → List (List Value)
  framed f = samples_reading f.of.this.recording.channels f.frame.channels

  abbrev of-channel : ℕ → ChosenFrame → Answer Samples
  of-channel k f = do
    c ← numbered f.of.this.recording.channels k
    vs ← numbered (framed f) k
    value (record {
      at = f.at + (24 + R.sample_bytes f.of.this.recording.seconds (take (k - 1) f.of.this.recording.channels));
      format = c.format;
      values = vs;
    })

  in_frame : (j k : ℕ) (f : ChosenFrame) → frame_of s i j ≡ value f → Alike (λ x vs. vs ≡ x.values) (of-channel k f) (numbered (framed f) k)
  in_frame j k f is = go (R.between 1 (length cs) k) refl
    where
      cs : List R.Channel
      cs = f.of.this.recording.channels

      go : (x : Bool) → R.between 1 (length cs) k ≡ x → Alike (λ x vs. vs ≡ x.values) (of-channel k f) (numbered (framed f) k)
      go true e = rw (numbered-some cs k e).1 (alike_then _ (alike_self (numbered (framed f) k)) (λ x y _ d. d))
      go false e =
          let g = frame-of s b i j is in
          let m = samples-many f.of.this.recording.seconds cs f.frame.channels (frame-samples s b i f.of g.chosen j f.frame g.one) in
          rw (numbered-out cs k e, numbered-out (framed f) k (rw m e)) refusals

  pub samples-alike : (j k : ℕ) → Alike (λ x vs. vs ≡ x.values) (samples_of s i j k) (samples_read (reading v) i j k)
  samples-alike j k = alike-bind (of-channel k) (λ y. numbered y.channels k) (frame-alike j) (λ f y is e. rw e (in_frame j k f is))

  -- M, F and T
  pub seconds-small : (r : Chosen) → recording_of s i ≡ value r → r.this.recording.seconds ≤ 3600
  seconds-small r is = (between_in 1 3600 _ (recording-well s b h i r is).1.frames.seconds).1

  pub facts-read : Alike FactsAre (facts_of s i) (recording_read (reading v) i)
  facts-read =
      alike_then _ recording-alike
      (λ r x is e. rw e
      (record {
        channels = sym (length-map r.this.recording.channels channel_reading);
        frames = sym (length-map r.this.recording.frames (frame_reading r.this.recording.channels));
        seconds = sym (signed-pos 4 r.this.recording.seconds (omega (arith, seconds-small r is)));
      }))

  -- the whole numbers of a channel
  pub numbers-read : (j : ℕ) → Alike NumbersAre (channel_of s i j) (channel_read (reading v) i j)
  numbers-read j = channel-alike j (λ r c _ _. numbers-are c (sub_at r j))

  -- the clock of a frame
  pub clock-read : (j : ℕ) → Alike ClockIs (clock_of s i j) (frame_read (reading v) i j)
  clock-read j = alike_then (λ f. time_of f.frame) (frame-alike j) (λ f y is e. rw e (record { hour = refl; minute = refl; second = refl }))
