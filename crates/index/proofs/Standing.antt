-- The samples of a channel in a frame of an accepted file: the codes at their place, and the code before them.
-- Assumes nothing.
use mathlib.Core.Path.{◌≡◌, refl, sym, ap, ◌∙◌}
use mathlib.Core.Bool.{true}
use mathlib.Core.List.{List, [], ◌∷◌, map}
use Prim.Native.Nat.{ℕ, zero, suc, ◌+◌, ◌-◌, ◌*◌, ◌≤◌}
use native.Mathlib.Nat.{add-zero, mul_comm, mul-suc}
use native.Mathlib.Omega.{arith}
use borrow.Author.Tests.{eqb-true, ne_eqb}
use lib.Dec.{eqb}
use lib.ListN.{length, take, get_or, length-map}
use Rattle.words.specs.Numbers.{Bytes, bytes_at, number_at, numbers_at}
use Rattle.words.specs.declared.Order.{Order}
use Rattle.walk.specs.Walk.{Event, passed}
use Rattle.walk.proofs.Seen.{and_right, part-numbers}
use Rattle.rules.specs.Rules as R
use Rattle.rules.specs.Rules.{sample_bytes, samples_in, width}
use Rattle.rules.proofs.Renew.{SamplesOk}
use Rattle.records.specs.Says.{KeptOne}
use Rattle.descriptions.specs.declared.Places.{Places}
use Rattle.recordings.specs.Answers.{Answer, value, refusal, ◌>>=◌, indexed, numbered}
use Rattle.recordings.specs.Recordings.{Chosen, recording_of}
use Rattle.recordings.proofs.Chosen.{refusal-value, in_between, indexed-one}
use Rattle.samples.specs.Asked.{FrameStands}
use Rattle.samples.specs.Frames.{ChosenFrame, frame_of, Samples}
use Rattle.samples.specs.Placed.{place_in, place_of, part_in, bytes_of}
use Rattle.samples.specs.declared.Place.{Place}
use Rattle.samples.proofs.Framing.{frame_at, frame-seen, frame-of, frame_refused, frame-found-at}
use Rattle.samples.proofs.Placing.{all_of, part-inside}
use Rattle.samples.proofs.Readings.{Reads, reads-numbered}
use Rattle.samples.proofs.Sampling.{frame-samples, sample-there, samples-refused}
use Rattle.samples.proofs.Stretch.{width-2, run_inside}
use Rattle.index.specs.Events.{of_events, last_of, codes_at, codes_of}
use Rattle.index.specs.Listing.{words_at, events_at, code_behind, frame_from}
use Rattle.index.proofs.Words.{length-numbers, words_are, words_last}

-- a sub in the file tells whether its channel is of events
pub events-kept : (o : Order) (s : List ℕ) (p : ℕ) (y : R.Channel) → KeptOne o s p y → events_at o s p ≡ of_events y
unfolding events_at
events-kept o s p y k = rw (k.type, k.format)

-- whose samples are of two bytes
pub events-width : (y : R.Channel) → of_events y ≡ true → width y.format ≡ 2
events-width y e = width-2 y.format (eqb-true y.format 1 (and_right (eqb y.type 1) _ e))

-- Each recording of an accepted file can be asked for, and each frame of a recording; but there is no frame 0

mapped : {A B : Type 0} (f : A → B) (l : List A) (c : ℕ) {x : B} → indexed (map f l) c ≡ value x → (a : A) × (indexed l c ≡ value a) × (f a ≡ x)
unfolding indexed
mapped f [] c h = refusal-value h
mapped f (a ∷ l) zero h = (a, refl, cc)
mapped f (a ∷ l) (suc c) h = mapped f l c h

pub recording-there : (s : List ℕ) {v : R.File} {r : List ℕ} {t : List Event} → R.judge s ≡ passed v r t → (c : ℕ) {x : R.Recording} →
    indexed (R.contents v).recordings c ≡ value x →
    (y : Chosen) × (recording_of s (suc c) ≡ value y) × (y.this.recording ≡ x)
unfolding numbered
recording-there s {v} h c e =
    let p = mapped (λ (q : R.Placed). q.recording) v.recordings c e in
    (record { all = v.recordings; index = suc c - 1; this = p.0 }, rw (h, p.1), p.2)

pub frame-there : (s : List ℕ) (i : ℕ) {r : Chosen} → recording_of s i ≡ value r → (j : ℕ) {g : R.Frame} → indexed r.this.recording.frames j ≡ value g →
    frame_of s i (suc j) ≡ value (record { of = r; frame = g; at = frame_at r (suc j) })
unfolding numbered
frame-there s i asked j h = rw (asked, h)

frame-none : (s : List ℕ) (i : ℕ) (a : Answer Chosen) → recording_of s i ≡ a → (n : ℕ) × (p : ℕ) × (frame_of s i 0 ≡ refusal n p)
unfolding numbered
frame-none s i (value r) e = (19, 0, rw e)
frame-none s i (refusal n p) e = (n, p, frame_refused s i 0 e)

pub codes-none : (s : List ℕ) (i k : ℕ) → codes_of s i 0 k ≡ []
unfolding codes_of
codes-none s i k = let f = frame-none s i (recording_of s i) refl in
    ap (λ (a : Answer Samples). codes_at s (a >>= λ x. value (place_in x))) (samples-refused s i 0 k f.2)

-- A frame that was asked for

module _ (s : List ℕ) (b : Bytes s) (i j : ℕ) {f : ChosenFrame} (is : frame_of s i j ≡ value f) where
  abbrev pub in_frame : List R.Channel
  in_frame = f.of.this.recording.channels

  abbrev pub seconds : ℕ
  seconds = f.of.this.recording.seconds

  pub samples-ok : SamplesOk seconds in_frame f.frame.channels
  samples-ok = let g = frame-of s b i j is in frame-samples s b i f.of g.chosen j f.frame g.one

  reads : (k : ℕ) (y : R.Channel) → numbered in_frame k ≡ value y → Reads seconds in_frame f.frame.channels (k - 1) k y
  reads k y nth = reads-numbered seconds in_frame f.frame.channels samples-ok k nth

  -- the place of the samples of channel y, behind c others
  abbrev place_behind : ℕ → R.Channel → Place
  place_behind c y = record { position = f.at + (24 + sample_bytes seconds (take c in_frame)); width = width y.format; count = samples_in seconds y }

  place-numbered : (k : ℕ) (y : R.Channel) → numbered in_frame k ≡ value y → place_of s i j k ≡ value (place_behind (k - 1) y)
  place-numbered k y nth = let r = reads k y nth in rw (is, nth, r.values, length-map, r.count)

  -- channel c, from 0
  module _ (c : ℕ) (y : R.Channel) (one : indexed in_frame c ≡ value y) where
    abbrev place : Place
    place = place_behind c y

    placed : place_of s i j (suc c) ≡ value place
    unfolding numbered
    placed = let e : suc c - 1 ≡ c = omega arith in place-numbered (suc c) y one ∙ ap (λ (n : ℕ). value (place_behind n y)) e

    codes_placed : codes_of s i j (suc c) ≡ codes_at s (value place)
    unfolding codes_of
    codes_placed = ap (λ (a : Answer Place). codes_at s a) placed

    pub codes-many : length (codes_of s i j (suc c)) ≡ samples_in seconds y
    codes-many = ap length codes_placed ∙ length-numbers (R.order_of s) (width y.format) (bytes_of s place) 0 (samples_in seconds y)

    -- they lie in the file
    inside : place.position + place.width * place.count ≤ length s
    inside =
        let g = frame-of s b i j is in
        rw g.place (run_inside seconds c (frame_at f.of j) (length s) in_frame one (frame-seen s b i f.of g.chosen j f.frame g.first g.one).inside)

    -- of two bytes each
    codes-words : width y.format ≡ 2 → codes_of s i j (suc c) ≡ words_at (R.order_of s) s place.position (samples_in seconds y)
    unfolding bytes_at
    codes-words wide =
        let w : ℕ = width y.format in
        let n : ℕ = samples_in seconds y in
        let e : part_in (length s) place ≡ all_of place = part-inside (length s) place inside in
        let there : codes_at s (value place) ≡ numbers_at (R.order_of s) w n s (place.position + 0) =
        rw e (part-numbers (R.order_of s) s place.position (w * n) w n 0 (omega (arith, mul_comm w n))) in
        codes_placed ∙ (there ∙
        (ap (numbers_at (R.order_of s) w n s) (add-zero place.position) ∙ ap (λ (m : ℕ). numbers_at (R.order_of s) m n s place.position) wide))

    -- they are those of the reading
    pub codes-read : width y.format ≡ 2 → get_or f.frame.channels c [] ≡ codes_of s i j (suc c)
    unfolding numbered
    codes-read wide =
        let g = frame-of s b i j is in
        let d : suc c - 1 ≡ c = omega arith in
        let r : Reads seconds in_frame f.frame.channels c (suc c) y = rw d at (reads (suc c) y one) in
        words_are (R.order_of s) s (get_or f.frame.channels c []) place.position (samples_in seconds y) r.count
        (λ m l. rw g.place (rw wide at (sample-there s b i f.of g.chosen j f.frame g.one c y (indexed-one in_frame c one) m l))) ∙
        sym (codes-words wide)

-- A frame that the code found

module _ {s : List ℕ} {i j : ℕ} {o : Order} {q : Places} {at : ℕ} {f : ChosenFrame} (h : FrameStands s i j o q at f) where
  pub seconds-same : q.seconds ≡ f.of.this.recording.seconds
  seconds-same = ap (λ (p : Places). p.seconds) h.found.same

  module _ (c : ℕ) (y : R.Channel) (one : indexed f.of.this.recording.channels c ≡ value y) where
    position-same : at + (24 + sample_bytes q.seconds (take c f.of.this.recording.channels)) ≡ f.at +
        (24 + sample_bytes f.of.this.recording.seconds (take c f.of.this.recording.channels))
    position-same = rw (h.place, seconds-same)

    -- the codes at the place that the code makes
    pub codes-made : (p w n : ℕ) → p ≡ at + (24 + sample_bytes q.seconds (take c f.of.this.recording.channels)) → w ≡ width y.format →
        n ≡ samples_in q.seconds y →
        codes_of s i j (suc c) ≡ numbers_at o w n (bytes_of s (record { position = p; width = w; count = n })) 0
    codes-made p w n e₁ e₂ e₃ =
        let d₁ : p ≡ f.at + (24 + sample_bytes f.of.this.recording.seconds (take c f.of.this.recording.channels)) = e₁ ∙ position-same in
        let d₃ : n ≡ samples_in f.of.this.recording.seconds y = e₃ ∙ ap (λ (t : ℕ). samples_in t y) seconds-same in
        let e : ◌≡◌ {A = Place} (record { position = p; width = w; count = n }) (place_behind s h.found.bytes i j h.is c y) =
        λ m. record { position = d₁ m; width = e₂ m; count = d₃ m } in
        codes_placed s h.found.bytes i j h.is c y one ∙ (sym (ap (λ (x : Place). codes_at s (value x)) e) ∙
        ap (λ (x : Order). numbers_at x w n (bytes_of s (record { position = p; width = w; count = n })) 0) (sym h.found.order))

    -- of two bytes each
    codes-there : width y.format ≡ 2 →
        codes_of s i j (suc c) ≡ words_at o s (at + (24 + sample_bytes q.seconds (take c f.of.this.recording.channels))) (samples_in q.seconds y)
    codes-there wide = rw (position-same, seconds-same, h.found.order) (codes-words s h.found.bytes i j h.is c y one wide)

-- the frame before
module _ {s : List ℕ} {i j : ℕ} {o : Order} {q : Places} {f : ChosenFrame} (h : FrameStands s i (suc (suc j)) o q (frame_from q (suc (suc j))) f) where
  -- its last sample of channel c is the code before
  last-there : (c : ℕ) (y : R.Channel) → indexed f.of.this.recording.channels c ≡ value y → width y.format ≡ 2 → (n : ℕ) → samples_in q.seconds y ≡ suc n →
      last_of 0 (codes_of s i (suc j) (suc c)) ≡ number_at o 2 s
      (frame_from q (suc j) + (24 + sample_bytes q.seconds (take c f.of.this.recording.channels)) + 2 * n)
  last-there c y one wide n many =
      let g = frame-of s h.found.bytes i (suc (suc j)) h.is in
      let l : suc j ≤ q.total = omega (arith, g.one.inside, h.found.frames) in
      let x = frame-found-at h.found (suc j) (in_between 1 q.total (suc j) (omega arith) l) in
      let b = frame-of s h.found.bytes i (suc j) x.1.is in
      let same : x.0.of ≡ f.of = cc (b.asked, g.asked) in
      let there = codes-there x.1 c y (rw same one) wide in
      rw (there, many, words_last o s) (ap (number_at o 2 s) (rw same))

-- so the code that the code reads is the one before
pub before-there : {s : List ℕ} {i : ℕ} (j : ℕ) {o : Order} {q : Places} {f : ChosenFrame} → 1 ≤ j → FrameStands s i j o q (frame_from q j) f →
    (c : ℕ) (y : R.Channel) → indexed f.of.this.recording.channels c ≡ value y → width y.format ≡ 2 → (n at : ℕ) → samples_in q.seconds y ≡ n → 1 ≤ n →
    at ≡ frame_from q j + (24 + sample_bytes q.seconds (take c f.of.this.recording.channels)) →
    code_behind o s j at n q.frame ≡ last_of 0 (codes_of s i (j - 1) (suc c))
unfolding code_behind last_of
before-there zero l h c y is wide n at many some place = absurd (omega arith)
before-there {s} {i} (suc zero) l h c y is wide n at many some place = ap (last_of 0) (sym (codes-none s i (suc c)))
before-there {s} (suc (suc j)) {o} {q} {f} l h c y is wide zero at many some place = absurd (omega arith)
before-there {s} (suc (suc j)) {o} {q} {f} l h c y is wide (suc n) at many some place =
    let d : suc (suc j) - 1 ≡ suc j = omega arith in
    let d' : suc j - 1 ≡ j = omega arith in
    let e₁ : q.frame * (suc (suc j) - 1) ≡ q.frame * (suc j - 1) + q.frame = rw (d, d') (mul-suc q.frame j) in
    let e₂ : at - q.frame + 2 * (suc n - 1) ≡ frame_from q (suc j) + (24 + sample_bytes q.seconds (take c f.of.this.recording.channels)) + 2 * n =
    omega (arith, place, e₁) in
    rw (ne_eqb (suc (suc j)) 1 (λ z. omega arith), d) (ap (number_at o 2 s) e₂ ∙ sym (last-there h c y is wide n many))
