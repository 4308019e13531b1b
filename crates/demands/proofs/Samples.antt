-- The samples asked for: those of the reading, and words that stand one after the other in the file, in its order. What the bytes of their place are.
-- Assumes nothing.
use mathlib.Core.Path.{◌≡◌, refl, sym, ap, ◌∙◌}
use mathlib.Core.List.{List, [], ◌∷◌, ◌++◌, map, map-map, append-nil}
use Prim.Native.Nat.{ℕ, zero, suc, ◌+◌, ◌-◌, ◌*◌, ◌^◌, ◌<◌}
use native.Mathlib.Omega.{arith}
use lib.ListN.{length, take, get_or, length-map}
use lib.Seq.{take_at, drop_at}
use Rattle.words.specs.Numbers.{Bytes, bytes_at}
use Rattle.words.specs.Runs.{numbers_in}
use Rattle.words.specs.declared.Order.{Order}
use Rattle.walk.specs.Plays.{Plays}
use Rattle.walk.specs.Walk as W
use Rattle.walk.specs.Walk.{Event, numeral, size, render, Walk}
use Rattle.walk.proofs.Laws.{length-render, by_parts, counted, facts, plays-gave, traced}
use Rattle.walk.proofs.Tracing.{render-append}
use Rattle.rules.specs.Places.{bytes_before}
use Rattle.rules.specs.Reading.{Value, value_of, samples_reading, RecordingReading, recording_reading, FrameReading, frame_reading, reading}
use Rattle.rules.specs.Rules as R
use Rattle.rules.specs.Rules.{number_list, sample_bytes, width}
use Rattle.rules.proofs.Asked.{samples-at}
use Rattle.rules.proofs.Places.{Found, found_at}
use Rattle.recordings.specs.Answers.{Answer, value, refusal, outside, ◌>>=◌, indexed, numbered}
use Rattle.recordings.specs.Recordings.{Chosen, recording_of, start_of}
use Rattle.recordings.proofs.Chosen.{refusal-value, numbered-one}
use Rattle.samples.specs.Frames.{ChosenFrame, frame_of, Samples, samples_of}
use Rattle.samples.specs.Placed.{place_of}
use Rattle.samples.specs.declared.Place.{Place}
use Rattle.samples.proofs.Placing.{placed-from}
use Rattle.questions.specs.Tied.{recording_read, frame_read, samples_read}
use Rattle.demands.specs.Demands.{Accepted, Agree, values, refusals}
use Rattle.demands.proofs.Agreeing.{agree_then, agree_on, agree-second, numbered-image}

-- Numbers, one after the other, in events and in bytes

numbers-events : (w n : ℕ) {t : List Event} {l : List ℕ} → Plays t (number_list w n) l → t ≡ map (numeral w) l
unfolding number_list W.◌>>=◌
numbers-events w zero p = let q = traced p in rw (q.events, q.value)
numbers-events w (suc n) p =
    let c = counted p in
    by_parts (number_list w n) _ c.then λ l u v e q p.
    c.split ∙ ap (λ (x : List Event). numeral w c.word ∷ x) (sym e ∙ rw ((facts p).none, append-nil) (numbers-events w n q)) ∙ ap (map (numeral w)) (sym (plays-gave p))

-- each is a word of its width
pub numbers-small : (w n : ℕ) {t : List Event} {l : List ℕ} → Plays t (number_list w n) l → (m : ℕ) → m < length l → get_or l m 0 < 256 ^ w
unfolding number_list W.◌>>=◌
numbers-small w zero p m h = absurd (omega (arith, ap length (traced p).value))
numbers-small w (suc n) p zero h =
    let c = counted p in
    by_parts (number_list w n) _ c.then λ l u v e q p.
    rw (plays-gave p) c.small
numbers-small w (suc n) p (suc m) h =
    let c = counted p in
    by_parts (number_list w n) _ c.then λ l u v e q p.
    rw (plays-gave p) (numbers-small w n q m (omega (arith, ap length (plays-gave p))))

numbers-render : (o : Order) (w : ℕ) (l : List ℕ) → render o (map (numeral w) l) ≡ numbers_in o w l
unfolding render numbers_in
numbers-render o w [] = refl
numbers-render o w (v ∷ l) = rw (numbers-render o w l)

numbers-size : (w : ℕ) (l : List ℕ) → size (map (numeral w) l) ≡ w * length l
unfolding size
numbers-size w [] = omega arith
numbers-size w (v ∷ l) = omega (arith, numbers-size w l)

-- what was found in the events stands in the bytes
found-bytes : {A : Type 0} {t : List Event} {w : Walk A} {a : A} {p : ℕ} (f : Found t w a p) (o : Order) (s : List ℕ) → s ≡ render o t → bytes_at (size f.events) s p ≡ render o f.events
unfolding bytes_at
found-bytes {p} f o s e =
    let q : s ≡ render o f.before ++ (render o f.events ++ render o f.behind) =
    e ∙ ap (render o) f.split ∙ render-append o f.before (f.events ++ f.behind) ∙ ap (λ (x : List ℕ). render o f.before ++ x) (render-append o f.events f.behind) in
    rw (q, drop_at (render o f.before) (render o f.events ++ render o f.behind) p (length-render o f.before ∙ f.place))
    (take_at (render o f.events) (render o f.behind) (size f.events) (length-render o f.events))

-- One channel's samples among those of a frame

-- none where the channel is none
outside-indexed : {A : Type 0} (l : List A) (i : ℕ) {n p : ℕ} → indexed l i ≡ refusal n p → outside {A = List Value} ≡ refusal n p
unfolding indexed
outside-indexed [] i {n} {p} h =
    let e : 19 ≡ n = cc in
    let f : 0 ≡ p = cc in
    λ j. refusal (e j) (f j)
outside-indexed (a ∷ l) zero h = refusal-value (sym h)
outside-indexed (a ∷ l) (suc i) h = outside-indexed l i h

none-indexed : (cs : List R.Channel) (ss : List (List ℕ)) (i : ℕ) {n p : ℕ} → indexed cs i ≡ refusal n p → indexed (samples_reading cs ss) i ≡ refusal n p
unfolding indexed samples_reading
none-indexed [] ss i h = outside-indexed {A = R.Channel} [] i h
none-indexed (c ∷ cs) [] i h = outside-indexed (c ∷ cs) i h
none-indexed (c ∷ cs) (s ∷ ss) zero h = refusal-value (sym h)
none-indexed (c ∷ cs) (s ∷ ss) (suc i) h = none-indexed cs ss i h

none-numbered : (cs : List R.Channel) (ss : List (List ℕ)) (k : ℕ) {n p : ℕ} → numbered cs k ≡ refusal n p → numbered (samples_reading cs ss) k ≡ refusal n p
unfolding numbered indexed
none-numbered cs ss zero h = outside-indexed {A = R.Channel} [] 0 h
none-numbered cs ss (suc i) h = none-indexed cs ss i h

-- else its words, each by its format
values-indexed : (cs : List R.Channel) (ss : List (List ℕ)) (i : ℕ) {c : R.Channel} {vs : List Value} → indexed cs i ≡ value c → indexed (samples_reading cs ss) i ≡ value vs →
    vs ≡ map (value_of c.format (width c.format)) (get_or ss i [])
unfolding indexed samples_reading
values-indexed [] ss i h k = refusal-value h
values-indexed (d ∷ cs) [] i h k = refusal-value k
values-indexed (d ∷ cs) (s ∷ ss) zero {c} {vs} h k =
    let e : d ≡ c = cc in
    let f : map (value_of d.format (width d.format)) s ≡ vs = cc in
    rw (← e) (sym f)
values-indexed (d ∷ cs) (s ∷ ss) (suc i) h k = values-indexed cs ss i h k

values-numbered : (cs : List R.Channel) (ss : List (List ℕ)) (n : ℕ) {c : R.Channel} {vs : List Value} → numbered cs n ≡ value c → numbered (samples_reading cs ss) n ≡ value vs →
    vs ≡ map (value_of c.format (width c.format)) (get_or ss (n - 1) [])
unfolding numbered
values-numbered cs ss zero h k = refusal-value h
values-numbered cs ss (suc i) h k = let e : suc i - 1 ≡ i = omega arith in rw e (values-indexed cs ss i h k)

-- What was asked for, in an accepted file

-- the recording c of the file v, by its number, is read as r
pub record Picked (v : R.File) (i : ℕ) (r : RecordingReading) (c : Chosen) : Type 0 where
  pub is : numbered v.recordings i ≡ value c.this
  pub reads : r ≡ recording_reading c.this.recording
  pub all : c.all ≡ v.recordings
  pub index : c.index ≡ i - 1

-- the frame f of it is read as g
pub record PickedFrame (v : R.File) (i j : ℕ) (g : FrameReading) (f : ChosenFrame) : Type 0 where
  pub of : (r : RecordingReading) × Picked v i r f.of
  pub is : numbered f.of.this.recording.frames j ≡ value f.frame
  pub reads : g ≡ frame_reading f.of.this.recording.channels f.frame
  pub place : f.at ≡ start_of f.of + f.of.this.layout.at140 + (32 + f.of.this.layout.frame * (j - 1))

-- the samples x of channel k in it have the values l; and they stand as words among the file's events t
pub record Stand (v : R.File) (t : List Event) (i k : ℕ) (l : List Value) (x : Samples) : Type 0 where
  pub values : x.values ≡ l
  -- of this recording and channel
  pub of : R.Placed
  pub is : numbered v.recordings i ≡ value of
  pub channel : R.Channel
  pub has : numbered of.recording.channels k ≡ value channel
  pub formatted : x.format ≡ channel.format
  -- their words
  pub words : List ℕ
  pub each : x.values ≡ map (value_of x.format (width x.format)) words
  pub many : ℕ
  pub found : Found t (number_list (width x.format) many) words x.at

-- a recording of a file, a frame of it, and the samples of a channel in that, as they are asked for
abbrev pub chosen_as : R.File → ℕ → R.Placed → Chosen
chosen_as v i p = record { all = v.recordings; index = i - 1; this = p }

abbrev pub framed_as : ℕ → Chosen → R.Frame → ChosenFrame
framed_as j c f = record { of = c; frame = f; at = start_of c + c.this.layout.at140 + (32 + c.this.layout.frame * (j - 1)) }

abbrev pub sampled_as : ℕ → ChosenFrame → R.Channel → List Value → Samples
sampled_as k f c vs = record { at = f.at + (24 + sample_bytes f.of.this.recording.seconds (take (k - 1) f.of.this.recording.channels)); format = c.format; values = vs }

module _ (s : List ℕ) {v : R.File} {t : List Event} (h : Accepted s v t) (i : ℕ) where
  pub recording-picked : Agree (Picked v i) (recording_read (reading v) i) (recording_of s i)
  recording-picked =
      rw (h, map-map recording_reading (λ (p : R.Placed). p.recording) v.recordings)
      (agree_on (chosen_as v i) (numbered-image (λ (p : R.Placed). recording_reading p.recording) v.recordings i)
      (λ r p e. record { is = e.is; reads = e.maps; all = refl; index = refl }))

  pub frame-picked : (j : ℕ) → Agree (PickedFrame v i j) (frame_read (reading v) i j) (frame_of s i j)
  frame-picked j =
      agree_then (λ r. numbered r.frames j) (λ c. numbered c.this.recording.frames j >>= λ f. value (framed_as j c f)) recording-picked
      (λ r c p.
      rw p.reads
      (agree_on (framed_as j c) (numbered-image (frame_reading c.this.recording.channels) c.this.recording.frames j)
      (λ g f e. record { of = (r, p); is = e.is; reads = e.maps; place = refl })))

-- where the samples of a frame's channel stand
module _ (s : List ℕ) (b : Bytes s) {v : R.File} {t : List Event} (h : Accepted s v t) (i j k : ℕ) (g : FrameReading) (f : ChosenFrame) (p : PickedFrame v i j g f) where
  abbrev cs : List R.Channel
  cs = f.of.this.recording.channels

  samples-there : (c : R.Channel) (vs : List Value) → numbered cs k ≡ value c → numbered (samples_reading cs f.frame.channels) k ≡ value vs →
      Stand v t i k vs (sampled_as k f c vs)
  samples-there c vs is_c is_v =
      let r = p.of.1 in
      let x = (numbered-one v.recordings i r.is).1 in
      let y = (numbered-one f.of.this.recording.frames j p.is).1 in
      let z = (numbered-one cs k is_c).1 in
      let e = x.is f.of.this in
      let at : bytes_before f.of.index f.of.all ≡ bytes_before (i - 1) v.recordings = rw (r.index, r.all) in
      let g = rw (e, y.is f.frame, z.is c) at (samples-at s b h f.of.this (i - 1) x.inside f.frame c (j - 1) (k - 1) (rw e y.inside) (rw e z.inside)) in
      record {
        values = refl;
        of = f.of.this;
        is = r.is;
        channel = c;
        has = is_c;
        formatted = refl;
        words = get_or f.frame.channels (k - 1) [];
        each = values-numbered cs f.frame.channels k is_c is_v;
        many = R.samples_in f.of.this.recording.seconds c;
        found = found_at g (omega (arith, p.place));
      }

  pub channel-stands : (y : Answer R.Channel) → numbered cs k ≡ y → (w : Answer (List Value)) → numbered (samples_reading cs f.frame.channels) k ≡ w →
      Agree (Stand v t i k) w (y >>= λ c. w >>= λ vs. value (sampled_as k f c vs))
  channel-stands (value c) is_c (value vs) is_v = values (samples-there c vs is_c is_v)
  channel-stands (value c) is_c (refusal n q) is_v = refusals
  channel-stands (refusal n q) is_c w is_v = rw (sym is_v ∙ none-numbered cs f.frame.channels k is_c) refusals

module _ (s : List ℕ) (b : Bytes s) {v : R.File} {t : List Event} (h : Accepted s v t) (i j k : ℕ) where
  pub samples-stand : Agree (Stand v t i k) (samples_read (reading v) i j k) (samples_of s i j k)
  samples-stand =
      agree_then (λ g. numbered g.channels k)
      (λ f. numbered f.of.this.recording.channels k >>= λ c. numbered (samples_reading f.of.this.recording.channels f.frame.channels) k >>= λ vs. value (sampled_as k f c vs)) (frame-picked s h i j)
      (λ g f p. rw p.reads (channel-stands s b h i j k g f p (numbered f.of.this.recording.channels k) refl (numbered (samples_reading f.of.this.recording.channels f.frame.channels) k) refl))

-- The bytes of their place

module _ {v : R.File} {t : List Event} {i k : ℕ} {l : List Value} {x : Samples} (st : Stand v t i k l x) where
  -- as many bytes as their words take
  span : size st.found.events ≡ width x.format * length x.values
  span =
      let n : length x.values ≡ length st.words = ap length st.each ∙ length-map st.words (value_of x.format (width x.format)) in
      ap size (numbers-events (width x.format) st.many st.found.plays) ∙ numbers-size (width x.format) st.words ∙ ap (λ (m : ℕ). width x.format * m) (sym n)

  -- which are they, in an order
  laid_out : (o : Order) (z : List ℕ) → z ≡ render o t → bytes_at (width x.format * length x.values) z x.at ≡ numbers_in o (width x.format) st.words
  laid_out o z e =
      ap (λ (n : ℕ). bytes_at n z x.at) (sym span) ∙ found-bytes st.found o z e ∙
      (ap (render o) (numbers-events (width x.format) st.many st.found.plays) ∙ numbers-render o (width x.format) st.words)

  same_format : (p : R.Placed) (c : R.Channel) → numbered v.recordings i ≡ value p → numbered p.recording.channels k ≡ value c → x.format ≡ c.format
  same_format p c is_p is_c =
      let e : st.of ≡ p = cc (sym st.is ∙ is_p) in
      let f : st.channel ≡ c = cc (sym (rw e at st.has) ∙ is_c) in
      st.formatted ∙ ap (λ (y : R.Channel). y.format) f

-- the bytes of a place that is answered are these words, in any file with the same events, each by its order
pub place-words : (s : List ℕ) (b : Bytes s) {v : R.File} {t : List Event} (h : Accepted s v t) (i j k : ℕ) {p : Place} → place_of s i j k ≡ value p →
    (q : R.Placed) (c : R.Channel) → numbered v.recordings i ≡ value q → numbered q.recording.channels k ≡ value c →
    (ns : List ℕ) × ((o : Order) (z : List ℕ) → z ≡ render o t → bytes_at (p.width * p.count) z p.position ≡ numbers_in o (width c.format) ns)
place-words s b h i j k is q c is_q is_c =
    let y = placed-from s b i j k is in
    let st = (agree-second (samples-stand s b h i j k) y.asked).2 in
    (st.words, λ o z u. ap (λ (x : Place). bytes_at (x.width * x.count) z x.position) (sym y.same) ∙ rw (← same_format st q c is_q is_c) (laid_out st o z u))
