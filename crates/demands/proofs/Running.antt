-- Demands 1 and 2, of a run of samples: its refusals, what it leaves of the buffer, what the reading has of it, and each entry as the question about that
-- sample answers it. Once over the two calls.
-- Assumes nothing.
use Rattle.samples.specs.declared.Number.{Number}
use Rattle.std.proofs.Common.{Result, Ok, Err}
use mathlib.Core.Path.{◌≡◌, refl, sym, ap, ◌∙◌}
use mathlib.Core.Bool.{Bool, true, false, ◌&&◌, ◌||◌}
use mathlib.Core.List.{List, ◌++◌, map}
use Prim.Native.Nat.{ℕ, ◌+◌, ◌*◌, ◌≤◌, ◌<◌}
use native.Mathlib.Omega.{arith}
use borrow.Author.Tests.{leb-true}
use lib.Dec.{leb, eqb}
use lib.ListN.{length, get_or, take, drop, length-append, length-map, length-drop, get_or-append, get_or-map}
use lib.Seq.{drop_at, get_or-take, get_or-drop, length-take-le}
use Rattle.words.specs.Numbers.{Bytes}
use Rattle.words.specs.Values.{unsigned}
use Rattle.walk.specs.Walk.{pick, Event}
use Rattle.walk.proofs.Apart.{false-true}
use Rattle.walk.proofs.Seen.{and_right}
use Rattle.rules.specs.Reading.{Value, float, channel_reading, recording_reading, reading}
use Rattle.rules.specs.Rules as R
use Rattle.rules.specs.declared.Refusal.{Refusal}
use Rattle.recordings.specs.Answers.{meaning, Answer, value, refusal, ◌>>=◌, outside, indexed}
use Rattle.recordings.proofs.Chosen.{refusal-value, indexed-in, answered}
use Rattle.samples.specs.Frames.{format_of, Samples, samples_of, number_in}
use Rattle.samples.specs.Placed.{place_of, bytes_of, values_of}
use Rattle.samples.specs.declared.Place.{Place}
use Rattle.samples.proofs.Placing.{values-many}
use Rattle.questions.specs.Promised.{SampleAnswer}
use Rattle.questions.specs.Tied.{channel_read}
use Rattle.questions.proofs.Unique.{sample-unique}
use Rattle.runs.specs.Runs.{Element, element_of, serves, run_within, place_from, run_of, counted, holding, answer_of, RunAnswer}
use Rattle.runs.proofs.Asked.{as_before}
use Rattle.runs.specs.declared.Sibling.{Sibling}
use Rattle.demands.specs.Demands.{of_file, of_question, of_run, Refuses, KeepsRest, Accepted, Agree, values, refusals, run_read, EntryTells}
use Rattle.demands.proofs.Agreeing.{agree_then, agree-second, agree-equal, image-value}
use Rattle.demands.proofs.Refusing.{short, or_right, Proper, proper-outside, proper-then, proper-place, proper-format}
use Rattle.demands.proofs.Samples.{Stand, samples-stand}
use Rattle.demands.proofs.Telling.{channel-words, sample-kept}

-- Refusals

-- a question's are a run's, which has 17 besides
also : (m : ℕ) → of_question m ≡ true → of_run m ≡ true
also m = go (of_file m) (eqb m 19)
  where
    go : (a c : Bool) → a || c ≡ true → a || (c || eqb m 17) ≡ true
    go true c e = refl
    go false true e = refl
    go false false e = false-true e

no-seventeen : of_question 17 ≡ true → ⊥
unfolding R.between
no-seventeen h = false-true h

module _ (s : List ℕ) (b : Sibling) (i j k first n : ℕ) where
  proper-run : Proper s (run_of b s i j k first n)
  proper-run =
      proper-then s (place_of s i j k) _ (proper-place s i j k)
      (λ p. proper-then s (format_of s i k) _ (proper-format s i k) (λ format. go (values_of s format (place_from first n p)) (serves b format && leb (first + n) p.count)))
    where
      go : (vs : List Value) (c : Bool) → Proper s (pick c (value vs) outside)
      go vs true = tt
      go vs false = proper-outside s

  pub run-refuses : (room o q : ℕ) → refusal o q ≡ answer_of b s i j k first n room → Refuses of_run (length s) n o q
  run-refuses room o q h = go (run_of b s i j k first n) proper-run h
    where
      wider : Refuses of_question (length s) 0 o q → Refuses of_run (length s) n o q
      wider x = record { number = also o x.number; named = x.named; nonzero = x.nonzero; file = x.file; maker = x.maker; room = λ e. absurd (no-seventeen (rw e at x.number)); range = x.range }

      go : (x : Answer (List Value)) → Proper s x → refusal o q ≡ counted n room x → Refuses of_run (length s) n o q
      go (refusal m p) y h =
          let e : o ≡ m = cc in
          let f : q ≡ p = cc in
          wider (rw (← e, ← f) at y)
      go (value vs) y h = room_for (leb n room) h
        where
          room_for : (c : Bool) → refusal o q ≡ pick c (value n) (refusal 17 n) → Refuses of_run (length s) n o q
          room_for true h = refusal-value h
          room_for false h = short of_run (length s) n o q (or_right (of_file 17) refl) (cc) (cc)

-- Where a run is answered: so many samples, and inside

run_long : (b : Sibling) (s : List ℕ) (i j k first n : ℕ) {vs : List Value} → run_of b s i j k first n ≡ value vs → length vs ≡ n
run_long b s i j k first n {vs} h =
    let a = answered (place_of s i j k) _ h in
    let f = answered (format_of s i k) _ a.2 in
    go f.0 a.0 (serves b f.0 && leb (first + n) a.0.count) f.2
  where
    go : (format : ℕ) (p : Place) (c : Bool) → pick c (value (values_of s format (place_from first n p))) outside ≡ value vs → length vs ≡ n
    go format p true h = let e : values_of s format (place_from first n p) ≡ vs = cc in ap length (sym e) ∙ values-many (R.order_of s) format (bytes_of s (place_from first n p)) n 0
    go format p false h = refusal-value h

module _ (b : Sibling) (first n : ℕ) where
  abbrev run_in : Samples → Answer (List Value)
  run_in x = run_within b first n x.format x.values

  inside_of : (x : Samples) {vs : List Value} → run_in x ≡ value vs → (first + n ≤ length x.values) × (vs ≡ take n (drop first x.values))
  inside_of x {vs} h = go (serves b x.format && leb (first + n) (length x.values)) refl h
    where
      go : (c : Bool) → serves b x.format && leb (first + n) (length x.values) ≡ c → pick c (value (take n (drop first x.values))) outside ≡ value vs →
          (first + n ≤ length x.values) × (vs ≡ take n (drop first x.values))
      go true e h = (leb-true _ _ (and_right (serves b x.format) _ e), cc)
      go false e h = refusal-value h

-- the answer is the number asked for, and there is room
counted-all : (n m room : ℕ) (x : Answer (List Value)) → value m ≡ counted n room x → (m ≡ n) × (leb n room ≡ true) × ((vs : List Value) × (x ≡ value vs))
counted-all n m room (refusal u p) h = refusal-value (sym h)
counted-all n m room (value vs) h = go (leb n room) refl h
  where
    go : (c : Bool) → leb n room ≡ c → value m ≡ pick c (value n) (refusal 17 n) → (m ≡ n) × (leb n room ≡ true) × ((us : List Value) × (value vs ≡ value us))
    go true e h = (cc, e, (vs, refl))
    go false e h = refusal-value (sym h)

pub run-number : {b : Sibling} {s : List ℕ} {i j k first n : ℕ} {out out' : List (Element b)} {a : Result ℕ Refusal} → RunAnswer b s i j k first n out out' a → (m : ℕ) → a ≡ Ok m → m ≡ n
run-number {b} {s} {i} {j} {k} {first} {n} {out} x m e = (counted-all n m (length out) (run_of b s i j k first n) (sym (ap meaning e) ∙ x.answer)).0

-- What is left of the buffer

pub run-keeps : (s : List ℕ) (b : Sibling) (i j k first n : ℕ) (out out' : List (Element b)) (a : Result ℕ Refusal) → RunAnswer b s i j k first n out out' a → KeepsRest Err Ok 1 out out' a
run-keeps s b i j k first n out out' a x = go (run_of b s i j k first n) (λ vs e. run_long b s i j k first n e) x.answer x.buffer
  where
    left : {m p : ℕ} → meaning a ≡ refusal m p → out' ≡ out → KeepsRest Err Ok 1 out out' a
    left h e = record { refused = λ _ _. e; fits = λ m i. refusal-value (sym h ∙ ap meaning i); beyond = λ m i. refusal-value (sym h ∙ ap meaning i); long = ap length e }

    front : (xs : List (Element b)) → length xs ≡ n → n ≤ length out → meaning a ≡ value n → out' ≡ xs ++ drop n out → KeepsRest Err Ok 1 out out' a
    front xs l room h e = record {
      refused = λ r i. refusal-value (sym (ap meaning i) ∙ h);
      fits = λ m i. let z : m ≡ n = cc (ap meaning i, h) in omega arith;
      beyond = λ m i.
          let z : 1 * m ≡ n = let y : m ≡ n = cc (ap meaning i, h) in omega arith in
          rw (z, e) (drop_at xs (drop n out) n l);
      long = ap length e ∙ (length-append xs (drop n out) ∙ rw length-drop (omega (arith, l)));
    }

    go : (y : Answer (List Value)) → ((vs : List Value) → y ≡ value vs → length vs ≡ n) → meaning a ≡ counted n (length out) y → out' ≡ holding b n y out → KeepsRest Err Ok 1 out out' a
    go (refusal m p) l h e = left h e
    go (value vs) l h e = room_for (leb n (length out)) refl h e
      where
        room_for : (c : Bool) → leb n (length out) ≡ c → meaning a ≡ pick c (value n) (refusal 17 n) → out' ≡ pick c (map (element_of b) vs ++ drop n out) out → KeepsRest Err Ok 1 out out' a
        room_for true r h e = front (map (element_of b) vs) (length-map vs (element_of b) ∙ l vs refl) (leb-true n (length out) r) h e
        room_for false r h e = left h e

-- Of an accepted file

same : {A : Type 0} (y : Answer A) → Agree (λ (a c : A). c ≡ a) y y
same (value a) = values refl
same (refusal n p) = refusals

-- an element in front
front-entry : (b : Sibling) (vs : List Value) (rest : List (Element b)) (q : ℕ) (v : Value) → q < length vs → indexed (map (element_of b) vs ++ rest) q ≡ value (element_of b (get_or vs q v))
front-entry b vs rest q v l =
    let m : q < length (map (element_of b) vs) = omega (arith, length-map vs (element_of b)) in
    indexed-in (element_of b v) (map (element_of b) vs ++ rest) q (omega (arith, m, length-append (map (element_of b) vs) rest))
    ∙ ap value (get_or-append (map (element_of b) vs) rest (element_of b v) q m ∙ get_or-map (element_of b) vs q v)

module _ (s : List ℕ) (bs : Bytes s) {v : R.File} {t : List Event} (h : Accepted s v t) (b : Sibling) (i j k first n : ℕ) where
  -- the channel, as the reading has it
  module _ {l : List Value} {x : Samples} (st : Stand v t i k l x) where
    channel-has : channel_read (reading v) i k ≡ value (channel_reading st.channel)
    channel-has =
        let r = image-value recording_reading _ i (image-value (λ (q : R.Placed). q.recording) v.recordings i st.is) in
        rw r (image-value channel_reading st.of.recording.channels k st.has)

    format-has : unsigned 4 (channel_reading st.channel).format ≡ x.format
    format-has = ap (λ (c : R.Channel). c.format) (channel-words s bs h i st.of st.is k st.channel st.has) ∙ sym st.formatted

    run-there : Agree (λ (a c : List Value). c ≡ a) (channel_read (reading v) i k >>= λ c. run_within b first n (unsigned 4 c.format) l) (run_in b first n x)
    run-there = rw (channel-has, format-has, ← st.values) (same (run_in b first n x))

  pub run-read : run_of b s i j k first n ≡ run_read b (reading v) i j k first n
  run-read = as_before s bs b i j k first n ∙ agree-equal (agree_then (λ l. channel_read (reading v) i k >>= λ c. run_within b first n (unsigned 4 c.format) l) (run_in b first n) (samples-stand s bs h i j k) (λ l x st. run-there st))

  pub run-entry : (out out' : List (Element b)) → RunAnswer b s i j k first n out out' (Ok n) → (q : ℕ) → q < n → (d : Result Number Refusal) → SampleAnswer s i j k (first + q) d → EntryTells b out' q d
  run-entry out out' r q l d a =
      let e = as_before s bs b i j k first n in
      go (samples_of s i j k) refl (r.answer ∙ ap (counted n (length out)) e) (r.buffer ∙ ap (λ (y : Answer (List Value)). holding b n y out) e)
    where
      told : (x : Samples) → samples_of s i j k ≡ value x → first + n ≤ length x.values → out' ≡ map (element_of b) (take n (drop first x.values)) ++ drop n out → EntryTells b out' q d
      told x e inside z =
          let u : Value = get_or x.values (first + q) (float 0) in
          let has : indexed x.values (first + q) ≡ value u = indexed-in (float 0) x.values (first + q) (omega arith) in
          let st = (agree-second (samples-stand s bs h i j k) e).2 in
          let long : length (take n (drop first x.values)) ≡ n = length-take-le n (drop first x.values) (rw length-drop (omega arith)) in
          let here : get_or (take n (drop first x.values)) q (float 0) ≡ u = get_or-take n (drop first x.values) q (float 0) l ∙ get_or-drop first x.values q (float 0) in
          record {
            number = number_in u;
            told = sample-unique s i j k (first + q) d (Ok (number_in u)) a (rw (e, has));
            entry = rw z (front-entry b (take n (drop first x.values)) (drop n out) q (float 0) (omega (arith, long))) ∙ ap (λ (y : Value). value (element_of b y)) (here ∙ sym (sample-kept st (first + q) has));
          }

      go : (y : Answer Samples) → samples_of s i j k ≡ y → value n ≡ counted n (length out) (y >>= run_in b first n) → out' ≡ holding b n (y >>= run_in b first n) out → EntryTells b out' q d
      go (refusal m p) e g z = refusal-value (sym g)
      go (value x) e g z =
          let c = counted-all n n (length out) (run_in b first n x) g in
          let y = inside_of b first n x c.2.1 in
          told x e y.0 (z ∙ rw (c.2.1, c.1) (ap (λ (us : List Value). map (element_of b) us ++ drop n out) y.1))
