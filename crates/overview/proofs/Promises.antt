-- The overview's promises, of every list of bytes: by the definitions of its contracts, and by the library's third demand for a file that was turned.
-- Assumes nothing.
use Rattle.std.proofs.Common.{Option, Some, None, Result, Ok, Err}
use mathlib.Core.Path.{◌≡◌, refl, sym, ap, ◌∙◌}
use mathlib.Core.Bool.{Bool, true, false, ◌||◌}
use mathlib.Core.List.{List, [], ◌∷◌, ◌++◌, append_assoc}
use Prim.Native.Nat.{ℕ, zero, suc, ◌+◌, ◌*◌, ◌≤◌, ◌<◌}
use native.Mathlib.Omega.{arith}
use borrow.Author.Tests.{leb-true, lt-ltb}
use lib.Dec.{leb, ltb, eqb}
use lib.IntN.{ℤ}
use lib.ListN.{length, take, drop, length-append, length-drop}
use lib.Seq.{drop_at}
use Rattle.words.specs.Lent.{flat}
use Rattle.words.specs.Numbers.{Bytes}
use Rattle.walk.specs.Walk.{pick, Event, Outcome, refused, passed}
use Rattle.rules.specs.Reading.{ChannelReading, RecordingReading, Reading, reading}
use Rattle.rules.specs.Reasons.{number_of, refusal_of}
use Rattle.rules.specs.Rules as R
use Rattle.rules.specs.declared.Refusal.{Refusal}
use Rattle.recordings.specs.Answers.{Answer, value, refusal, meaning, ◌>>=◌, outside, indexed, numbered}
use Rattle.questions.specs.Tied.{recording_read, format_in}
use Rattle.demands.specs.Demands.{of_file, of_question, of_run, Named, Refuses, KeepsRest, TakenApart, Accepted, Same}
use Rattle.demands.proofs.Boundary.{Meant, by-meaning, either}
use Rattle.demands.proofs.Demands.{demand-2, demand-3}
use Rattle.demands.proofs.Refusing.{of-file, proper-outside, short, or_right}
use Rattle.overview.specs.Flat.{flat_overview, flat_counted, OverviewAnswers, RangeAnswers}
use Rattle.overview.specs.Overview.{envelope_of, lasts, whole_read, epoch_in, epochs_in, within, numbers, by_reading, overview_of, range_of, OverviewAnswer}
use Rattle.overview.specs.Overview.{counted, holding, RangeAnswer}
use Rattle.overview.specs.Promises.{InEpoch, EpochTells, wrote_c, stopped_c, SameOverviews, Promises}
use Rattle.overview.specs.declared.Counted.{Counted}
use Rattle.overview.specs.declared.Envelope.{Envelope}
use Rattle.overview.specs.declared.Overviewed.{Overviewed}
use Rattle.overview.proofs.Answers.{meaning-one}
use Rattle.overview.proofs.Least.{envelope-is, none-there}
use Rattle.overview.proofs.Read.{apart, judged}
use Rattle.overview.proofs.Told.{epochs-there}
use Rattle.overview.proofs.Unique.{range_unique}

-- What is asked of a recording, by a test of its seconds: a refusal of a question, or the recording's answer

data Entry {A : Type 0} (x : Answer A) : Type 0 where
  there : (a : A) → x ≡ value a → Entry x
  missing : x ≡ refusal 19 0 → Entry x

entry : {A : Type 0} (l : List A) (n : ℕ) → Entry (indexed l n)
unfolding indexed
entry [] n = missing refl
entry (a ∷ l) zero = there a refl
entry (a ∷ l) (suc n) = entry l n

entry-numbered : {A : Type 0} (l : List A) (n : ℕ) → Entry (numbered l n)
unfolding numbered
entry-numbered l zero = missing refl
entry-numbered l (suc n) = entry l n

-- the file is accepted, and its reading has the recording
record Found (s : List ℕ) (i k : ℕ) (test : ℕ → Bool) : Type 0 where
  file : R.File
  events : List Event
  accepted : Accepted s file events
  recording : RecordingReading
  held : recording_read (reading file) i ≡ value recording
  read : whole_read (reading file) i k ≡ value recording
  passes : test (lasts recording) ≡ true

data Sorted {A : Type 0} (s : List ℕ) (i k : ℕ) (test : ℕ → Bool) (f : RecordingReading → A) (x : Answer A) : Type 0 where
  stopped : (n p : ℕ) → x ≡ refusal n p → Refuses of_question (length s) 0 n p → Sorted s i k test f x
  found : (y : Found s i k test) → x ≡ value (f y.recording) → Sorted s i k test f x

module _ {A : Type 0} (s : List ℕ) (i k : ℕ) (test : ℕ → Bool) (f : RecordingReading → A) where
  abbrev ask : RecordingReading → Answer A
  ask r = pick (test (lasts r)) (value (f r)) outside

  sorted : Sorted s i k test f (by_reading (R.judge s) (λ g. whole_read g i k >>= ask))
  sorted = go (R.judge s) refl
    where
      within-file : (v : R.File) (u : List Event) → Accepted s v u → Sorted s i k test f (whole_read (reading v) i k >>= ask)
      within-file v u h = by-recording (entry-numbered (reading v).recordings i)
        where
          by-test : (r : RecordingReading) (c : ChannelReading) → recording_read (reading v) i ≡ value r → numbered r.channels k ≡ value c →
              R.between 1 3 (format_in c) ≡ true →
              (x : Bool) → test (lasts r) ≡ x → Sorted s i k test f (whole_read (reading v) i k >>= ask)
          by-test r c a d w true y =
              found (record { file = v; events = u; accepted = h; recording = r; held = a; read = rw (a, d, w); passes = y }) (rw (a, d, w, y))
          by-test r c a d w false y = stopped 19 0 (rw (a, d, w, y)) (proper-outside s)

          by-format : (r : RecordingReading) (c : ChannelReading) → recording_read (reading v) i ≡ value r → numbered r.channels k ≡ value c →
              (x : Bool) → R.between 1 3 (format_in c) ≡ x → Sorted s i k test f (whole_read (reading v) i k >>= ask)
          by-format r c a d true w = by-test r c a d w (test (lasts r)) refl
          by-format r c a d false w = stopped 19 0 (rw (a, d, w)) (proper-outside s)

          by-channel : (r : RecordingReading) → recording_read (reading v) i ≡ value r → Entry (numbered r.channels k) →
              Sorted s i k test f (whole_read (reading v) i k >>= ask)
          by-channel r a (there c d) = by-format r c a d (R.between 1 3 (format_in c)) refl
          by-channel r a (missing d) = stopped 19 0 (rw (a, d)) (proper-outside s)

          by-recording : Entry (recording_read (reading v) i) → Sorted s i k test f (whole_read (reading v) i k >>= ask)
          by-recording (there r a) = by-channel r a (entry-numbered r.channels k)
          by-recording (missing a) = stopped 19 0 (rw a) (proper-outside s)

      go : (o : Outcome R.File) → R.judge s ≡ o → Sorted s i k test f (by_reading o (λ g. whole_read g i k >>= ask))
      go (refused n p) e = stopped n p refl (of-file s of_question 0 (λ m h. rw h) n p e)
      go (passed v l u) e = within-file v u (judged s e)

-- The overview of one epoch

module _ (s : List ℕ) (i k e : ℕ) where
  sorted-overview : Sorted s i k (ltb (30 * e)) (λ r. epoch_in r k e) (overview_of s i k e)
  sorted-overview = sorted s i k (ltb (30 * e)) (λ r. epoch_in r k e)

  overview-refuses : (m q : ℕ) → refusal m q ≡ overview_of s i k e → Refuses of_question (length s) 0 m q
  overview-refuses m q h = go sorted-overview
    where
      go : Sorted s i k (ltb (30 * e)) (λ r. epoch_in r k e) (overview_of s i k e) → Refuses of_question (length s) 0 m q
      go (stopped n p j y) =
          let a : n ≡ m = cc in
          let b : p ≡ q = cc in
          rw (a, b) at y
      go (found y j) = apart (sym j ∙ sym h)

  -- the reading's samples, of which this was answered
  in-epoch : {z : Option Envelope} {Holds : List ℤ → Type 0} → value z ≡ overview_of s i k e →
      ((zs : List ℤ) → envelope_of zs ≡ z → Holds zs) → InEpoch s i k e Holds
  in-epoch {z} {Holds} h says = go sorted-overview
    where
      go : Sorted s i k (ltb (30 * e)) (λ r. epoch_in r k e) (overview_of s i k e) → InEpoch s i k e Holds
      go (stopped n p j y) = apart (h ∙ j)
      go (found y j) =
          let a : epoch_in y.recording k e ≡ z = cc in
          record { file = y.file; events = y.events; accepted = y.accepted; recording = y.recording; held = y.held; holds = says _ a }

-- The range of several epochs

-- a question's refusals are a range's, which has 17 besides
wider : (size need n p : ℕ) → Refuses of_question size 0 n p → Refuses of_run size need n p
unfolding R.between
wider size need n p x = record {
  number = also (of_file n) (eqb n 19) x.number;
  named = x.named;
  nonzero = x.nonzero;
  file = x.file;
  maker = x.maker;
  room = λ e. absurd (no-seventeen (rw e at x.number));
  range = x.range;
}
  where
    never : false ≡ true → ⊥
    never e = let z : ◌≡◌ {A = ℕ} 0 1 = cc in omega arith

    also : (a c : Bool) → a || c ≡ true → a || (c || eqb n 17) ≡ true
    also true c e = refl
    also false true e = refl
    also false false e = absurd (never e)

    no-seventeen : of_question 17 ≡ true → ⊥
    no-seventeen e = never e

three : (x : Option Envelope) → length (numbers x) ≡ 3
three None = refl
three (Some x) = refl

module _ (r : RecordingReading) (k : ℕ) where
  flat-long : (first n : ℕ) → length (flat numbers (epochs_in r k first n)) ≡ 3 * n
  unfolding flat epochs_in
  flat-long first zero = refl
  flat-long first (suc n) =
      length-append (numbers (epoch_in r k first)) (flat numbers (epochs_in r k (suc first) n))
      ∙ omega (arith, three (epoch_in r k first), flat-long (suc first) n)

  flat-none : (first n : ℕ) (out : List ℤ) → n ≡ 0 → flat numbers (epochs_in r k first n) ++ drop (3 * n) out ≡ out
  unfolding flat epochs_in
  flat-none first n out z = ap (λ (m : ℕ). flat numbers (epochs_in r k first m) ++ drop (3 * m) out) z

  -- the numbers of epoch q
  front : (x : Option Envelope) (ys : List ℤ) → take 3 (numbers x ++ ys) ≡ numbers x
  front None ys = refl
  front (Some x) ys = refl

  behind : (x : Option Envelope) (ys : List ℤ) (q : ℕ) → drop (3 * suc q) (numbers x ++ ys) ≡ drop (3 * q) ys
  behind x ys q = let z : 3 * suc q ≡ suc (suc (suc (3 * q))) = omega arith in ap (λ (n : ℕ). drop n (numbers x ++ ys)) z ∙ go x
    where
      go : (x : Option Envelope) → drop (suc (suc (suc (3 * q)))) (numbers x ++ ys) ≡ drop (3 * q) ys
      go None = refl
      go (Some x) = refl

  flat-entry : (first n q : ℕ) (rest : List ℤ) → q < n →
      take 3 (drop (3 * q) (flat numbers (epochs_in r k first n) ++ rest)) ≡ numbers (epoch_in r k (first + q))
  unfolding flat epochs_in
  flat-entry first zero q rest l = absurd (omega arith)
  flat-entry first (suc n) zero rest l =
      let z : first ≡ first + 0 = omega arith in
      rw (append_assoc (numbers (epoch_in r k first)) (flat numbers (epochs_in r k (suc first) n)) rest)
      (front (epoch_in r k first) (flat numbers (epochs_in r k (suc first) n) ++ rest) ∙ ap (λ (e : ℕ). numbers (epoch_in r k e)) z)
  flat-entry first (suc n) (suc q) rest l =
      let z : suc first + q ≡ first + suc q = omega arith in
      rw (
        append_assoc (numbers (epoch_in r k first)) (flat numbers (epochs_in r k (suc first) n)) rest,
        behind (epoch_in r k first) (flat numbers (epochs_in r k (suc first) n) ++ rest) q,
      )
      (flat-entry (suc first) n q rest (omega arith) ∙ ap (λ (e : ℕ). numbers (epoch_in r k e)) z)

-- what y says is answered, and what the buffer holds afterwards
data Ranged (s : List ℕ) (i k first n : ℕ) (out out' : List ℤ) (y : Answer ℕ) : Type 0 where
  halted : (m p : ℕ) → y ≡ refusal m p → Refuses of_run (length s) (3 * n) m p → out' ≡ out → Ranged s i k first n out out' y
  wrote : (z : Found s i k (λ all. within all first n)) → y ≡ value n → 3 * n ≤ length out →
      out' ≡ flat numbers (epochs_in z.recording k first n) ++ drop (3 * n) out → Ranged s i k first n out out' y

module _ (s : List ℕ) (i k first n : ℕ) (out out' : List ℤ) (y : Answer ℕ)
    (h : y ≡ counted n (length out) (range_of s i k first n)) (g : out' ≡ holding n (range_of s i k first n) out) where
  ranged : Ranged s i k first n out out' y
  ranged = go (sorted s i k (λ all. within all first n) (λ r. epochs_in r k first n))
    where
      with-room : (z : Found s i k (λ all. within all first n)) (c : Bool) → leb (3 * n) (length out) ≡ c → y ≡ pick c (value n) (refusal 17 (3 * n)) →
          out' ≡ pick c (flat numbers (epochs_in z.recording k first n) ++ drop (3 * n) out) out → Ranged s i k first n out out' y
      with-room z true e h g = wrote z h (leb-true (3 * n) (length out) e) g
      with-room z false e h g = halted 17 (3 * n) h (short of_run (length s) (3 * n) 17 (3 * n) (or_right (of_file 17) refl) refl refl) g

      go : Sorted s i k (λ all. within all first n) (λ r. epochs_in r k first n) (range_of s i k first n) → Ranged s i k first n out out' y
      go (stopped m p j x) = halted m p (rw j at h) (wider (length s) (3 * n) m p x) (rw j at g)
      go (found z j) = with-room z (leb (3 * n) (length out)) refl (rw j at h) (rw j at g)

  range-refuses : (u v : ℕ) → y ≡ refusal u v → Refuses of_run (length s) (3 * n) u v
  range-refuses u v e = go ranged
    where
      go : Ranged s i k first n out out' y → Refuses of_run (length s) (3 * n) u v
      go (halted m p j x _) =
          let a : m ≡ u = cc in
          let b : p ≡ v = cc in
          rw (a, b) at x
      go (wrote z j _ _) = apart (sym j ∙ e)

  range-count : (m : ℕ) → y ≡ value m → m ≡ n
  range-count m e = go ranged
    where
      go : Ranged s i k first n out out' y → m ≡ n
      go (halted u p j _ _) = apart (sym e ∙ j)
      go (wrote z j _ _) = cc

  -- what is left of the buffer, by an answer a that is had from y: where it was written, a tells the number, and is no refusal unless there is nothing to write
  module _ {E Why : Type 0} (refuse : Why → E) (tell : ℕ → E) (a : E) (unwritten : (m p j : ℕ) → 1 ≤ m → y ≡ refusal m p → a ≡ tell j → ⊥)
      (all : (j : ℕ) → y ≡ value n → a ≡ tell j → j ≡ n) (nothing : (r : Why) → y ≡ value n → a ≡ refuse r → n ≡ 0) where
    keeps : KeepsRest refuse tell 3 out out' a
    keeps = go ranged
      where
        go : Ranged s i k first n out out' y → KeepsRest refuse tell 3 out out' a
        go (halted m p j x e) = record {
          refused = λ _ _. e;
          fits = λ u b. absurd (unwritten m p u x.nonzero j b);
          beyond = λ u b. absurd (unwritten m p u x.nonzero j b);
          long = ap length e;
        }
        go (wrote z j room e) =
            let xs : List ℤ = flat numbers (epochs_in z.recording k first n) in
            let l : length xs ≡ 3 * n = flat-long z.recording k first n in
            record {
              refused = λ r b. e ∙ flat-none z.recording k first n out (nothing r j b);
              fits = λ u b. rw (all u j b) room;
              beyond = λ u b. rw (all u j b, e) (drop_at xs (drop (3 * n) out) (3 * n) l);
              long = ap length e ∙ (length-append xs (drop (3 * n) out) ∙ rw length-drop (omega (arith, l)));
            }

  -- epoch q of the buffer
  epoch-told : y ≡ value n → (q : ℕ) → q < n → (d : Result (Option Envelope) Refusal) → OverviewAnswer s i k (first + q) d → EpochTells out' q d
  epoch-told e q l d x = go ranged
    where
      go : Ranged s i k first n out out' y → EpochTells out' q d
      go (halted m p j _ _) = apart (sym e ∙ j)
      go (wrote z j room b) =
          let r : RecordingReading = z.recording in
          let t : ltb (30 * (first + q)) (lasts r) ≡ true = lt-ltb (30 * (first + q)) (lasts r) (epochs-there (lasts r) first n z.passes q l) in
          let o : overview_of s i k (first + q) ≡ value (epoch_in r k (first + q)) = rw (z.accepted, z.read, t) in
          record { epoch = epoch_in r k (first + q); told = x ∙ o; entry = rw b (flat-entry r k first n q (drop (3 * n) out) l) }

-- What C is answered: a value or a refusal, taken apart

abbrev enveloped : Meant {X = Option Envelope} value refusal (Result (Option Envelope) Refusal) Overviewed
enveloped = record {
  meaning = meaning;
  tell = Ok;
  refuse = Err;
  flat = flat_overview;
  says = λ a. (a.refusal, a.position);
  tells = λ v. refl;
  refuses = λ r. refl;
  zero = zero;
  named = λ n p. refl;
}
  where
    zero : (v : Option Envelope) → (flat_overview (value v)).refusal ≡ 0
    zero None = refl
    zero (Some x) = refl

abbrev epochs : Meant {X = ℕ} value refusal (Result ℕ Refusal) Counted
epochs = record {
  meaning = meaning;
  tell = Ok;
  refuse = Err;
  flat = flat_counted;
  says = λ a. (a.refusal, a.position);
  tells = λ v. refl;
  refuses = λ r. refl;
  zero = λ v. refl;
  named = λ n p. refl;
}

module _ (s : List ℕ) (i k : ℕ) where
  overview-apart : (e : ℕ) (a : Overviewed) → OverviewAnswers s i k e a →
      TakenApart s (OverviewAnswer s i k e) Err (λ b. flat_overview (meaning b)) of_question 0 a.refusal a.position a
  overview-apart e a x = by-meaning enveloped s (either (overview_of s i k e)) (λ b h. h) x (λ n p h. rw h) (λ n p h. overview-refuses s i k e n p (sym h))

  module _ (first n : ℕ) (out out' : List ℤ) (a : Counted) (x : RangeAnswers s i k first n out out' a) where
    abbrev answered : Answer ℕ
    answered = counted n (length out) (range_of s i k first n)

    range-apart : TakenApart s (RangeAnswer s i k first n out out') Err (λ b. flat_counted (meaning b)) of_run (3 * n) a.refusal a.position a
    range-apart =
        by-meaning epochs s (either answered) (λ b h. record { answer = h; buffer = x.buffer }) x.answer (λ m p h. rw h)
        (λ m p h. range-refuses s i k first n out out' answered refl x.buffer m p h)

    range-apart-keeps : KeepsRest stopped_c wrote_c 3 out out' a
    range-apart-keeps =
        keeps s i k first n out out' answered refl x.buffer stopped_c wrote_c a
        (λ m p j l e b. let z : m ≡ 0 = ap (λ (c : Counted). c.refusal) (sym (x.answer ∙ ap flat_counted e) ∙ b) in omega arith)
        (λ j e b. ap (λ (c : Counted). c.count) (sym b ∙ (x.answer ∙ ap flat_counted e)))
        (λ r e b. ap (λ (c : Counted). c.count) (sym (x.answer ∙ ap flat_counted e) ∙ b))

-- Two files with one reading

module _ (s s' : List ℕ) {v : R.File} {t : List Event} (h : Accepted s v t) (y : Same s (reading v) s') where
  same_read : {A : Type 0} (ask : Reading → Answer A) → by_reading (R.judge s') ask ≡ by_reading (R.judge s) ask
  same_read f = rw (y.accepted, h) (ap f y.same)

  same-range : (i k first n : ℕ) → range_of s' i k first n ≡ range_of s i k first n
  same-range i k first n = same_read (λ g. whole_read g i k >>= λ r. pick (within (lasts r) first n) (value (epochs_in r k first n)) outside)

  same-overview : (i k e : ℕ) → overview_of s' i k e ≡ overview_of s i k e
  same-overview i k e = same_read (λ g. whole_read g i k >>= λ r. pick (ltb (30 * e) (lasts r)) (value (epoch_in r k e)) outside)

  same-overviews : SameOverviews s s'
  same-overviews = record {
    overview = λ i k e a b x z. meaning-one a b x (z ∙ same-overview i k e);
    range = λ i k first n out out₁ out₂ a b x z.
        let q = same-range i k first n in
        let z' : RangeAnswer s i k first n out out₂ b = record {
          answer = z.answer ∙ ap (counted n (length out)) q;
          buffer = z.buffer ∙ ap (λ (u : Answer (List (Option Envelope))). holding n u out) q;
        } in
        let w = range_unique s i k first n out out₁ out₂ a b x z' in
        record { answer = w.0; buffer = w.1 };
    boundary_overview = λ i k e a b x z. x ∙ (ap flat_overview (sym (same-overview i k e)) ∙ sym z);
    boundary_range = λ i k first n out out₁ out₂ a b x z.
        let q = sym (same-range i k first n) in
        record {
          answer = x.answer ∙ (ap (λ (u : Answer (List (Option Envelope))). flat_counted (counted n (length out) u)) q ∙ sym z.answer);
          buffer = x.buffer ∙ (ap (λ (u : Answer (List (Option Envelope))). holding n u out) q ∙ sym z.buffer);
        };
  }

pub promises : (s : List ℕ) → Bytes s → Promises s
promises s b = record {
  overview = λ i k e a x r j. overview-refuses s i k e (number_of r.0) r.1 (ap meaning (sym j) ∙ x);
  range = λ i k first n out out' a x r j. range-refuses s i k first n out out' (meaning a) x.answer x.buffer (number_of r.0) r.1 (ap meaning j);
  range_keeps = λ i k first n out out' a x.
      keeps s i k first n out out' (meaning a) x.answer x.buffer Err Ok a
      (λ m p j l e c. apart (sym (ap meaning c) ∙ e)) (λ j e c. cc (ap meaning c, e)) (λ r e c. apart (sym e ∙ ap meaning c));
  overview_handed = λ n p h i k e a x. (named h, meaning-one a (Err (refusal_of n p)) x (told h ∙ (rw h)));
  range_handed = λ m p h i k first n out out' a x. (named h, meaning-one a (Err (refusal_of m p)) x.answer (told h ∙ (rw h)));
  samples = λ i k e x h. in-epoch s i k e h (λ zs j. envelope-is zs x j);
  empty = λ i k e h. in-epoch s i k e h none-there;
  range_number = λ i k first n out out' a x m j. range-count s i k first n out out' (meaning a) x.answer x.buffer m (ap meaning j);
  agrees = λ i k first n out out' x. epoch-told s i k first n out out' (value n) x.answer x.buffer refl;
  turned = λ v t h free out out' a room x. same-overviews s (take (length s) out') h ((demand-3 s b).turned v t h free out out' a room x);
  boundary_turned = λ v t h free out out' a room x. same-overviews s (take (length s) out') h ((demand-3 s b).boundary_turned v t h free out out' a room x);
  boundary = record { overview = overview-apart s; range = range-apart s; range_keeps = range-apart-keeps s };
}
  where
    named : {n p : ℕ} → R.judge s ≡ refused n p → Named n
    named {n} {p} h = ((demand-2 s b).refuses n p h).named

    -- the rules' refusal, as the code says it
    told : {A : Type 0} {n p : ℕ} → R.judge s ≡ refused n p → ◌≡◌ {A = Answer A} (refusal (number_of (refusal_of n p).0) p) (refusal n p)
    told {A} {n} {p} h = ap (λ (m : ℕ). refusal m p) (named h)
