-- The three demands, of every list of bytes that a file is: `demand-1`, `demand-2`, `demand-3`. What they say stands in specs/Demands.
-- Assumes nothing.
use Rattle.std.proofs.Common.{Result, Ok, Err, Some}
use Rattle.rules.specs.Reasons.{number_of, refusal_of}
use Rattle.rules.specs.declared.Refusal.{Refusal}
use mathlib.Core.Path.{◌≡◌, refl, sym, ap, ◌∙◌}
use mathlib.Core.Bool.{true}
use mathlib.Core.List.{List}
use mathlib.Core.Option.{none}
use Prim.Native.Nat.{ℕ, ◌*◌, ◌≤◌}
use native.Mathlib.Omega.{arith}
use borrow.Author.Tests.{le-leb}
use denote.Bor.{Bor}
use lib.IntN.{ℤ}
use lib.ListN.{length, take}
use Rattle.words.specs.Lent.{written}
use Rattle.words.specs.Numbers.{Bytes, other}
use Rattle.words.specs.declared.Order.{Order}
use Rattle.words.proofs.Lent.{written-front}
use Rattle.walk.specs.Walk.{Event, refused, rows}
use Rattle.rules.specs.Canonical.{rewritten, canonical}
use Rattle.rules.specs.Reading.{Value, ChannelReading, channel_reading, reading}
use Rattle.rules.specs.Rules as R
use Rattle.rules.proofs.CanonicalForm.{canonical-form, form-unique}
use Rattle.rules.proofs.Rewrite.{rewrite-bytes}
use Rattle.rules.proofs.Turn.{is-render, turn-bytes}
use Rattle.header.specs.Letters.{lettered}
use Rattle.judge.proofs.Verdicts.{judge-accepted, judge-refused}
use Rattle.rows.specs.Rows as Rows
use Rattle.table.specs.Table as Table
use Rattle.table.specs.Table.{Lists}
use Rattle.table.proofs.Answers.{lists-refused, table-unique}
use Rattle.recordings.specs.Answers.{Answer, value, ◌>>=◌, numbered}
use Rattle.recordings.proofs.Chosen.{answered}
use Rattle.samples.specs.Placed.{place_of, PartAnswer}
use Rattle.samples.specs.declared.Place.{Place}
use Rattle.samples.specs.declared.Track.{Track}
use Rattle.samples.proofs.Placing.{part-inside, placed-from}
use Rattle.records.specs.declared.items.Holder.TheVariants as Holder
use Rattle.questions.specs.Tied.{recording_read, channel_read}
use Rattle.recordings.specs.Answers.{meaning}
use Rattle.questions.proofs.Texts.{channel-texts, montage-wired, item-text}
use Rattle.questions.proofs.Showing.{place-samples}
use Rattle.questions.proofs.Tracks.{track-read}
use Rattle.questions.proofs.Unique.{header-unique, facts-unique, channel-unique, montage-count-unique, montage-unique, patient-item-unique, event-item-unique, clock-unique, place-unique, sample-unique}
use Rattle.questions.proofs.Unique.{track-unique}
use Rattle.runs.specs.Runs as Runs
use Rattle.runs.specs.declared.Sibling.{Sibling}
use Rattle.runs.proofs.Asked.{as_before}
use Rattle.runs.proofs.Told.{runs-refused, run-unique}
use Rattle.index.specs.Events.{Entry, entries}
use Rattle.index.specs.Index as Index
use Rattle.index.specs.Index.{Indexes}
use Rattle.index.proofs.Answers.{indexes-refused, index-unique}
use Rattle.index.proofs.AsBefore.{entries-read}
use Rattle.index.proofs.Exact.{exact}
use Rattle.makers.specs.Makers.{first_maker}
use Rattle.permit.specs.Permit as Permit
use Rattle.turn.specs.Turn.{Turns}
use Rattle.turn.proofs.Answers.{turns-refused}
use Rattle.turn.proofs.Demands.{turn-unique, turn-answers, turn-accepted, turn_twice}
use Rattle.rewrite.specs.Rewrite.{barrier, Rewrites}
use Rattle.rewrite.proofs.Answers.{rewrites-refused}
use Rattle.rewrite.proofs.Demands.{rewrite-unique, rewrite-answers, rewrite-accepted, rewrite-both}
use Rattle.room.proofs.Enough.{room-unique, rewrite-enough, room-told, reserved}
use Rattle.room.proofs.Growth.{no_longer}
use Rattle.answers.specs.Flat.{counted_rows, counted_bytes, flat_heading, flat_count}
use Rattle.answers.specs.declared.Counted.{Counted}
use Rattle.psg.specs.Calls.{TableAnswers}
use Rattle.demands.specs.Demands.{of_file, Named, Demand-1, Accepted, HandsUp, TableHolds, IndexHolds, Tells, WrittenAnew, SufficesC, Reserved, Demand-2, header_read, in_other, SameEnd, SameNumbers, BoundarySame, Same, Demand-3}
use Rattle.demands.specs.Demands.{track_in_other}
use Rattle.demands.proofs.Agreeing.{agree-first, numbered-image}
use Rattle.demands.proofs.Refusing.{of-file, header_refused, room-refused, table-refuses, table-keeps, turn-refuses, turn-keeps, rewrite-refuses, rewrite-keeps, index-refuses, index-keeps, question, proper-facts, proper-channel, proper-item, proper-clock, proper-place, proper-sample, proper-montage-count, proper-montage}
use Rattle.demands.proofs.Refusing.{proper-track}
use Rattle.demands.proofs.Running.{run-refuses, run-keeps, run-read, run-number, run-entry}
use Rattle.demands.proofs.Coding.{kind-answered, kinds, boundary-kinds}
use Rattle.demands.proofs.Samples.{recording-picked, place-words}
use Rattle.demands.proofs.Telling.{channel-words, header-told, facts-told, channel-agrees, clock-told, sample-told, montage-count-told, montage-agrees}
use Rattle.demands.proofs.Cutting.{shown, part-is}
use Rattle.demands.proofs.Tracking.{track-same, boundary-track-same}
use Rattle.demands.proofs.Boundary.{boundary, boundary-accepted, boundary-judges, boundary-refused, table-apart, turn-apart, rewrite-apart, index-apart}
use Rattle.demands.proofs.BoundaryTold.{boundary-tells}

pub demand-1 : (s : List ℕ) → Bytes s → Demand-1 s
demand-1 s b = record {
  judge = λ a x r i. of-file s of_file 0 (λ n h. h) (number_of r.0) r.1 (rw i at x);
  table = λ out out' a x r i. table-refuses s (length out) (number_of r.0) r.1 (sym (ap Table.meaning i) ∙ x.answer);
  table_keeps = table-keeps s;
  turn = λ out out' a x r i. turn-refuses s b (length out) (number_of r.0) r.1 (sym (ap Permit.meaning i) ∙ x.answer);
  turn_keeps = turn-keeps s b;
  rewrite = λ order out out' a x r i. rewrite-refuses s b order (length out) (number_of r.0) r.1 (sym (ap Permit.meaning i) ∙ x.answer);
  rewrite_keeps = rewrite-keeps s;
  room = λ a x r i. of-file s of_file 0 (λ n h. h) (number_of r.0) r.1 (room-refused s (number_of r.0) r.1 (sym (ap Permit.meaning i) ∙ x));
  header = λ a x r i. of-file s of_file 0 (λ n h. h) (number_of r.0) r.1 (header_refused s (number_of r.0) r.1 (sym (ap meaning i) ∙ x));
  facts = λ i a x. question s meaning Err (λ r. refl) (proper-facts s i) a x;
  channel = λ i j a x. question s meaning Err (λ r. refl) (proper-channel s i j) a x;
  montage_count = λ i a x. question s meaning Err (λ r. refl) (proper-montage-count s i) a x;
  montage = λ i j a x. question s meaning Err (λ r. refl) (proper-montage s i j) a x;
  patient_item = λ i j a x. question s meaning Err (λ r. refl) (proper-item s Holder.Patient i j) a x;
  event_item = λ i j a x. question s meaning Err (λ r. refl) (proper-item s Holder.Event i j) a x;
  clock = λ i j a x. question s meaning Err (λ r. refl) (proper-clock s i j) a x;
  place = λ i j k a x. question s meaning Err (λ r. refl) (proper-place s i j k) a x;
  track = λ i k a x. question s meaning Err (λ r. refl) (proper-track s i k) a x;
  part = λ file e p r x. shown file p r x;
  sample = λ i j k n a x. question s meaning Err (λ r. refl) (proper-sample s i j k n) a x;
  run = λ c i j k first n out out' a x r e. run-refuses s c i j k first n (length out) (number_of r.0) r.1 (sym (ap meaning e) ∙ x.answer);
  run_keeps = run-keeps s;
  index = λ out out' a x r i. index-refuses s (length out) (number_of r.0) r.1 (sym (ap meaning i) ∙ x.answer);
  index_keeps = index-keeps s;
  event_kind = λ c a x. kind-answered c (length s) a x;
  boundary = boundary s b;
}

-- Demand 2

hands-up : (s : List ℕ) (n p : ℕ) → R.judge s ≡ refused n p → HandsUp s n p
hands-up s n p h = handed (of-file s of_file 0 (λ n h. h) n p h).named
  where
    handed : Named n → HandsUp s n p
    handed named =
        let u = refusal_of n p in
        let h' : R.judge s ≡ refused (number_of u.0) u.1 = h ∙ ap (λ (k : ℕ). refused k p) (sym named) in
        record {
          named = named;
          table = λ out out' a x. (table-unique s out out' out a _ x (lists-refused s out u h')).0;
          turn = λ out out' a x. (turn-unique s out out' out a _ x (turns-refused s out u h')).0;
          rewrite = λ order out out' a x. (rewrite-unique s order out out' out a _ x (rewrites-refused s order out u h')).0;
          room = λ a x. room-unique s a (Err u) x (rw h');
          header = λ a x. header-unique s a (Err u) x (rw h');
          facts = λ i a x. facts-unique s i a (Err u) x (rw h');
          channel = λ i j a x. channel-unique s i j a (Err u) x (rw h');
          montage_count = λ i a x. montage-count-unique s i a (Err u) x (rw h');
          montage = λ i j a x. montage-unique s i j a (Err u) x (rw h');
          patient_item = λ i j a x. patient-item-unique s i j a (Err u) x (rw h');
          event_item = λ i j a x. event-item-unique s i j a (Err u) x (rw h');
          clock = λ i j a x. clock-unique s i j a (Err u) x (rw h');
          place = λ i j k a x. place-unique s i j k a (Err u) x (rw h');
          track = λ i k a x. track-unique s i k a (Err u) x (rw h');
          sample = λ i j k m a x. sample-unique s i j k m a (Err u) x (rw h');
          run = λ c i j k first m out out' a x. (run-unique c s i j k first m out out' out a _ x (runs-refused c s i j k first m out u (rw h'))).0;
          index = λ out out' a x. (index-unique s out out' out a _ x (indexes-refused s out u h')).0;
        }

described : (s : List ℕ) {v : R.File} {t : List Event} → Accepted s v t → (out out' : List ℤ) (a : Result ℕ Refusal) → 4 * length (rows 0 t) ≤ length out → Lists s out out' a → TableHolds Ok (rows 0 t) out' a
described s {v} {t} h out out' a room x =
    let l = le-leb (4 * length (rows 0 t)) (length out) room in
    let y = table-unique s out out' (written Rows.numbers 4 true out 0 (rows 0 t)) a (Ok (length (rows 0 t))) x (record { answer = rw (h, l); buffer = rw (h, l) }) in
    record { answer = y.0; holds = ap (take (4 * length (rows 0 t))) y.1 ∙ written-front Rows.numbers 4 (λ _. refl) out (rows 0 t) }

indexed : (s : List ℕ) {v : R.File} {t : List Event} → Accepted s v t → (out out' : List ℤ) (a : Result ℕ Refusal) → 5 * length (entries s (R.contents v)) ≤ length out → Indexes s out out' a → IndexHolds Ok (entries s (R.contents v)) out' a
indexed s {v} h out out' a room x =
    let es = entries s (R.contents v) in
    let l = le-leb (5 * length es) (length out) room in
    let y = index-unique s out out' (written Index.numbers 5 true out 0 es) a (Ok (length es)) x (record { answer = rw (h, l); buffer = rw (h, l) }) in
    record { answer = y.0; holds = ap (take (5 * length es)) y.1 ∙ written-front Index.numbers 5 (λ _. refl) out es }

tells : (s : List ℕ) → Bytes s → {v : R.File} {t : List Event} → Accepted s v t → Tells s (reading v)
tells s b {v} {t} h = record {
  header = λ a x. x ∙ header-told s h;
  facts = λ i a x. x ∙ facts-told s b h i;
  channel = λ i j a x. rw x (channel-agrees s b h i j);
  texts = λ i j a x. rw x (channel-texts s b h i j);
  montage_count = λ i a x. x ∙ montage-count-told s b h i;
  montage = λ i j a x. rw x (montage-agrees s b h i j);
  wired = λ i j a x. rw x (montage-wired s b h i j);
  patient_item = λ i j a x. rw x (item-text s b h i j Holder.Patient);
  event_item = λ i j a x. rw x (item-text s b h i j Holder.Event);
  clock = λ i j a x. x ∙ clock-told s b h i j;
  place = λ i j k a x. rw x (place-samples s b h i j k);
  part = λ file e i j k p x r y. part-is file p r y (rw e b) {v = v} {t = t} (rw e h) i j k (rw e x);
  track = λ i k a x. rw x (track-read s b h i k);
  sample = λ i j k n a x. rw x (sample-told s b h i j k n);
  run = λ c i j k first n out out' a x. record {
    answer = x.answer ∙ ap (Runs.counted n (length out)) (run-read s b h c i j k first n);
    buffer = x.buffer ∙ ap (λ (y : Answer (List Value)). Runs.holding c n y out) (run-read s b h c i j k first n);
  };
  run_number = λ c i j k first n out out' a x m e. run-number x m e;
  run_entry = run-entry s b h;
}

-- the file that `rewrite` wrote, whatever tells its length
module _ (s : List ℕ) (b : Bytes s) {v : R.File} {t : List Event} (h : Accepted s v t) (order : ℕ) (to : Order) (names : lettered order ≡ Some to) (free : barrier (R.order_of s) to (first_maker (rows 0 t)) ≡ none)
    (out out' : List ℕ) (c : Result ℕ Refusal) (room : length (rewritten to s) ≤ length out) (x : Rewrites s order out out' c) where
  rewrite-told : c ≡ Ok (length (rewritten to s))
  rewrite-told = (rewrite-answers s h order to names free out out' c room x).0

  written-anew : {E : Type 0} {wrote : ℕ → E} (a : E) → a ≡ wrote (length (rewritten to s)) → WrittenAnew wrote (reading v) to out' a
  written-anew a e =
      let y = rewrite-answers s h order to names free out out' c room x in
      let z = rewrite-accepted s h order to names free out out' c room x b in
      let bs : Bytes (take (length (rewritten to s)) out') = rw y.1 (rewrite-bytes s b h to) in
      let form = canonical-form (reading v) (take (length (rewritten to s)) out') bs z.0 in
      record {
        count = length (rewritten to s);
        answer = e;
        file = z.0.file;
        events = canonical (reading v);
        accepted = z.0.judged;
        same = z.0.same;
        order = z.1;
        form = form;
        only = λ q u m d k f e o. form-unique q _ d bs k z.0.judged (e ∙ sym z.0.same) f form (o ∙ sym z.1);
      }

-- the room for a rewrite of an accepted file
module _ (s : List ℕ) (b : Bytes s) {v : R.File} {t : List Event} (h : Accepted s v t) where
  boundary-suffices : (n : ℕ) → ((to : Order) → length (rewritten to s) ≤ n) → SufficesC s n
  boundary-suffices n k order out out' a l x e =
      let y = rewrite-apart s b order out out' a x in
      rewrite-enough s n k order out out' y.told l y.met (refusal_of a.refusal a.position) (y.refused (omega (arith, e))) ((y.proper (omega (arith, e))).named ∙ e)

  room-reserved : Reserved s v
  room-reserved = record {
    longer = reserved s b h;
    no_longer = λ k to. no_longer s b h to k;
    answer = room-told s b h;
    enough = rewrite-enough s _ (reserved s b h);
    own = λ k. rewrite-enough s _ (λ to. no_longer s b h to k);
    boundary_answer = λ a x. x ∙ (rw h);
    boundary_enough = boundary-suffices _ (reserved s b h);
    boundary_own = λ k. boundary-suffices _ (λ to. no_longer s b h to k);
  }

pub demand-2 : (s : List ℕ) → Bytes s → Demand-2 s
demand-2 s b = record {
  judges = λ a x. record {
    accepts = λ v t h. judge-accepted s a x h;
    refuses = λ n p h. ((of-file s of_file 0 (λ n h. h) n p h).named, judge-refused s a x h);
    refused = λ r i. rw i at x;
  };
  accepted = λ a x h i. rw i at x;
  refuses = hands-up s;
  lists = λ v t h out out' a room x. described s h out out' a room x;
  indexes = λ v t h out out' a room x. indexed s h out out' a room x;
  events = λ v t h. exact s b h;
  answers = λ v t h. tells s b h;
  rewrites = λ v t h order to names free out out' a room x. written-anew s b h order to names free out out' a room x a (rewrite-told s b h order to names free out out' a room x);
  reserved = λ v t h. room-reserved s b h;
  kinds = kinds;
  boundary_judges = boundary-judges s b;
  boundary_refused = boundary-refused s b;
  boundary_accepted = boundary-accepted s b;
  boundary_lists = λ v t h out out' a room x.
      let y = table-apart s b out out' a x in
      let z = described s h out out' y.told room y.met in
      record { answer = y.same ∙ ap (λ (c : Result ℕ Refusal). counted_rows (Table.meaning c)) z.answer; holds = z.holds };
  boundary_indexes = λ v t h out out' a room x.
      let y = index-apart s b out out' a x in
      let z = indexed s h out out' y.told room y.met in
      record { answer = y.same ∙ ap (λ (c : Result ℕ Refusal). flat_count (meaning c)) z.answer; holds = z.holds };
  boundary_answers = λ v t h. boundary-tells s b h;
  boundary_rewrites = λ v t h order to names free out out' a room x.
      let y = rewrite-apart s b order out out' a x in
      written-anew s b h order to names free out out' y.told room y.met a (y.same ∙ ap (λ (c : Result ℕ Refusal). counted_bytes (Permit.meaning c)) (rewrite-told s b h order to names free out out' y.told room y.met));
  boundary_kinds = boundary-kinds;
}

-- Demand 3

-- two files of which the rules say the same
module _ (s s' : List ℕ) (e : R.judge s' ≡ R.judge s) where
  table_same : (out out₁ out₂ : List ℤ) (a c : Result ℕ Refusal) → Lists s out out₁ a → Lists s' out out₂ c → SameEnd a c out₁ out₂
  table_same out out₁ out₂ a c x y =
      let z = table-unique s out out₁ out₂ a c x (record { answer = rw e at y.answer; buffer = rw e at y.buffer }) in
      record { answer = z.0; buffer = z.1 }

  -- a run goes through the bytes, which are not the same: its numbers are
  run-same : Bytes s → Bytes s' → (d : Sibling) (i j k first n : ℕ) → Runs.run_of d s' i j k first n ≡ Runs.run_of d s i j k first n
  run-same b b' d i j k first n = as_before s' b' d i j k first n ∙ (rw e (sym (as_before s b d i j k first n)))

  boundary-table-same : (out out₁ out₂ : List ℤ) (a c : Counted) → TableAnswers s out out₁ a → TableAnswers s' out out₂ c → SameEnd a c out₁ out₂
  boundary-table-same out out₁ out₂ a c x y = record { answer = x.answers ∙ (rw e) ∙ sym y.answers; buffer = x.holds ∙ (rw e) ∙ sym y.holds }

-- the index goes through the bytes too, and has the same entries
module _ (s s' : List ℕ) (b : Bytes s) (b' : Bytes s') {v : R.File} {t : List Event} (h : Accepted s v t) (h' : Accepted s' v t) where
  entries-same : entries s' (R.contents v) ≡ entries s (R.contents v)
  entries-same = entries-read s' b' h' ∙ sym (entries-read s b h)

  index-answer : (room : ℕ) → Index.answer_of s' room ≡ Index.answer_of s room
  index-answer room = rw (h, h') (ap (λ (es : List Entry). Index.counted es room) entries-same)

  index-after : (out : List ℤ) → Index.afterwards s' out ≡ Index.afterwards s out
  index-after out = rw (h, h') (ap (λ (es : List Entry). Index.kept es out) entries-same)

  index_same : (out out₁ out₂ : List ℤ) (a c : Result ℕ Refusal) → Indexes s out out₁ a → Indexes s' out out₂ c → SameEnd a c out₁ out₂
  index_same out out₁ out₂ a c x y =
      let z = index-unique s out out₁ out₂ a c x (record { answer = y.answer ∙ index-answer (length out); buffer = y.buffer ∙ index-after out }) in
      record { answer = z.0; buffer = z.1 }

-- the channel of a reading is that of the file's value
module _ (s : List ℕ) {v : R.File} {t : List Event} (h : Accepted s v t) (i k : ℕ) (c : ChannelReading) (has : channel_read (reading v) i k ≡ value c) where
  record Behind : Type 0 where
    of : R.Placed
    is : numbered v.recordings i ≡ value of
    channel : R.Channel
    holds : numbered of.recording.channels k ≡ value channel
    reads : c ≡ channel_reading channel

  behind : Behind
  behind =
      let a = answered (recording_read (reading v) i) (λ r. numbered r.channels k) has in
      let p = agree-first (recording-picked s h i) a.1 in
      let y = agree-first (numbered-image channel_reading p.0.this.recording.channels k) (rw p.2.reads at a.2) in
      record { of = p.0.this; is = p.2.is; channel = y.0; holds = y.1; reads = y.2.maps }

-- parts of two files with the same value and the same events, cut at one place
module _ (i j k : ℕ) (p : Place) (file r file' r' : Bor (List ℕ)) (b : Bytes file.now) (b' : Bytes file'.now) {v : R.File} {t : List Event}
    (h : Accepted file.now v t) (h' : Accepted file'.now v t) (e : value p ≡ place_of file.now i j k) (e' : value p ≡ place_of file'.now i j k) (x : PartAnswer file p r) (x' : PartAnswer file' p r') where
  same_numbers : SameNumbers (reading v) i k file r file' r'
  same_numbers =
      let y = part-is file p r x b h i j k e in
      let y' = part-is file' p r' x' b' h' i j k e' in
      let l = part-inside (length file.now) p (placed-from file.now b i j k (sym e)).inside in
      let l' = part-inside (length file'.now) p (placed-from file'.now b' i j k (sym e')).inside in
      record {
        at = p.position;
        offset = y.offset;
        offset' = y'.offset;
        long = y.long ∙ sym y'.long;
        words = λ c has.
            let z = behind file.now h i k c has in
            let w = place-words file.now b h i j k (sym e) z.of z.channel z.is z.holds in
            let f = ap (λ (u : R.Channel). u.format) (channel-words file.now b h i z.of z.is k z.channel z.holds) in
            rw (z.reads, f)
            (record {
              words = w.0;
              first = rw l at x.bytes ∙ w.1 _ file.now (is-render file.now b h);
              second = rw l' at x'.bytes ∙ w.1 _ file'.now (is-render file'.now b' h');
            });
      }

-- the file that `turn` wrote of an accepted one without makers' records
module _ (s : List ℕ) (b : Bytes s) {v : R.File} {t : List Event} (h : Accepted s v t) (free : first_maker (rows 0 t) ≡ none) (out out' : List ℕ) (a : Result ℕ Refusal) (room : length s ≤ length out) (x : Turns s out out' a) where
  abbrev s' : List ℕ
  s' = take (length s) out'

  turned-bytes : Bytes s'
  turned-bytes = rw (turn-answers s h free b out out' a room x).1 (turn-bytes s b h)

  turned-header : {o : Order} → o ≡ other (R.order_of s) → value (header_read o (reading v)) ≡ value (in_other (header_read (R.order_of s) (reading v)))
  turned-header e = ap (λ (o : Order). value (header_read o (reading v))) e

  boundary-same : BoundarySame s s'
  boundary-same =
      let z = turn-accepted s h free b out out' a room x in
      let e : R.judge s' ≡ R.judge s = z.0 ∙ sym h in
      record {
        table = boundary-table-same s s' e;
        room = λ a c x y. x ∙ (rw (e, z.1)) ∙ sym y;
        header = λ a c x y. rw (x ∙ ap flat_heading (header-told s h), y ∙ ap flat_heading (header-told s' z.0 ∙ turned-header z.2))
            (record { first = refl; second = refl; refusal = refl; position = refl; spelling = refl; version = refl; form = refl; script = refl; recordings = refl });
        facts = λ i a c x y. x ∙ (rw e) ∙ sym y;
        channel = λ i j a c x y. x ∙ (rw e) ∙ sym y;
        montage_count = λ i a c x y. x ∙ (rw e) ∙ sym y;
        montage = λ i j a c x y. x ∙ (rw e) ∙ sym y;
        patient_item = λ i j a c x y. x ∙ (rw e) ∙ sym y;
        event_item = λ i j a c x y. x ∙ (rw e) ∙ sym y;
        clock = λ i j a c x y. x ∙ (rw e) ∙ sym y;
        place = λ i j k a c x y. x ∙ (rw e) ∙ sym y;
        track = λ i k a c x y. rw (x, y) (boundary-track-same s s' e z.2 i k);
        sample = λ i j k n a c x y. x ∙ (rw e) ∙ sym y;
        run = λ d i j k first n out out₁ out₂ a c x y.
            let w = run-same s s' e b turned-bytes d i j k first n in
            record {
              answer = x.answers ∙ (ap (λ (z : Answer (List Value)). flat_count (Runs.counted n (length out) z)) (sym w) ∙ sym y.answers);
              buffer = x.holds ∙ (ap (λ (z : Answer (List Value)). Runs.holding d n z out) (sym w) ∙ sym y.holds);
            };
        index = λ out out₁ out₂ a c x y. record {
          answer = x.answers ∙ (ap flat_count (sym (index-answer s s' b turned-bytes h z.0 (length out))) ∙ sym y.answers);
          buffer = x.holds ∙ (sym (index-after s s' b turned-bytes h z.0 out) ∙ sym y.holds);
        };
        back = λ out₂ out₂' c l z.
            let y = turn-apart s' turned-bytes out₂ out₂' c z in
            let w = turn_twice s h free b out out' a room x out₂ out₂' y.told l y.met in
            record { answer = y.same ∙ ap (λ (c : Result ℕ Refusal). counted_bytes (Permit.meaning c)) w.0; holds = w.1 };
        anew = λ order to names out₁ out₁' c l₁ x₁ out₂ out₂' d l₂ x₂.
            let y₁ = rewrite-apart s b order out₁ out₁' c x₁ in
            let y₂ = rewrite-apart s' turned-bytes order out₂ out₂' d x₂ in
            let w = rewrite-both s b h free out out' a room x order to names out₁ out₁' y₁.told l₁ y₁.met out₂ out₂' y₂.told l₂ y₂.met in
            record { answer = y₁.same ∙ (ap (λ (c : Result ℕ Refusal). counted_bytes (Permit.meaning c)) w.0 ∙ sym y₂.same); front = w.1 };
      }

  says-the-same : Same s (reading v) s'
  says-the-same =
      let y = turn-accepted s h free b out out' a room x in
      let e : R.judge s' ≡ R.judge s = y.0 ∙ sym h in
      record {
        file = v;
        events = t;
        accepted = y.0;
        same = refl;
        long = y.1;
        order = y.2;
        table = table_same s s' e;
        room = λ a c x z. room-unique s a c x (rw (e, y.1) at z);
        header = λ a c x z. (
          header_read (R.order_of s) (reading v),
          header-unique s a _ x (sym (header-told s h)),
          header-unique s' c _ z (sym (header-told s' y.0 ∙ turned-header y.2)),
        );
        facts = λ i a c x y. facts-unique s i a c x (rw e at y);
        channel = λ i j a c x y. channel-unique s i j a c x (rw e at y);
        montage_count = λ i a c x y. montage-count-unique s i a c x (rw e at y);
        montage = λ i j a c x y. montage-unique s i j a c x (rw e at y);
        patient_item = λ i j a c x y. patient-item-unique s i j a c x (rw e at y);
        event_item = λ i j a c x y. event-item-unique s i j a c x (rw e at y);
        clock = λ i j a c x y. clock-unique s i j a c x (rw e at y);
        place = λ i j k a c x y. place-unique s i j k a c x (rw e at y);
        part = λ i j k p u file r file' r' f f' x x'. same_numbers i j k p file r file' r' (rw f b) (rw f' turned-bytes) {v = v} {t = t} (rw f h) (rw f' y.0) (rw f u) (rw (f', e) u) x x';
        track = λ i k a c x z. z ∙ (track-same s s' e y.2 i k ∙ ap (λ (m : Answer Track). m >>= λ x. value (track_in_other x)) (sym x));
        sample = λ i j k n a c x y. sample-unique s i j k n a c x (rw e at y);
        run = λ d i j k first n out out₁ out₂ a c x z.
            let q = run-same s s' e b turned-bytes d i j k first n in
            let w = run-unique d s i j k first n out out₁ out₂ a c x (record { answer = z.answer ∙ ap (Runs.counted n (length out)) q; buffer = z.buffer ∙ ap (λ (u : Answer (List Value)). Runs.holding d n u out) q }) in
            record { answer = w.0; buffer = w.1 };
        index = index_same s s' b turned-bytes h y.0;
        back = λ out₂ out₂' c l z. let w = turn_twice s h free b out out' a room x out₂ out₂' c l z in record { answer = w.0; holds = w.1 };
        anew = λ order to names out₁ out₁' c l₁ x₁ out₂ out₂' d l₂ x₂.
            let w = rewrite-both s b h free out out' a room x order to names out₁ out₁' c l₁ x₁ out₂ out₂' d l₂ x₂ in
            record { answer = w.0; front = w.1 };
        boundary = boundary-same;
      }

pub demand-3 : (s : List ℕ) → Bytes s → Demand-3 s
demand-3 s b = record {
  answers = λ v t h free out out' a room x. (turn-answers s h free b out out' a room x).0;
  turned = λ v t h free out out' a room x. says-the-same s b h free out out' a room x;
  boundary_answers = λ v t h free out out' a room x. let y = turn-apart s b out out' a x in y.same ∙ ap (λ (c : Result ℕ Refusal). counted_bytes (Permit.meaning c)) (turn-answers s h free b out out' y.told room y.met).0;
  boundary_turned = λ v t h free out out' a room x. let y = turn-apart s b out out' a x in says-the-same s b h free out out' y.told room y.met;
}
