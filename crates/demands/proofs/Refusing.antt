-- Demand 1: which refusals each call can give, and what it leaves of a buffer.
-- Assumes nothing.
use Rattle.words.specs.declared.Order.{Order}
use Rattle.std.proofs.Common.{Result, Ok, Err, Some, None}
use Rattle.rules.proofs.Reasons.{number-again}
use Rattle.rules.specs.Reasons.{number_of}
use Rattle.std.specs.Prelude as Std
use mathlib.Core.Path.{◌≡◌, refl, sym, ap, ◌∙◌}
use mathlib.Core.Bool.{Bool, true, false, ◌||◌}
use mathlib.Core.List.{List, [], ◌∷◌}
use mathlib.Core.Option.{Option, none, some}
use Prim.Native.Nat.{ℕ, zero, suc, ◌*◌, ◌≤◌}
use native.Mathlib.Nat.{zero-add}
use native.Mathlib.Omega.{arith}
use borrow.Author.Tests.{leb-true}
use lib.Dec.{leb}
use lib.IntN.{ℤ}
use lib.ListN.{length}
use Rattle.words.specs.Numbers.{Bytes}
use Rattle.words.specs.Lent.{written}
use Rattle.words.proofs.Lent.{length-written, written-beyond}
use Rattle.words.proofs.Runs.{length-pasted, drop-pasted}
use Rattle.walk.specs.Walk.{pick, Event, Outcome, refused, passed, rows}
use Rattle.walk.proofs.Apart.{none-some}
use Rattle.rules.specs.Canonical.{rewritten}
use Rattle.rules.specs.Reading.{frame_reading}
use Rattle.rules.specs.Rules as R
use Rattle.rules.specs.Turned.{turned}
use Rattle.rules.specs.declared.Refusal.{Refusal}
use Rattle.rules.proofs.Refusals.{refusals}
use Rattle.rules.proofs.Turn.{nothing_left, turn-length}
use Rattle.header.specs.Letters.{lettered}
use Rattle.rows.specs.Rows as Rows
use Rattle.table.specs.Table as Table
use Rattle.table.proofs.Answers.{rows-refusal}
use Rattle.recordings.specs.Answers.{meaning, Answer, value, refusal, ◌>>=◌, indexed, numbered}
use Rattle.recordings.specs.Recordings.{judged, recording_of}
use Rattle.recordings.proofs.Chosen.{in_between, refusal-value}
use Rattle.samples.specs.Frames.{frame_of, format_of, samples_of}
use Rattle.samples.specs.Placed.{place_of, track_of}
use Rattle.records.specs.declared.items.Holder.{Holder}
use Rattle.questions.specs.Questions.{header_of, header_told, facts_of, channel_of, item_of, item_in, items_of, clock_of, sample_of, montage_count_of, montage_of}
use Rattle.bodies.specs.Orders.{same_order}
use Rattle.makers.specs.Makers.{first_maker}
use Rattle.permit.specs.Permit as Permit
use Rattle.permit.specs.Permit.{permitted, Writes}
use Rattle.permit.proofs.Settled.{bytes-refusal, permit-room}
use Rattle.turn.specs.Turn as Turn
use Rattle.turn.specs.Turn.{Turns}
use Rattle.rewrite.specs.Rewrite as Rewrite
use Rattle.rewrite.specs.Rewrite.{barrier, rewritten_in, Rewrites}
use Rattle.room.specs.Room.{room_in, room_of}
use Rattle.index.specs.Events.{entries}
use Rattle.index.specs.Index as Index
use Rattle.index.specs.Index.{entries_of}
use Rattle.demands.specs.Demands.{of_file, of_table, of_turn, of_rewrite, of_question, Refuses, Answered, KeepsRest, listed_rows}
use Rattle.demands.proofs.Makers.{maker-inside}

-- The numbers 17, 18 and 19, of a call that has them

module _ (numbers : ℕ → Bool) (size need n p : ℕ) where
  pub short : numbers 17 ≡ true → n ≡ 17 → p ≡ need → Refuses numbers size need n p
  short ok e f = record { number = rw e ok; named = rw e; nonzero = omega arith; file = λ l. absurd (omega arith); maker = λ i. absurd (omega arith); room = λ i. f; range = λ i. absurd (omega arith) }

  barred : numbers 18 ≡ true → n ≡ 18 → p ≤ size → Refuses numbers size need n p
  barred ok e f = record { number = rw e ok; named = rw e; nonzero = omega arith; file = λ l. f; maker = λ i. f; room = λ i. absurd (omega arith); range = λ i. absurd (omega arith) }

  pub out_of_range : numbers 19 ≡ true → n ≡ 19 → p ≡ 0 → Refuses numbers size need n p
  out_of_range ok e f = record { number = rw e ok; named = rw e; nonzero = omega arith; file = λ l. absurd (omega arith); maker = λ i. absurd (omega arith); room = λ i. absurd (omega arith); range = λ i. f }

-- each call has the file's numbers, and its own
or-true : (b : Bool) {a : Bool} → a ≡ true → a || b ≡ true
or-true b e = rw e

pub or_right : (a : Bool) {b : Bool} → b ≡ true → a || b ≡ true
or_right true e = refl
or_right false e = e

module _ (s : List ℕ) where
  -- a refusal of the file itself
  pub of-file : (numbers : ℕ → Bool) (need : ℕ) → ((n : ℕ) → of_file n ≡ true → numbers n ≡ true) → (n p : ℕ) → R.judge s ≡ refused n p → Refuses numbers (length s) need n p
  of-file numbers need has n p h =
      let x = refusals s h in
      record { number = has n (in_between 1 16 n x.0 x.1); named = number-again n x.0 (omega (arith, x.1)); nonzero = x.0; file = λ _. x.2; maker = λ _. x.2; room = λ e. absurd (omega (arith, x.1)); range = λ e. absurd (omega (arith, x.1)) }

  -- a call that lists things of n numbers each: 17, and how many numbers they are
  module _ {M : Type 0} (many : ℕ → M) (ref : ℕ → ℕ → M) (apart : (m n p : ℕ) → many m ≡ ref n p → ⊥) (same : (m q n p : ℕ) → ref m q ≡ ref n p → (m ≡ n) × (q ≡ p)) where
    listing-refuses : (n count : ℕ) (b : Bool) (m q : ℕ) → ref m q ≡ pick b (many count) (ref 17 (n * count)) → Refuses of_table (length s) (n * count) m q
    listing-refuses n count true m q h = absurd (apart count m q (sym h))
    listing-refuses n count false m q h = let e = same m q 17 (n * count) h in short of_table (length s) (n * count) m q (or_right (of_file 17) refl) e.0 e.1

  -- the table
  pub table-refuses : (room m q : ℕ) → Table.refusal m q ≡ Table.answer_of s room → Refuses of_table (length s) (4 * length (listed_rows (R.judge s))) m q
  table-refuses room m q h = go (R.judge s) refl h
    where
      go : (x : Outcome R.File) → R.judge s ≡ x → Table.refusal m q ≡ Table.answered x room → Refuses of_table (length s) (4 * length (listed_rows x)) m q
      go (refused n p) e h = of-file of_table 0 (λ n. or-true _) m q (cc)
      go (passed v l t) e h = listing-refuses Table.rows Table.refusal (λ _ _ _ h. rows-refusal h) (λ _ _ _ _ h. (cc, cc)) 4 (length (rows 0 t)) (leb (4 * length (rows 0 t)) room) m q h

  -- the index
  pub index-refuses : (room m q : ℕ) → refusal m q ≡ Index.answer_of s room → Refuses of_table (length s) (5 * length (entries_of s (R.judge s))) m q
  index-refuses room m q h = go (R.judge s) refl h
    where
      go : (x : Outcome R.File) → R.judge s ≡ x → refusal m q ≡ Index.answered s x room → Refuses of_table (length s) (5 * length (entries_of s x)) m q
      go (refused n p) e h = of-file of_table 0 (λ n. or-true _) m q (cc)
      go (passed v l t) e h = listing-refuses value refusal (λ _ _ _ h. refusal-value (sym h)) (λ _ _ _ _ h. (cc, cc)) 5 (length (entries s (R.contents v))) (leb (5 * length (entries s (R.contents v))) room) m q h

  -- leave to write: 18, then 17
  module _ (numbers : ℕ → Bool) (has17 : numbers 17 ≡ true) (has18 : numbers 18 ≡ true) (need room m q : ℕ) where
    permit-refuses : (made : Option ℕ) → ((p : ℕ) → made ≡ some p → p ≤ length s) → Permit.refusal m q ≡ permitted made need room → Refuses numbers (length s) need m q
    permit-refuses (some p) inside h = let e : q ≡ p = cc in barred numbers (length s) need m q has18 (cc) (omega (arith, inside p refl))
    permit-refuses none inside h = go (leb need room) h
      where
        go : (b : Bool) → Permit.refusal m q ≡ pick b (Permit.bytes need) (Permit.refusal 17 need) → Refuses numbers (length s) need m q
        go true h = bytes-refusal (sym h)
        go false h = short numbers (length s) need m q has17 (cc) (cc)

  module _ (b : Bytes s) where
    -- of an accepted file
    first-inside : {v : R.File} {l : List ℕ} {t : List Event} → R.judge s ≡ passed v l t → (p : ℕ) → first_maker (rows 0 t) ≡ some p → p ≤ length s
    first-inside {v} {l} {t} e = maker-inside s b (e ∙ ap (λ (y : List ℕ). passed v y t) (nothing_left s b e))

    pub turn-refuses : (room m q : ℕ) → Permit.refusal m q ≡ Turn.answer_of s room → Refuses of_turn (length s) (length s) m q
    turn-refuses room m q h = go (R.judge s) refl h
      where
        go : (x : Outcome R.File) → R.judge s ≡ x → Permit.refusal m q ≡ Turn.answered x (length s) room → Refuses of_turn (length s) (length s) m q
        go (refused n p) e h = of-file of_turn (length s) (λ n. or-true _) m q (cc)
        go (passed v l t) e h = permit-refuses of_turn (or_right (of_file 17) refl) (or_right (of_file 18) refl) (length s) room m q (first_maker (rows 0 t)) (first-inside e) h

    barrier-some : (c : Bool) (made : Option ℕ) {p : ℕ} → pick c none made ≡ some p → made ≡ some p
    barrier-some true made h = none-some h
    barrier-some false made h = h

    pub rewrite-refuses : (order room m q : ℕ) → Permit.refusal m q ≡ Rewrite.answer_of s order room → Refuses of_rewrite (length s) (length (rewritten_in (lettered order) s)) m q
    rewrite-refuses order room m q h = go (R.judge s) refl (lettered order) h
      where
        go : (x : Outcome R.File) → R.judge s ≡ x → (l : Std.Option Order) → Permit.refusal m q ≡ Rewrite.answered x l s room → Refuses of_rewrite (length s) (length (rewritten_in l s)) m q
        go (refused n p) e l h = of-file of_rewrite (length (rewritten_in l s)) (λ n. or-true _) m q (cc)
        go (passed v y t) e None h = out_of_range of_rewrite (length s) 0 m q (or_right (of_file 19) refl) (cc) (cc)
        go (passed v y t) e (Some to) h =
            permit-refuses of_rewrite (or_right (of_file 17) refl) (or_right (of_file 18) refl) (length (rewritten to s)) room m q (barrier (R.order_of s) to (first_maker (rows 0 t)))
            (λ p i. first-inside e p (barrier-some (same_order (R.order_of s) to) (first_maker (rows 0 t)) i)) h

  -- the header: the file's alone
  pub header_refused : (m q : ℕ) → refusal m q ≡ header_of s → R.judge s ≡ refused m q
  header_refused m q h = go (R.judge s) h
    where
      go : (x : Outcome R.File) → refusal m q ≡ header_told (R.order_of s) x → x ≡ refused m q
      go (refused n p) h = cc
      go (passed v l t) h = refusal-value h

  -- the room for a rewrite: the file's alone too
  pub room-refused : (m q : ℕ) → Permit.refusal m q ≡ room_of s → R.judge s ≡ refused m q
  room-refused m q h = go (R.judge s) h
    where
      go : (x : Outcome R.File) → Permit.refusal m q ≡ room_in x (length s) → x ≡ refused m q
      go (refused n p) h = cc
      go (passed v l t) h = bytes-refusal (sym h)

  -- A question: every refusal on the way to its answer is the file's, or 19

  pub proper-outside : Refuses of_question (length s) 0 19 0
  proper-outside = out_of_range of_question (length s) 0 19 0 (or_right (of_file 19) refl) refl refl

  module _ {A : Type 0} where
    abbrev pub Proper : Answer A → Type 0
    Proper (value a) = Unit {0}
    Proper (refusal n p) = Refuses of_question (length s) 0 n p

    proper-indexed : (l : List A) (n : ℕ) → Proper (indexed l n)
    unfolding indexed
    proper-indexed [] n = proper-outside
    proper-indexed (a ∷ l) zero = tt
    proper-indexed (a ∷ l) (suc n) = proper-indexed l n

    proper-numbered : (l : List A) (n : ℕ) → Proper (numbered l n)
    unfolding numbered
    proper-numbered l zero = proper-outside
    proper-numbered l (suc n) = proper-indexed l n

  pub proper-then : {A B : Type 0} (x : Answer A) (k : A → Answer B) → Proper x → ((a : A) → Proper (k a)) → Proper (x >>= k)
  proper-then (value a) k h g = g a
  proper-then (refusal n p) k h g = h

  proper-recording : (i : ℕ) → Proper (recording_of s i)
  proper-recording i = go (R.judge s) refl
    where
      go : (x : Outcome R.File) → R.judge s ≡ x → Proper (judged x i)
      go (refused n p) e = of-file of_question 0 (λ n. or-true _) n p e
      go (passed v l t) e = proper-then (numbered v.recordings i) _ (proper-numbered v.recordings i) (λ _. tt)

  proper-frame : (i j : ℕ) → Proper (frame_of s i j)
  proper-frame i j = proper-then (recording_of s i) _ (proper-recording i) (λ r. proper-then (numbered r.this.recording.frames j) _ (proper-numbered r.this.recording.frames j) (λ _. tt))

  pub proper-samples : (i j k : ℕ) → Proper (samples_of s i j k)
  proper-samples i j k = proper-then (frame_of s i j) _ (proper-frame i j) (λ f.
      let l = (frame_reading f.of.this.recording.channels f.frame).channels in
      proper-then (numbered f.of.this.recording.channels k) _ (proper-numbered f.of.this.recording.channels k) (λ c. proper-then (numbered l k) _ (proper-numbered l k) (λ _. tt)))

  pub proper-facts : (i : ℕ) → Proper (facts_of s i)
  proper-facts i = proper-then (recording_of s i) _ (proper-recording i) (λ _. tt)

  pub proper-channel : (i j : ℕ) → Proper (channel_of s i j)
  proper-channel i j = proper-then (recording_of s i) _ (proper-recording i) (λ r. proper-then (numbered r.this.recording.channels j) _ (proper-numbered r.this.recording.channels j) (λ _. tt))

  pub proper-montage-count : (i : ℕ) → Proper (montage_count_of s i)
  proper-montage-count i = proper-then (recording_of s i) _ (proper-recording i) (λ _. tt)

  pub proper-montage : (i j : ℕ) → Proper (montage_of s i j)
  proper-montage i j = proper-then (recording_of s i) _ (proper-recording i) (λ r. proper-then (numbered r.this.recording.montage j) _ (proper-numbered r.this.recording.montage j) (λ _. tt))

  pub proper-item : (k : Holder) (i j : ℕ) → Proper (item_of k s i j)
  unfolding item_in
  proper-item k i j = proper-then (recording_of s i) _ (proper-recording i) (λ r. proper-then (numbered (items_of k r) j) _ (proper-numbered (items_of k r) j) (λ _. tt))

  pub proper-clock : (i j : ℕ) → Proper (clock_of s i j)
  proper-clock i j = proper-then (frame_of s i j) _ (proper-frame i j) (λ _. tt)

  pub proper-place : (i j k : ℕ) → Proper (place_of s i j k)
  proper-place i j k = proper-then (samples_of s i j k) _ (proper-samples i j k) (λ _. tt)

  pub proper-track : (i k : ℕ) → Proper (track_of s i k)
  proper-track i k = proper-then (samples_of s i 1 k) _ (proper-samples i 1 k) (λ x. proper-then (frame_of s i 1) _ (proper-frame i 1) (λ _. tt))

  pub proper-format : (i k : ℕ) → Proper (format_of s i k)
  proper-format i k = proper-then (recording_of s i) _ (proper-recording i) (λ r. proper-then (numbered r.this.recording.channels k) _ (proper-numbered r.this.recording.channels k) (λ _. tt))

  pub proper-sample : (i j k n : ℕ) → Proper (sample_of s i j k n)
  proper-sample i j k n = proper-then (samples_of s i j k) _ (proper-samples i j k) (λ x. proper-then (indexed x.values n) _ (proper-indexed x.values n) (λ _. tt))

  -- the code's answer, by what it means
  pub question : {A E : Type 0} (meaning : E → Answer A) (refuse : Refusal → E) → ((r : Refusal) → meaning (refuse r) ≡ refusal (number_of r.0) r.1) →
      {x : Answer A} → Proper x → (a : E) → meaning a ≡ x → Answered refuse of_question (length s) 0 a
  question meaning refuse means h a e r i = rw (sym e ∙ ap meaning i ∙ means r) at h

-- What is left of a buffer

-- a call that lists things of n numbers each, and answers how many: in front their numbers, behind them what stood there; a refusal leaves the buffer
module _ {A E M : Type 0} (numbers : A → List ℤ) (n : ℕ) (each : (a : A) → length (numbers a) ≡ n) (refuse : Refusal → E) (tell : ℕ → E) (meaning : E → M) (many : ℕ → M) (ref : ℕ → ℕ → M)
    (apart : (m k p : ℕ) → many m ≡ ref k p → ⊥) (one : (m k : ℕ) → many m ≡ many k → m ≡ k) (tells : (m : ℕ) → meaning (tell m) ≡ many m) (refuses : (r : Refusal) → meaning (refuse r) ≡ ref (number_of r.0) r.1)
    (out out' : List ℤ) (a : E) where
  unwritten : (k p : ℕ) → meaning a ≡ ref k p → out' ≡ out → KeepsRest refuse tell n out out' a
  unwritten k p h e =
      let no : (m : ℕ) → a ≡ tell m → ⊥ = λ m i. apart m k p (sym (tells m) ∙ sym (ap meaning i) ∙ h) in
      record { refused = λ _ _. e; fits = λ m i. absurd (no m i); beyond = λ m i. absurd (no m i); long = ap length e }

  listing-keeps : (xs : List A) (b : Bool) → leb (n * length xs) (length out) ≡ b → meaning a ≡ pick b (many (length xs)) (ref 17 (n * length xs)) → out' ≡ pick b (written numbers n true out 0 xs) out →
      KeepsRest refuse tell n out out' a
  listing-keeps xs true r h e =
      let room : n * length xs ≤ length out = leb-true _ _ r in
      let same : (m : ℕ) → a ≡ tell m → m ≡ length xs = λ m i. one m (length xs) (sym (tells m) ∙ sym (ap meaning i) ∙ h) in
      record {
        refused = λ u i. absurd (apart (length xs) (number_of u.0) u.1 (sym h ∙ ap meaning i ∙ refuses u));
        fits = λ m i. rw (same m i) room;
        beyond = λ m i. rw (e, same m i) (written-beyond numbers n each out xs);
        long = ap length e ∙ length-written numbers n each true out 0 xs (λ _. omega arith);
      }
  listing-keeps xs false r h e = unwritten 17 (n * length xs) h e

pub table-keeps : (s : List ℕ) (out out' : List ℤ) (a : Result ℕ Refusal) → Table.Lists s out out' a → KeepsRest Err Ok 4 out out' a
table-keeps s out out' a x = go (R.judge s) x.answer x.buffer
  where
    go : (y : Outcome R.File) → Table.meaning a ≡ Table.answered y (length out) → out' ≡ Table.holding y out → KeepsRest Err Ok 4 out out' a
    go (refused n p) h e = unwritten Rows.numbers 4 (λ _. refl) Err Ok Table.meaning Table.rows Table.refusal (λ _ _ _ h. rows-refusal h) (λ _ _ h. cc) (λ m. refl) (λ r. refl) out out' a n p h e
    go (passed v l t) h e = listing-keeps Rows.numbers 4 (λ _. refl) Err Ok Table.meaning Table.rows Table.refusal (λ _ _ _ h. rows-refusal h) (λ _ _ h. cc) (λ m. refl) (λ r. refl) out out' a (rows 0 t) (leb (4 * length (rows 0 t)) (length out)) refl h e

pub index-keeps : (s : List ℕ) (out out' : List ℤ) (a : Result ℕ Refusal) → Index.Indexes s out out' a → KeepsRest Err Ok 5 out out' a
index-keeps s out out' a x = go (R.judge s) x.answer x.buffer
  where
    go : (y : Outcome R.File) → meaning a ≡ Index.answered s y (length out) → out' ≡ Index.holding s y out → KeepsRest Err Ok 5 out out' a
    go (refused n p) h e = unwritten Index.numbers 5 (λ _. refl) Err Ok meaning value refusal (λ _ _ _ h. refusal-value (sym h)) (λ _ _ h. cc) (λ m. refl) (λ r. refl) out out' a n p h e
    go (passed v l t) h e =
        let es = entries s (R.contents v) in
        listing-keeps Index.numbers 5 (λ _. refl) Err Ok meaning value refusal (λ _ _ _ h. refusal-value (sym h)) (λ _ _ h. cc) (λ m. refl) (λ r. refl) out out' a es (leb (5 * length es) (length out)) refl h e

-- bytes in front, as many as the answer says, and with room for them
writes-keep : (x : Permit.Answer) (xs out out' : List ℕ) (a : Result ℕ Refusal) → ((n : ℕ) → Permit.bytes n ≡ x → (length xs ≡ n) × (n ≤ length out)) → Writes x xs out out' a → KeepsRest Err Ok 1 out out' a
writes-keep (Permit.bytes n) xs out out' a room w =
    let l = room n refl in
    record {
      refused = λ u i. bytes-refusal (sym w.answer ∙ ap Permit.meaning i);
      fits = λ m i. let z : m ≡ n = cc (ap Permit.meaning i, w.answer) in omega (arith, l.1);
      beyond = λ m i.
          let z : m ≡ n = cc (ap Permit.meaning i, w.answer) in
          let q : 1 * m ≡ length xs = omega (arith, l.0) in
          rw (q, w.buffer) (rw zero-add at (drop-pasted out 0 xs (omega arith)));
      long = ap length w.buffer ∙ length-pasted out 0 xs (omega (arith, l.0, l.1));
    }
writes-keep (Permit.refusal n p) xs out out' a room w = record {
  refused = λ _ _. w.buffer;
  fits = λ m i. bytes-refusal (sym (ap Permit.meaning i) ∙ w.answer);
  beyond = λ m i. bytes-refusal (sym (ap Permit.meaning i) ∙ w.answer);
  long = ap length w.buffer;
}

pub turn-keeps : (s : List ℕ) → Bytes s → (out out' : List ℕ) (a : Result ℕ Refusal) → Turns s out out' a → KeepsRest Err Ok 1 out out' a
turn-keeps s b out out' a w = writes-keep (Turn.answer_of s (length out)) (turned s) out out' a (go (R.judge s) refl) w
  where
    go : (x : Outcome R.File) → R.judge s ≡ x → (n : ℕ) → Permit.bytes n ≡ Turn.answered x (length s) (length out) → (length (turned s) ≡ n) × (n ≤ length out)
    go (refused m p) e n h = bytes-refusal h
    go (passed v l t) e n h = let y = permit-room (first_maker (rows 0 t)) (length s) (length out) h in (turn-length s b e ∙ sym y.0, omega (arith, y.0, y.1))

pub rewrite-keeps : (s : List ℕ) (order : ℕ) (out out' : List ℕ) (a : Result ℕ Refusal) → Rewrites s order out out' a → KeepsRest Err Ok 1 out out' a
rewrite-keeps s order out out' a w = writes-keep (Rewrite.answer_of s order (length out)) (rewritten_in (lettered order) s) out out' a (go (R.judge s) (lettered order)) w
  where
    go : (x : Outcome R.File) (l : Std.Option Order) (n : ℕ) → Permit.bytes n ≡ Rewrite.answered x l s (length out) → (length (rewritten_in l s) ≡ n) × (n ≤ length out)
    go (refused m p) l n h = bytes-refusal h
    go (passed v y t) None n h = bytes-refusal h
    go (passed v y t) (Some to) n h = let y = permit-room (barrier (R.order_of s) to (first_maker (rows 0 t))) (length (rewritten to s)) (length out) h in (sym y.0, omega (arith, y.0, y.1))
