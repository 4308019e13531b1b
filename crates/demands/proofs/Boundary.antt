-- What C is answered is an answer of the call of Rattle, taken apart: there is one, and the number 0 tells a value from a refusal.
-- Assumes nothing.
use Rattle.std.proofs.Common.{Result, Ok, Err}
use Rattle.rules.proofs.Reasons.{refusal-is}
use Rattle.rules.specs.Reasons.{refusal_of, number_of}
use mathlib.Core.Path.{◌≡◌, refl, sym, ap, ◌∙◌}
use mathlib.Core.Bool.{Bool, true, false}
use mathlib.Core.List.{List}
use Prim.Native.Nat.{ℕ, ◌*◌, ◌≤◌}
use native.Mathlib.Omega.{arith}
use borrow.Author.Tests.{eqb-true}
use lib.Dec.{eqb}
use lib.IntN.{ℤ}
use lib.ListN.{length, get_or, drop}
use Rattle.words.specs.Numbers.{Bytes, letter_of}
use Rattle.words.specs.declared.Order.{Order}
use Rattle.words.specs.declared.Order.TheVariants.{Little, Big}
use Rattle.walk.specs.See.{Verdict, goes, gate}
use Rattle.walk.specs.Walk.{Event, Outcome, refused, passed}
use Rattle.walk.proofs.Apart.{false-true, stops-goes}
use Rattle.rules.specs.Rules as R
use Rattle.rules.specs.declared.FileHeader.{FileHeader}
use Rattle.rules.specs.declared.Refusal.{Refusal}
use Rattle.rules.proofs.Turn.{nothing_left}
use Rattle.records.specs.declared.items.Holder.TheVariants as Holder
use Rattle.header.specs.Letters.{lettered}
use Rattle.header.specs.Opened.{names}
use Rattle.header.proofs.Opening.{header-open}
use Rattle.judge.specs.Judged.{AcceptedAs, JudgedAs}
use Rattle.judge.proofs.Verdicts.{accepted-seen}
use Rattle.table.specs.Table as Table
use Rattle.table.specs.Table.{Lists}
use Rattle.recordings.specs.Answers.{Answer, value, refusal}
use Rattle.recordings.specs.declared.Counts.{Counts}
use Rattle.samples.specs.Placed.{place_of, track_of}
use Rattle.samples.specs.declared.Number.{Number}
use Rattle.samples.specs.declared.Place.{Place}
use Rattle.samples.specs.declared.Time.{Time}
use Rattle.samples.specs.declared.Track.{Track}
use Rattle.recordings.specs.Answers.{meaning}
use Rattle.questions.specs.Questions.{header_of, facts_of, channel_of, patient_item_of, event_item_of, clock_of, sample_of, montage_count_of, montage_of}
use Rattle.questions.specs.declared.channels.Descriptor.{Descriptor}
use Rattle.questions.specs.declared.channels.Wired.{Wired}
use Rattle.questions.specs.declared.headers.Header as Asked
use Rattle.questions.specs.declared.items.Entry.{Entry}
use Rattle.index.specs.Index as Index
use Rattle.index.specs.Index.{entries_of, Indexes}
use Rattle.runs.specs.Runs as Runs
use Rattle.runs.specs.Runs.{Element, RunAnswer}
use Rattle.runs.specs.declared.Sibling.{Sibling}
use Rattle.permit.specs.Permit as Permit
use Rattle.turn.specs.Turn as Turn
use Rattle.turn.specs.Turn.{Turns}
use Rattle.rewrite.specs.Rewrite as Rewrite
use Rattle.rewrite.specs.Rewrite.{rewritten_in, Rewrites}
use Rattle.room.specs.Room.{room_of}
use Rattle.answers.specs.Flat.{unheaded, flat_header, counted_rows, counted_bytes, flat_heading, flat_facts, flat_channel, flat_item, flat_clock, flat_count, flat_place, flat_sample, flat_montage}
use Rattle.answers.specs.Flat.{flat_track}
use Rattle.answers.specs.declared.Channel.{Channel}
use Rattle.answers.specs.declared.Clock.{Clock}
use Rattle.answers.specs.declared.Counted.{Counted}
use Rattle.answers.specs.declared.Facts.{Facts}
use Rattle.answers.specs.declared.Header.{Header}
use Rattle.answers.specs.declared.Heading.{Heading}
use Rattle.answers.specs.declared.Item.{Item}
use Rattle.answers.specs.declared.Montage.{Montage}
use Rattle.answers.specs.declared.Place as PlaceC
use Rattle.answers.specs.declared.Sample.{Sample}
use Rattle.answers.specs.declared.Track as TrackC
use Rattle.psg.specs.Calls.{JudgeAnswers, TableAnswers, TurnAnswers, RewriteAnswers, RunAnswers, IndexAnswers}
use Rattle.demands.specs.Demands.{of_file, of_table, of_turn, of_rewrite, of_question, of_run, Named, Refuses, Answered, KeepsRest, listed_rows, wrote_c, stopped_c, header_c, refused_c, flat_judged, TakenApart, Boundary, Accepted, header_judged, JudgesByRules}
use Rattle.demands.proofs.Refusing.{of-file, header_refused, room-refused, table-refuses, table-keeps, turn-refuses, turn-keeps, rewrite-refuses, rewrite-keeps, index-refuses, index-keeps, Proper, proper-facts, proper-channel, proper-item, proper-clock, proper-place, proper-sample, proper-montage-count, proper-montage}
use Rattle.demands.proofs.Refusing.{proper-track}
use Rattle.demands.proofs.Running.{run-refuses, run-keeps}
use Rattle.demands.proofs.Coding.{kind-apart}
use Rattle.demands.proofs.Cutting.{part-told}

-- An answer and its numbers

-- the answer b, in whose numbers n is the refusal
data Kind {E : Type 0} (refuse : Refusal → E) (n : ℕ) (b : E) : Type 0 where
  is-value : n ≡ 0 → Kind refuse n b
  is-refusal : (r : Refusal) → b ≡ refuse r → Kind refuse n b

module _ (s : List ℕ) {E A : Type 0} {meets : E → Type 0} {refuse : Refusal → E} {apart : E → A} {numbers : ℕ → Bool} {need n p : ℕ} {a : A} where
  taken-apart : (b : E) → meets b → a ≡ apart b → ((m q : ℕ) → R.judge s ≡ refused m q → Named m × (a ≡ apart (refuse (refusal_of m q)))) →
      ((r : Refusal) → b ≡ refuse r → (number_of r.0 ≡ n) × (r.1 ≡ p)) →
      Answered refuse numbers (length s) need b → Kind refuse n b → TakenApart s meets refuse apart numbers need n p a
  taken-apart b m e h says proper (is-value z) = record {
    told = b;
    met = m;
    same = e;
    handed = h;
    answered = λ _ r i. let f = (says r i).0 in omega (arith, (proper r i).nonzero);
    refused = λ l. absurd (omega arith);
    proper = λ l. absurd (omega arith);
    rest = λ l. absurd (omega arith);
  }
  taken-apart b m e h says proper (is-refusal r i) =
      let f = says r i in
      let t : b ≡ refuse (refusal_of n p) = i ∙ ap refuse (refusal-is r f.0 f.1) in
      let k : Refuses numbers (length s) need n p = rw (f.0, f.1) at (proper r i) in
      record {
        told = b;
        met = m;
        same = e;
        handed = h;
        answered = λ z _ _. omega (arith, k.nonzero);
        refused = λ _. t;
        proper = λ _. k;
        rest = λ _. e ∙ ap apart t;
      }

-- what an answer means: a value or a refusal
pub data Either {M X : Type 0} (val : X → M) (ref : ℕ → ℕ → M) : M → Type 0 where
  a-value : (v : X) → Either val ref (val v)
  a-refusal : (n p : ℕ) → Either val ref (ref n p)

pub either : {A : Type 0} (x : Answer A) → Either value refusal x
either (value v) = a-value v
either (refusal n p) = a-refusal n p

either-rows : (x : Table.Answer) → Either Table.rows Table.refusal x
either-rows (Table.rows n) = a-value n
either-rows (Table.refusal n p) = a-refusal n p

either-bytes : (x : Permit.Answer) → Either Permit.bytes Permit.refusal x
either-bytes (Permit.bytes n) = a-value n
either-bytes (Permit.refusal n p) = a-refusal n p

-- answers of the type E by their meaning, and the numbers A by it
pub record Meant {M X : Type 0} (val : X → M) (ref : ℕ → ℕ → M) (E A : Type 0) : Type 0 where
  pub meaning : E → M
  pub tell : X → E
  pub refuse : Refusal → E
  pub flat : M → A
  -- the number and the position of a refusal
  pub says : A → ℕ × ℕ
  pub tells : (v : X) → meaning (tell v) ≡ val v
  pub refuses : (r : Refusal) → meaning (refuse r) ≡ ref (number_of r.0) r.1
  pub zero : (v : X) → (says (flat (val v))).0 ≡ 0
  pub named : (n p : ℕ) → says (flat (ref n p)) ≡ (n, p)

module _ {M X E A : Type 0} {val : X → M} {ref : ℕ → ℕ → M} (l : Meant val ref E A) where
  -- the answer with the meaning m
  told-by : {m : M} → Either val ref m → E
  told-by (a-value v) = l.tell v
  told-by (a-refusal n p) = l.refuse (refusal_of n p)

  told-means : {m : M} (x : Either val ref m) → ((n p : ℕ) → m ≡ ref n p → Named n) → l.meaning (told-by x) ≡ m
  unfolding told-by
  told-means (a-value v) h = l.tells v
  told-means (a-refusal n p) h = l.refuses (refusal_of n p) ∙ ap (λ (k : ℕ). ref k p) (h n p refl)

  told-kind : {m : M} (x : Either val ref m) {a : A} → a ≡ l.flat m → Kind l.refuse (l.says a).0 (told-by x)
  unfolding told-by
  told-kind (a-value v) e = is-value (ap (λ (y : A). (l.says y).0) e ∙ l.zero v)
  told-kind (a-refusal n p) e = is-refusal (refusal_of n p) refl

  pub by-meaning : (s : List ℕ) {m : M} {meets : E → Type 0} {numbers : ℕ → Bool} {need : ℕ} {a : A} → Either val ref m → ((b : E) → l.meaning b ≡ m → meets b) → a ≡ l.flat m → ((n p : ℕ) → R.judge s ≡ refused n p → m ≡ ref n p) →
      ((n p : ℕ) → m ≡ ref n p → Refuses numbers (length s) need n p) → TakenApart s meets l.refuse (λ b. l.flat (l.meaning b)) numbers need (l.says a).0 (l.says a).1 a
  by-meaning s {m} x met e hand proper =
      let i = told-means x (λ n p j. (proper n p j).named) in
      let is : (u : Refusal) → told-by x ≡ l.refuse u → m ≡ ref (number_of u.0) u.1 = λ u j. sym i ∙ (ap l.meaning j ∙ l.refuses u) in
      taken-apart s (told-by x) (met (told-by x) i) (e ∙ ap l.flat (sym i))
      (λ n p j. let k = (proper n p (hand n p j)).named in (k, e ∙ ap l.flat (hand n p j ∙ ap (λ (u : ℕ). ref u p) (sym k) ∙ sym (l.refuses (refusal_of n p)))))
      (λ u j. let k = sym (ap l.says (e ∙ ap l.flat (is u j)) ∙ l.named (number_of u.0) u.1) in (ap (λ (y : ℕ × ℕ). y.0) k, ap (λ (y : ℕ × ℕ). y.1) k))
      (λ u j. proper (number_of u.0) u.1 (is u j)) (told-kind x e)

-- the answers of each call
pub sample-zero : (v : Number) → (flat_sample (value v)).refusal ≡ 0
sample-zero (Number.Whole z) = refl
sample-zero (Number.Float v) = refl
sample-zero (Number.Pattern n) = refl

abbrev listed : Meant Table.rows Table.refusal (Result ℕ Refusal) Counted
listed = record { meaning = Table.meaning; tell = Ok; refuse = Err; flat = counted_rows; says = λ a. (a.refusal, a.position); tells = λ v. refl; refuses = λ r. refl; zero = λ v. refl; named = λ n p. refl }

abbrev written : Meant Permit.bytes Permit.refusal (Result ℕ Refusal) Counted
written = record { meaning = Permit.meaning; tell = Ok; refuse = Err; flat = counted_bytes; says = λ a. (a.refusal, a.position); tells = λ v. refl; refuses = λ r. refl; zero = λ v. refl; named = λ n p. refl }

abbrev header : Meant {X = Asked.Header} value refusal (Result Asked.Header Refusal) Heading
header = record { meaning = meaning; tell = Ok; refuse = Err; flat = flat_heading; says = λ a. (a.refusal, a.position); tells = λ v. refl; refuses = λ r. refl; zero = λ v. refl; named = λ n p. refl }

abbrev pub facts : Meant {X = Counts} value refusal (Result Counts Refusal) Facts
facts = record { meaning = meaning; tell = Ok; refuse = Err; flat = flat_facts; says = λ a. (a.refusal, a.position); tells = λ v. refl; refuses = λ r. refl; zero = λ v. refl; named = λ n p. refl }

abbrev pub channel : Meant {X = Descriptor} value refusal (Result Descriptor Refusal) Channel
channel = record { meaning = meaning; tell = Ok; refuse = Err; flat = flat_channel; says = λ a. (a.refusal, a.position); tells = λ v. refl; refuses = λ r. refl; zero = λ v. refl; named = λ n p. refl }

abbrev pub montage-count : Meant {X = ℕ} value refusal (Result ℕ Refusal) Counted
montage-count = record { meaning = meaning; tell = Ok; refuse = Err; flat = flat_count; says = λ a. (a.refusal, a.position); tells = λ v. refl; refuses = λ r. refl; zero = λ v. refl; named = λ n p. refl }

abbrev pub montage : Meant {X = Wired} value refusal (Result Wired Refusal) Montage
montage = record { meaning = meaning; tell = Ok; refuse = Err; flat = flat_montage; says = λ a. (a.channel.refusal, a.channel.position); tells = λ v. refl; refuses = λ r. refl; zero = λ v. refl; named = λ n p. refl }

abbrev pub item : Meant {X = Entry} value refusal (Result Entry Refusal) Item
item = record { meaning = meaning; tell = Ok; refuse = Err; flat = flat_item; says = λ a. (a.refusal, a.position); tells = λ v. refl; refuses = λ r. refl; zero = λ v. refl; named = λ n p. refl }

abbrev pub clock : Meant {X = Time} value refusal (Result Time Refusal) Clock
clock = record { meaning = meaning; tell = Ok; refuse = Err; flat = flat_clock; says = λ a. (a.refusal, a.position); tells = λ v. refl; refuses = λ r. refl; zero = λ v. refl; named = λ n p. refl }

abbrev pub place : Meant {X = Place} value refusal (Result Place Refusal) PlaceC.Place
place = record { meaning = meaning; tell = Ok; refuse = Err; flat = flat_place; says = λ a. (a.refusal, a.position); tells = λ v. refl; refuses = λ r. refl; zero = λ v. refl; named = λ n p. refl }

abbrev pub track : Meant {X = Track} value refusal (Result Track Refusal) TrackC.Track
track = record {
  meaning = meaning;
  tell = Ok;
  refuse = Err;
  flat = flat_track;
  says = λ a. (a.refusal, a.position);
  tells = λ v. refl;
  refuses = λ r. refl;
  zero = λ v. refl;
  named = λ n p. refl;
}

abbrev pub sample : Meant {X = Number} value refusal (Result Number Refusal) Sample
sample = record { meaning = meaning; tell = Ok; refuse = Err; flat = flat_sample; says = λ a. (a.refusal, a.position); tells = λ v. refl; refuses = λ r. refl; zero = sample-zero; named = λ n p. refl }

abbrev ran : Meant {X = ℕ} value refusal (Result ℕ Refusal) Counted
ran = record { meaning = meaning; tell = Ok; refuse = Err; flat = flat_count; says = λ a. (a.refusal, a.position); tells = λ v. refl; refuses = λ r. refl; zero = λ v. refl; named = λ n p. refl }

abbrev indexed : Meant {X = ℕ} value refusal (Result ℕ Refusal) Counted
indexed = record { meaning = meaning; tell = Ok; refuse = Err; flat = flat_count; says = λ a. (a.refusal, a.position); tells = λ v. refl; refuses = λ r. refl; zero = λ v. refl; named = λ n p. refl }

-- The verdict

-- a test that the walk went past
gate-passed : {A : Type 0} (c : Bool) (v : Verdict A) (n p : ℕ) {e : ℕ} {a : A} → gate c v n p ≡ goes a e → (c ≡ true) × (v ≡ goes a e)
unfolding gate
gate-passed true v n p h = (refl, h)
gate-passed false v n p h = stops-goes h

-- the letter of an accepted file is its order's
letter-named : (s : List ℕ) → names (lettered (get_or s 16 0)) ≡ true → get_or s 16 0 ≡ letter_of (R.order_of s)
unfolding lettered R.order_of
letter-named s h = go (eqb (get_or s 16 0) 76) (eqb (get_or s 16 0) 66) refl refl
  where
    go : (x y : Bool) → eqb (get_or s 16 0) 76 ≡ x → eqb (get_or s 16 0) 66 ≡ y → get_or s 16 0 ≡ letter_of (R.order_of s)
    go x true e f = rw (R.order_of, f, eqb-true (get_or s 16 0) 66 f)
    go true false e f = rw (R.order_of, f, eqb-true (get_or s 16 0) 76 e)
    go false false e f = false-true (rw (lettered, e, f) at h)

letter-is : (s : List ℕ) (h : FileHeader) → AcceptedAs s h → get_or s 16 0 ≡ letter_of (R.order_of s)
letter-is s h x =
    let long = gate-passed _ _ _ _ (sym (header-open s) ∙ (accepted-seen s h x).header) in
    let identifier = gate-passed _ _ _ _ long.1 in
    let version = gate-passed _ _ _ _ identifier.1 in
    let form = gate-passed _ _ _ _ version.1 in
    letter-named s (gate-passed _ _ _ _ form.1).0

letter-some : (o : Order) → 1 ≤ letter_of o
letter-some Little = omega arith
letter-some Big = omega arith

accepted-as : {s : List ℕ} {v : R.File} {t : List Event} → Accepted s v t → AcceptedAs s (header_judged s v)
accepted-as {v} {t} h = record { file = v; events = t; judged = h; order = refl; heading = refl; count = refl }

-- what C is answered of an accepted file
headed-by : (s : List ℕ) {a : Header} {v : R.File} {t : List Event} → JudgeAnswers s a → Accepted s v t → a ≡ header_c (header_judged s v)
headed-by s {v} x h = x ∙ rw (h, letter-is s (header_judged s v) (accepted-as h))

-- What is left of a buffer

-- an answer for C about a buffer, and the answer of Rattle
data Ends {E : Type 0} (refuse : Refusal → E) (wrote : ℕ → E) (a : Counted) (c : E) : Type 0 where
  ended : (n : ℕ) → c ≡ wrote n → a ≡ wrote_c n → Ends refuse wrote a c
  stops : (r : Refusal) → c ≡ refuse r → a ≡ stopped_c (number_of r.0, r.1) → Ends refuse wrote a c

module _ {B E : Type 0} {refuse : Refusal → E} {wrote : ℕ → E} {each : ℕ} {out out' : List B} {a : Counted} {c : E} where
  kept : KeepsRest refuse wrote each out out' c → Ends refuse wrote a c → KeepsRest stopped_c wrote_c each out out' a
  kept k (ended n i e) = record {
    refused = λ r j.
        let z : n ≡ 0 = ap (λ (y : Counted). y.count) (sym e ∙ j) in
        let w : each * n ≡ 0 = rw z (omega arith) in
        rw w at (k.beyond n i);
    fits = λ m j. let z : m ≡ n = ap (λ (y : Counted). y.count) (sym j ∙ e) in rw z (k.fits n i);
    beyond = λ m j. let z : m ≡ n = ap (λ (y : Counted). y.count) (sym j ∙ e) in rw z (k.beyond n i);
    long = k.long;
  }
  kept k (stops r i e) = record {
    refused = λ _ _. k.refused r i;
    fits = λ m j. let z : m ≡ 0 = ap (λ (y : Counted). y.count) (sym j ∙ e) in rw z (omega arith);
    beyond = λ m j. ap (drop (each * m)) (k.refused r i);
    long = k.long;
  }

ends-listed : {a : Counted} (c : Result ℕ Refusal) → a ≡ counted_rows (Table.meaning c) → Ends Err Ok a c
ends-listed (Ok n) e = ended n refl e
ends-listed (Err r) e = stops r refl e

ends-written : {a : Counted} (c : Result ℕ Refusal) → a ≡ counted_bytes (Permit.meaning c) → Ends Err Ok a c
ends-written (Ok n) e = ended n refl e
ends-written (Err r) e = stops r refl e

ends-ran : {a : Counted} (c : Result ℕ Refusal) → a ≡ flat_count (meaning c) → Ends Err Ok a c
ends-ran (Ok n) e = ended n refl e
ends-ran (Err r) e = stops r refl e

ends-indexed : {a : Counted} (c : Result ℕ Refusal) → a ≡ flat_count (meaning c) → Ends Err Ok a c
ends-indexed (Ok n) e = ended n refl e
ends-indexed (Err r) e = stops r refl e

-- The calls, of every list of bytes

module _ (s : List ℕ) (b : Bytes s) where
  -- the rules' refusal has a reason's number
  file-named : {n p : ℕ} → R.judge s ≡ refused n p → Named n
  file-named {n} {p} h = (of-file s of_file 0 (λ n h. h) n p h).named

  header-refused : {n p : ℕ} → R.judge s ≡ refused n p → flat_header s (R.judge s) ≡ refused_c (refusal_of n p)
  header-refused {n} {p} h = rw h (ap (λ (k : ℕ). unheaded k p) (sym (file-named h)))

  pub judge-apart : (a : Header) → JudgeAnswers s a → TakenApart s (JudgedAs s) Err flat_judged of_file 0 a.refusal a.position a
  judge-apart a x = go (R.judge s) refl
    where
      told : (j : Result FileHeader Refusal) → JudgedAs s j → a ≡ flat_judged j → Kind Err a.refusal j → TakenApart s (JudgedAs s) Err flat_judged of_file 0 a.refusal a.position a
      told j m e k =
          taken-apart s j m e (λ n p h. (file-named h, x ∙ header-refused h))
          (λ r i. let f = sym (e ∙ ap flat_judged i) in (ap (λ (y : Header). y.refusal) f, ap (λ (y : Header). y.position) f))
          (λ r i. of-file s of_file 0 (λ n h. h) (number_of r.0) r.1 (rw i at m)) k

      go : (y : Outcome R.File) → R.judge s ≡ y → TakenApart s (JudgedAs s) Err flat_judged of_file 0 a.refusal a.position a
      go (refused n p) e = told (Err (refusal_of n p)) (e ∙ ap (λ (k : ℕ). refused k p) (sym (file-named e))) (x ∙ header-refused e) (is-refusal (refusal_of n p) refl)
      go (passed v l t) e =
          let h = e ∙ ap (λ (y : List ℕ). passed v y t) (nothing_left s b e) in
          told (Ok (header_judged s v)) (accepted-as h) (headed-by s x h) (is-value (ap (λ (y : Header). y.refusal) (headed-by s x h)))

  pub table-apart : (out out' : List ℤ) (a : Counted) → TableAnswers s out out' a → TakenApart s (Lists s out out') Err (λ c. counted_rows (Table.meaning c)) of_table (4 * length (listed_rows (R.judge s))) a.refusal a.position a
  table-apart out out' a x =
      by-meaning listed s (either-rows (Table.answer_of s (length out))) (λ c e. record { answer = e; buffer = x.holds }) x.answers (λ n p h. rw h)
      (λ n p e. table-refuses s (length out) n p (sym e))

  pub turn-apart : (out out' : List ℕ) (a : Counted) → TurnAnswers s out out' a → TakenApart s (Turns s out out') Err (λ c. counted_bytes (Permit.meaning c)) of_turn (length s) a.refusal a.position a
  turn-apart out out' a x =
      by-meaning written s (either-bytes (Turn.answer_of s (length out))) (λ c e. record { answer = e; buffer = x.holds }) x.answers (λ n p h. rw h)
      (λ n p e. turn-refuses s b (length out) n p (sym e))

  pub rewrite-apart : (order : ℕ) (out out' : List ℕ) (a : Counted) → RewriteAnswers s order out out' a → TakenApart s (Rewrites s order out out') Err (λ c. counted_bytes (Permit.meaning c)) of_rewrite (length (rewritten_in (lettered order) s)) a.refusal a.position a
  rewrite-apart order out out' a x =
      by-meaning written s (either-bytes (Rewrite.answer_of s order (length out))) (λ c e. record { answer = e; buffer = x.holds }) x.answers (λ n p h. rw h)
      (λ n p e. rewrite-refuses s b order (length out) n p (sym e))

  pub run-apart : (c : Sibling) (i j k first n : ℕ) (out out' : List (Element c)) (a : Counted) → RunAnswers c s i j k first n out out' a → TakenApart s (RunAnswer c s i j k first n out out') Err (λ d. flat_count (meaning d)) of_run n a.refusal a.position a
  run-apart c i j k first n out out' a x =
      by-meaning ran s (either (Runs.answer_of c s i j k first n (length out))) (λ d e. record { answer = e; buffer = x.holds }) x.answers (λ m p h. rw h)
      (λ m p e. run-refuses s c i j k first n (length out) m p (sym e))

  pub index-apart : (out out' : List ℤ) (a : Counted) → IndexAnswers s out out' a → TakenApart s (Indexes s out out') Err (λ d. flat_count (meaning d)) of_table (5 * length (entries_of s (R.judge s))) a.refusal a.position a
  index-apart out out' a x =
      by-meaning indexed s (either (Index.answer_of s (length out))) (λ d e. record { answer = e; buffer = x.holds }) x.answers (λ m p h. rw h)
      (λ m p e. index-refuses s (length out) m p (sym e))

  -- a question's refusals
  asked : {A : Type 0} {x : Answer A} → Proper s x → (n p : ℕ) → x ≡ refusal n p → Refuses of_question (length s) 0 n p
  asked h n p e = rw e at h

  pub boundary : Boundary s
  boundary = record {
    judge = judge-apart;
    table = table-apart;
    table_keeps = λ out out' a x. let y = table-apart out out' a x in kept (table-keeps s out out' y.told y.met) (ends-listed y.told y.same);
    turn = turn-apart;
    turn_keeps = λ out out' a x. let y = turn-apart out out' a x in kept (turn-keeps s b out out' y.told y.met) (ends-written y.told y.same);
    rewrite = rewrite-apart;
    rewrite_keeps = λ order out out' a x. let y = rewrite-apart order out out' a x in kept (rewrite-keeps s order out out' y.told y.met) (ends-written y.told y.same);
    room = λ a x. by-meaning written s (either-bytes (room_of s)) (λ c e. e) x (λ n p h. rw h) (λ n p e. of-file s of_file 0 (λ n h. h) n p (room-refused s n p (sym e)));
    header = λ a x. by-meaning header s (either (header_of s)) (λ c e. e) x (λ n p h. rw h) (λ n p e. of-file s of_file 0 (λ n h. h) n p (header_refused s n p (sym e)));
    facts = λ i a x. by-meaning facts s (either (facts_of s i)) (λ c e. e) x (λ n p h. rw h) (asked (proper-facts s i));
    channel = λ i j a x. by-meaning channel s (either (channel_of s i j)) (λ c e. e) x (λ n p h. rw h) (asked (proper-channel s i j));
    montage_count = λ i a x. by-meaning montage-count s (either (montage_count_of s i)) (λ c e. e) x (λ n p h. rw h) (asked (proper-montage-count s i));
    montage = λ i j a x. by-meaning montage s (either (montage_of s i j)) (λ c e. e) x (λ n p h. rw h) (asked (proper-montage s i j));
    patient_item = λ i j a x. by-meaning item s (either (patient_item_of s i j)) (λ c e. e) x (λ n p h. rw h) (asked (proper-item s Holder.Patient i j));
    event_item = λ i j a x. by-meaning item s (either (event_item_of s i j)) (λ c e. e) x (λ n p h. rw h) (asked (proper-item s Holder.Event i j));
    clock = λ i j a x. by-meaning clock s (either (clock_of s i j)) (λ c e. e) x (λ n p h. rw h) (asked (proper-clock s i j));
    place = λ i j k a x. by-meaning place s (either (place_of s i j k)) (λ c e. e) x (λ n p h. rw h) (asked (proper-place s i j k));
    track = λ i k a x. by-meaning track s (either (track_of s i k)) (λ c e. e) x (λ n p h. rw h) (asked (proper-track s i k));
    part = λ file e p a x. part-told file p a (rw e x);
    sample = λ i j k n a x. by-meaning sample s (either (sample_of s i j k n)) (λ c e. e) x (λ n p h. rw h) (asked (proper-sample s i j k n));
    run = run-apart;
    run_keeps = λ c i j k first n out out' a x. let y = run-apart c i j k first n out out' a x in kept (run-keeps s c i j k first n out out' y.told y.met) (ends-ran y.told y.same);
    index = index-apart;
    index_keeps = λ out out' a x. let y = index-apart out out' a x in kept (index-keeps s out out' y.told y.met) (ends-indexed y.told y.same);
    event_kind = kind-apart;
  }

  -- accepted and refused exactly as the rules do
  pub boundary-accepted : (a : Header) → JudgeAnswers s a → a.refusal ≡ 0 → (h : FileHeader) × AcceptedAs s h × (a ≡ header_c h)
  boundary-accepted a x z = let y = judge-apart a x in go y.told y.met y.same
    where
      go : (j : Result FileHeader Refusal) → JudgedAs s j → a ≡ flat_judged j → (h : FileHeader) × AcceptedAs s h × (a ≡ header_c h)
      go (Ok h) m e = (h, m, e)
      go (Err r) m e = let i : number_of r.0 ≡ 0 = ap (λ (y : Header). y.refusal) (sym e) ∙ z in absurd (omega (arith, (of-file s of_file 0 (λ n h. h) (number_of r.0) r.1 m).nonzero))

  pub boundary-refused : (a : Header) → JudgeAnswers s a → (n p : ℕ) → a ≡ unheaded n p → R.judge s ≡ refused n p
  boundary-refused a x = let y = judge-apart a x in go y.told y.met y.same
    where
      go : (j : Result FileHeader Refusal) → JudgedAs s j → a ≡ flat_judged j → (n p : ℕ) → a ≡ unheaded n p → R.judge s ≡ refused n p
      go (Ok k) m e n p i = let z : letter_of k.order ≡ 0 = ap (λ (y : Header). y.order) (sym e ∙ i) in absurd (omega (arith, letter-some k.order))
      go (Err q) m e n p i = m ∙ ap (λ (y : Header). refused y.refusal y.position) (sym e ∙ i)

  pub boundary-judges : (a : Header) → JudgeAnswers s a → JudgesByRules header_c refused_c s a
  boundary-judges a x = record {
    accepts = λ v t h. headed-by s x h;
    refuses = λ n p h. (file-named h, x ∙ header-refused h);
    refused = λ r i. boundary-refused a x (number_of r.0) r.1 i;
  }
