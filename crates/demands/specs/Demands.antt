-- The three demands on the library. Each speaks of every answer and every final buffer that meets a public call's contract, by the definition that the call's
-- `ensures` cites, in Rattle and (`boundary`) for C; that each call ends, for every input, is the language's own check. `proofs/Demands.antt` proves them of
-- every list of bytes.
-- Assumes nothing.
use Rattle.questions.specs.declared.channels.Wired.{Wired}
use Rattle.std.specs.Prelude.{Result, Ok, Err, Some}
use Rattle.rules.specs.Reasons.{number_of, reason_of, refusal_of}
use Rattle.std.specs.Prelude.{◌≡◌, Bool, true, ◌||◌, List, [], ℕ, ◌+◌, ◌*◌, ◌≤◌, ◌<◌, eqb, ℤ, length, take, drop}
use Rattle.std.proofs.Math.Option.{none}
use Rattle.std.specs.Borrow.{Bor}
use Rattle.words.specs.Floats.{bits_of}
use Rattle.words.specs.Lent.{flat}
use Rattle.words.specs.Numbers.{Bytes, letter_of, bytes_at, other}
use Rattle.words.specs.Runs.{numbers_in}
use Rattle.words.specs.Values.{unsigned}
use Rattle.words.specs.declared.Order.{Order}
use Rattle.walk.specs.Walk.{Row, Event, Outcome, refused, passed, rows}
use Rattle.rules.specs.Canonical.{rewritten}
use Rattle.rules.specs.CanonicalForm.{CanonicalForm}
use Rattle.rules.specs.Reading.{Value, whole, float, ChannelReading, FrameReading, RecordingReading, Reading, reading}
use Rattle.rules.specs.Rules as R
use Rattle.rules.specs.declared.FileHeader.{FileHeader}
use Rattle.rules.specs.declared.Version.TheVariants as Version
use Rattle.rules.specs.declared.Form.TheVariants as Form
use Rattle.rules.specs.declared.Refusal.{Refusal}
use Rattle.rules.specs.declared.Spelling.TheVariants as Spelling
use Rattle.records.specs.declared.items.Holder.TheVariants as Holder
use Rattle.header.specs.Letters.{lettered}
use Rattle.judge.specs.Judged.{AcceptedAs, JudgedAs}
use Rattle.rows.specs.Rows as Rows
use Rattle.table.specs.Table as Table
use Rattle.table.specs.Table.{Lists}
use Rattle.recordings.specs.Answers.{Answer, value, refusal, ◌>>=◌, indexed, meaning}
use Rattle.recordings.specs.declared.Counts.{Counts}
use Rattle.codes.specs.Codes.{KindAnswer, KindIs}
use Rattle.codes.specs.declared.EventKind.{EventKind}
use Rattle.samples.specs.Placed.{PartAnswer, values_at}
use Rattle.samples.specs.declared.Number.{Number}
use Rattle.samples.specs.declared.Place.{Place}
use Rattle.samples.specs.declared.Time.{Time}
use Rattle.samples.specs.declared.Track.{Track}
use Rattle.questions.specs.Promised.{HeaderAnswer, FactsAnswer, ChannelAnswer, MontageCountAnswer, MontageAnswer, PatientItemAnswer, EventItemAnswer, ClockAnswer, PlaceAnswer, SampleAnswer}
use Rattle.questions.specs.Promised.{TrackAnswer}
use Rattle.questions.specs.Tied.{recording_read, channel_read, montage_read, item_read, frame_read, samples_read, sample_read, Alike, FactsAre, TextsAre, WiredIs, ItemIs, ClockIs, format_in, PlaceIs}
use Rattle.questions.specs.Tied.{TrackIs}
use Rattle.questions.specs.Values.{text_at}
use Rattle.questions.specs.Questions.{header_in}
use Rattle.questions.specs.declared.channels.Calibration.{Calibration}
use Rattle.questions.specs.declared.channels.Descriptor.{Descriptor}
use Rattle.questions.specs.declared.items.Entry.{Entry}
use Rattle.questions.specs.declared.headers.Header as Asked
use Rattle.runs.specs.Runs as Runs
use Rattle.runs.specs.Runs.{Element, element_of, RunAnswer}
use Rattle.runs.specs.declared.Sibling.{Sibling}
use Rattle.index.specs.Events as Events
use Rattle.index.specs.Events.{entries}
use Rattle.index.specs.Index as Index
use Rattle.index.specs.Index.{entries_of, Indexes}
use Rattle.makers.specs.Makers.{first_maker}
use Rattle.permit.specs.Permit as Permit
use Rattle.turn.specs.Turn.{Turns}
use Rattle.rewrite.specs.Rewrite.{barrier, rewritten_in, Rewrites}
use Rattle.room.specs.Room.{RoomAnswer, ShortAnew}
use Rattle.answers.specs.Flat.{counted_rows, counted_bytes, flat_heading, flat_facts, flat_channel, flat_montage, flat_item, flat_clock, flat_count, flat_place, flat_sample}
use Rattle.answers.specs.Flat.{unheaded, flat_track, kind_number, flat_kind}
use Rattle.answers.specs.declared.Channel.{Channel}
use Rattle.answers.specs.declared.Clock.{Clock}
use Rattle.answers.specs.declared.Counted.{Counted}
use Rattle.answers.specs.declared.Facts.{Facts}
use Rattle.answers.specs.declared.Header.{Header}
use Rattle.answers.specs.declared.Heading.{Heading}
use Rattle.answers.specs.declared.Item.{Item}
use Rattle.answers.specs.declared.Kind.{Kind}
use Rattle.answers.specs.declared.Montage.{Montage}
use Rattle.answers.specs.declared.Part as PartC
use Rattle.answers.specs.declared.Place as PlaceC
use Rattle.answers.specs.declared.Sample.{Sample}
use Rattle.answers.specs.declared.Track as TrackC
use Rattle.psg.specs.Calls.{JudgeAnswers, TableAnswers, TurnAnswers, RewriteAnswers, RoomAnswers, HeaderAnswers, FactsAnswers, ChannelAnswers, MontageCountAnswers, MontageAnswers, PatientItemAnswers, EventItemAnswers, ClockAnswers, PlaceAnswers, PartAnswers, SampleAnswers, RunAnswers, IndexAnswers}
use Rattle.psg.specs.Calls.{TrackAnswers, KindAnswers}
use Rattle.demands.specs.Bits.{ChannelIs, MontageIs, SampleIs, SamplesAt}

-- Demand 1: every call answers, with a value or with a refusal that document 01 gives for it; and a buffer keeps what the answer does not state

-- the numbers: of a file, 1 to 16, and of each call
abbrev pub of_file : ℕ → Bool
of_file = R.between 1 16

abbrev pub of_table : ℕ → Bool
of_table n = of_file n || eqb n 17

abbrev pub of_turn : ℕ → Bool
of_turn n = of_file n || (eqb n 18 || eqb n 17)

abbrev pub of_rewrite : ℕ → Bool
of_rewrite n = of_file n || (eqb n 19 || (eqb n 18 || eqb n 17))

abbrev pub of_question : ℕ → Bool
of_question n = of_file n || eqb n 19

abbrev pub of_run : ℕ → Bool
of_run n = of_file n || (eqb n 19 || eqb n 17)

-- about a code, and no file
abbrev pub of_code : ℕ → Bool
of_code n = eqb n 19

-- n is a reason's number
abbrev pub Named : ℕ → Type 0
Named n = number_of (reason_of n) ≡ n

-- the refusal n at p, of a file of `size` bytes, by a call that has these numbers and needs so many elements of its buffer
pub record Refuses (numbers : ℕ → Bool) (size need n p : ℕ) : Type 0 where
  -- it is one of the numbers, a reason's, and so not 0
  pub number : numbers n ≡ true
  pub named : Named n
  pub nonzero : 1 ≤ n
  -- of the file, or 18: a byte of the file or its end
  pub file : n ≤ 16 → p ≤ size
  pub maker : n ≡ 18 → p ≤ size
  -- 17: the length needed
  pub room : n ≡ 17 → p ≡ need
  -- 19: 0
  pub range : n ≡ 19 → p ≡ 0

-- the answer a is a value, or such a refusal
abbrev pub Answered : {E : Type 0} → (Refusal → E) → (ℕ → Bool) → ℕ → ℕ → E → Type 0
Answered refuse numbers size need a = (r : Refusal) → a ≡ refuse r → Refuses numbers size need (number_of r.0) r.1

-- a buffer after the answer a, which is a refusal, or that n times so many elements were written
pub record KeepsRest {A E Why : Type 0} (refuse : Why → E) (wrote : ℕ → E) (each : ℕ) (out out' : List A) (a : E) : Type 0 where
  -- a refusal leaves it as it was
  pub refused : (r : Why) → a ≡ refuse r → out' ≡ out
  -- what is written fits, and all but it is as it was
  pub fits : (n : ℕ) → a ≡ wrote n → each * n ≤ length out
  pub beyond : (n : ℕ) → a ≡ wrote n → drop (each * n) out' ≡ drop (each * n) out
  -- it is as long as it was
  pub long : length out' ≡ length out

-- what `part` answers of a file and a place, whatever the place's numbers are: no refusal, but a part of the file
pub record Shown (file : Bor (List ℕ)) (p : Place) (r : Bor (List ℕ)) : Type 0 where
  -- from this byte of the file on, in its own memory
  pub at : ℕ
  pub block : r.ref_ptr.0 ≡ file.ref_ptr.0
  pub offset : r.ref_ptr.1 ≡ file.ref_ptr.1 + at
  -- inside it, and with its bytes
  pub inside : at + length r.now ≤ length file.now
  pub bytes : r.now ≡ bytes_at (length r.now) file.now at
  -- all bytes of the place where they lie in the file, else none, at its end
  pub all : p.position + p.width * p.count ≤ length file.now → (at ≡ p.position) × (length r.now ≡ p.width * p.count)
  pub none : length file.now < p.position + p.width * p.count → (at ≡ length file.now) × (length r.now ≡ 0)

-- the rows that the rules list of a file: none where they refuse it
abbrev pub listed_rows : Outcome R.File → List Row
listed_rows (refused n p) = []
listed_rows (passed v l t) = rows 0 t

-- What C is answered: the answer of the call of Rattle, taken apart into numbers (`Flat`)

-- so many elements written, and a refusal, which in C is any two numbers
abbrev pub wrote_c : ℕ → Counted
wrote_c n = record { refusal = 0; position = 0; count = n }

abbrev pub stopped_c : ℕ × ℕ → Counted
stopped_c r = record { refusal = r.0; position = r.1; count = 0 }

-- a header, with its order's letter, and a refusal
abbrev pub header_c : FileHeader → Header
header_c h = record { refusal = 0; position = 0; order = letter_of h.order; script = h.heading.script; recordings = h.count }

abbrev pub refused_c : Refusal → Header
refused_c r = record { refusal = number_of r.0; position = r.1; order = 0; script = 0; recordings = 0 }

abbrev pub flat_judged : Result FileHeader Refusal → Header
flat_judged (Ok h) = header_c h
flat_judged (Err r) = refused_c r

-- the answer a for C, in which n is the refusal and p its position, by a call about the file s that has these numbers and needs so many elements of its buffer
pub record TakenApart {E A : Type 0} (s : List ℕ) (meets : E → Type 0) (refuse : Refusal → E) (apart : E → A) (numbers : ℕ → Bool) (need n p : ℕ) (a : A) : Type 0 where
  -- what the call of Rattle answers, for the same file and buffer: all that the demands say of it holds
  pub told : E
  pub met : meets told
  pub same : a ≡ apart told
  -- of a file that the rules refuse, their refusal
  pub handed : (m q : ℕ) → R.judge s ≡ refused m q → Named m × (a ≡ apart (refuse (refusal_of m q)))
  -- n is 0: told is no refusal
  pub answered : n ≡ 0 → (r : Refusal) → told ≡ refuse r → ⊥
  -- n is another number: told is n at p, one of the call's refusals, and the rest of a is 0
  pub refused : 1 ≤ n → told ≡ refuse (refusal_of n p)
  pub proper : 1 ≤ n → Refuses numbers (length s) need n p
  pub rest : 1 ≤ n → a ≡ apart (refuse (refusal_of n p))

-- the answer a for C about the code c: as `TakenApart`, but that no file is refused
pub record KindTaken (c : ℕ) (a : Kind) : Type 0 where
  -- what the call of Rattle answers about the same code
  pub told : Result EventKind Refusal
  pub met : KindAnswer c told
  pub same : a ≡ flat_kind (meaning told)
  -- the number 0: told is no refusal
  pub answered : a.refusal ≡ 0 → (r : Refusal) → told ≡ Err r → ⊥
  -- another number: told is that refusal, and the kind is 0
  pub refused : 1 ≤ a.refusal → told ≡ Err (refusal_of a.refusal a.position)
  pub proper : 1 ≤ a.refusal → Refuses of_code 0 0 a.refusal a.position
  pub rest : 1 ≤ a.refusal → a.kind ≡ 0

-- the part a of a file that C is told of a place
pub record PartTold (file : Bor (List ℕ)) (p : Place) (a : PartC.Part) : Type 0 where
  -- what `part` answers of the file
  pub told : Bor (List ℕ)
  pub met : PartAnswer file p told
  -- it, and whatever else `part` may answer, begins there and is as long
  pub start : (r : Bor (List ℕ)) → PartAnswer file p r → r.ref_ptr.1 ≡ file.ref_ptr.1 + a.start
  pub long : (r : Bor (List ℕ)) → PartAnswer file p r → length r.now ≡ a.length

-- of the file s: what C is answered by each call that it links
pub record Boundary (s : List ℕ) : Type 0 where
  pub judge : (a : Header) → JudgeAnswers s a → TakenApart s (JudgedAs s) Err flat_judged of_file 0 a.refusal a.position a
  pub table : (out out' : List ℤ) (a : Counted) → TableAnswers s out out' a →
      TakenApart s (Lists s out out') Err (λ b. counted_rows (Table.meaning b)) of_table (4 * length (listed_rows (R.judge s))) a.refusal a.position a
  pub table_keeps : (out out' : List ℤ) (a : Counted) → TableAnswers s out out' a → KeepsRest stopped_c wrote_c 4 out out' a
  pub turn : (out out' : List ℕ) (a : Counted) → TurnAnswers s out out' a → TakenApart s (Turns s out out') Err (λ b. counted_bytes (Permit.meaning b)) of_turn (length s) a.refusal a.position a
  pub turn_keeps : (out out' : List ℕ) (a : Counted) → TurnAnswers s out out' a → KeepsRest stopped_c wrote_c 1 out out' a
  pub rewrite : (order : ℕ) (out out' : List ℕ) (a : Counted) → RewriteAnswers s order out out' a →
      TakenApart s (Rewrites s order out out') Err (λ b. counted_bytes (Permit.meaning b)) of_rewrite (length (rewritten_in (lettered order) s)) a.refusal a.position a
  pub rewrite_keeps : (order : ℕ) (out out' : List ℕ) (a : Counted) → RewriteAnswers s order out out' a → KeepsRest stopped_c wrote_c 1 out out' a
  pub room : (a : Counted) → RoomAnswers s a → TakenApart s (RoomAnswer s) Err (λ b. counted_bytes (Permit.meaning b)) of_file 0 a.refusal a.position a
  pub header : (a : Heading) → HeaderAnswers s a → TakenApart s (HeaderAnswer s) Err (λ b. flat_heading (meaning b)) of_file 0 a.refusal a.position a
  pub facts : (i : ℕ) (a : Facts) → FactsAnswers s i a → TakenApart s (FactsAnswer s i) Err (λ b. flat_facts (meaning b)) of_question 0 a.refusal a.position a
  pub channel : (i j : ℕ) (a : Channel) → ChannelAnswers s i j a → TakenApart s (ChannelAnswer s i j) Err (λ b. flat_channel (meaning b)) of_question 0 a.refusal a.position a
  pub montage_count : (i : ℕ) (a : Counted) → MontageCountAnswers s i a →
      TakenApart s (MontageCountAnswer s i) Err (λ b. flat_count (meaning b)) of_question 0 a.refusal a.position a
  pub montage : (i j : ℕ) (a : Montage) → MontageAnswers s i j a →
      TakenApart s (MontageAnswer s i j) Err (λ b. flat_montage (meaning b)) of_question 0 a.channel.refusal a.channel.position a
  pub patient_item : (i j : ℕ) (a : Item) → PatientItemAnswers s i j a → TakenApart s (PatientItemAnswer s i j) Err (λ b. flat_item (meaning b)) of_question 0 a.refusal a.position a
  pub event_item : (i j : ℕ) (a : Item) → EventItemAnswers s i j a → TakenApart s (EventItemAnswer s i j) Err (λ b. flat_item (meaning b)) of_question 0 a.refusal a.position a
  pub clock : (i j : ℕ) (a : Clock) → ClockAnswers s i j a → TakenApart s (ClockAnswer s i j) Err (λ b. flat_clock (meaning b)) of_question 0 a.refusal a.position a
  pub place : (i j k : ℕ) (a : PlaceC.Place) → PlaceAnswers s i j k a →
      TakenApart s (PlaceAnswer s i j k) Err (λ b. flat_place (meaning b)) of_question 0 a.refusal a.position a
  pub track : (i k : ℕ) (a : TrackC.Track) → TrackAnswers s i k a →
      TakenApart s (TrackAnswer s i k) Err (λ b. flat_track (meaning b)) of_question 0 a.refusal a.position a
  pub part : (file : Bor (List ℕ)) → file.now ≡ s → (p : Place) (a : PartC.Part) → PartAnswers (length s) p.position p.width p.count a → PartTold file p a
  pub sample : (i j k n : ℕ) (a : Sample) → SampleAnswers s i j k n a → TakenApart s (SampleAnswer s i j k n) Err (λ b. flat_sample (meaning b)) of_question 0 a.refusal a.position a
  pub run : (b : Sibling) (i j k first n : ℕ) (out out' : List (Element b)) (a : Counted) → RunAnswers b s i j k first n out out' a →
      TakenApart s (RunAnswer b s i j k first n out out') Err (λ c. flat_count (meaning c)) of_run n a.refusal a.position a
  pub run_keeps : (b : Sibling) (i j k first n : ℕ) (out out' : List (Element b)) (a : Counted) → RunAnswers b s i j k first n out out' a →
      KeepsRest stopped_c wrote_c 1 out out' a
  pub index : (out out' : List ℤ) (a : Counted) → IndexAnswers s out out' a →
      TakenApart s (Indexes s out out') Err (λ b. flat_count (meaning b)) of_table (5 * length (entries_of s (R.judge s))) a.refusal a.position a
  pub index_keeps : (out out' : List ℤ) (a : Counted) → IndexAnswers s out out' a → KeepsRest stopped_c wrote_c 5 out out' a
  pub event_kind : (c : ℕ) (a : Kind) → KindAnswers c a → KindTaken c a

-- of the file s: what each public call answers, whatever else it is asked
pub record Demand-1 (s : List ℕ) : Type 0 where
  -- judge
  pub judge : (a : Result FileHeader Refusal) → JudgedAs s a → Answered Err of_file (length s) 0 a
  -- table: 17 counts in numbers, four a row
  pub table : (out out' : List ℤ) (a : Result ℕ Refusal) → Lists s out out' a → Answered Err of_table (length s) (4 * length (listed_rows (R.judge s))) a
  pub table_keeps : (out out' : List ℤ) (a : Result ℕ Refusal) → Lists s out out' a → KeepsRest Err Ok 4 out out' a
  -- turn
  pub turn : (out out' : List ℕ) (a : Result ℕ Refusal) → Turns s out out' a → Answered Err of_turn (length s) (length s) a
  pub turn_keeps : (out out' : List ℕ) (a : Result ℕ Refusal) → Turns s out out' a → KeepsRest Err Ok 1 out out' a
  -- rewrite, whatever the letter
  pub rewrite : (order : ℕ) (out out' : List ℕ) (a : Result ℕ Refusal) → Rewrites s order out out' a → Answered Err of_rewrite (length s) (length (rewritten_in (lettered order) s)) a
  pub rewrite_keeps : (order : ℕ) (out out' : List ℕ) (a : Result ℕ Refusal) → Rewrites s order out out' a → KeepsRest Err Ok 1 out out' a
  -- the room for it: only the file is refused
  pub room : (a : Result ℕ Refusal) → RoomAnswer s a → Answered Err of_file (length s) 0 a
  -- the questions; about the header only the file is refused
  pub header : (a : Result Asked.Header Refusal) → HeaderAnswer s a → Answered Err of_file (length s) 0 a
  pub facts : (i : ℕ) (a : Result Counts Refusal) → FactsAnswer s i a → Answered Err of_question (length s) 0 a
  pub channel : (i j : ℕ) (a : Result Descriptor Refusal) → ChannelAnswer s i j a → Answered Err of_question (length s) 0 a
  pub montage_count : (i : ℕ) (a : Result ℕ Refusal) → MontageCountAnswer s i a → Answered Err of_question (length s) 0 a
  pub montage : (i j : ℕ) (a : Result Wired Refusal) → MontageAnswer s i j a → Answered Err of_question (length s) 0 a
  pub patient_item : (i j : ℕ) (a : Result Entry Refusal) → PatientItemAnswer s i j a → Answered Err of_question (length s) 0 a
  pub event_item : (i j : ℕ) (a : Result Entry Refusal) → EventItemAnswer s i j a → Answered Err of_question (length s) 0 a
  pub clock : (i j : ℕ) (a : Result Time Refusal) → ClockAnswer s i j a → Answered Err of_question (length s) 0 a
  pub place : (i j k : ℕ) (a : Result Place Refusal) → PlaceAnswer s i j k a → Answered Err of_question (length s) 0 a
  pub track : (i k : ℕ) (a : Result Track Refusal) → TrackAnswer s i k a → Answered Err of_question (length s) 0 a
  pub sample : (i j k n : ℕ) (a : Result Number Refusal) → SampleAnswer s i j k n a → Answered Err of_question (length s) 0 a
  -- the part of the file that a place names, whatever its three numbers are
  pub part : (file : Bor (List ℕ)) → file.now ≡ s → (p : Place) (r : Bor (List ℕ)) → PartAnswer file p r → Shown file p r
  -- a run of n samples, by either call: 17 counts the numbers asked for
  pub run : (b : Sibling) (i j k first n : ℕ) (out out' : List (Element b)) (a : Result ℕ Refusal) → RunAnswer b s i j k first n out out' a →
      Answered Err of_run (length s) n a
  pub run_keeps : (b : Sibling) (i j k first n : ℕ) (out out' : List (Element b)) (a : Result ℕ Refusal) → RunAnswer b s i j k first n out out' a →
      KeepsRest Err Ok 1 out out' a
  -- index: 17 counts in numbers, five an entry
  pub index : (out out' : List ℤ) (a : Result ℕ Refusal) → Indexes s out out' a → Answered Err of_table (length s) (5 * length (entries_of s (R.judge s))) a
  pub index_keeps : (out out' : List ℤ) (a : Result ℕ Refusal) → Indexes s out out' a → KeepsRest Err Ok 5 out out' a
  -- the kind of a code, whatever the file is: refused by 19 at 0 alone
  pub event_kind : (c : ℕ) (a : Result EventKind Refusal) → KindAnswer c a → Answered Err of_code (length s) 0 a
  -- each call that C links answers the same, taken apart; its number 0 is never a refusal
  pub boundary : Boundary s

-- Demand 2: a file is accepted exactly when the rules accept it, every answer is what they say, and a file written anew is the canonical one

-- the rules accept the file s: v is what they read, and t what they met on the way
abbrev pub Accepted : List ℕ → R.File → List Event → Type 0
Accepted s v t = R.judge s ≡ passed v [] t

-- the header that `judge` answers: the order, the header's values and K
abbrev pub header_judged : List ℕ → R.File → FileHeader
header_judged s v = record {
  order = R.order_of s;
  heading = record { spelling = v.heading.spelling; label = v.heading.label; script = v.heading.script };
  count = length v.recordings;
}

pub record JudgesByRules {E : Type 0} (accept : FileHeader → E) (refuse : Refusal → E) (s : List ℕ) (a : E) : Type 0 where
  -- where they accept, the header of what they read
  pub accepts : (v : R.File) (t : List Event) → Accepted s v t → a ≡ accept (header_judged s v)
  -- refused exactly when they refuse, by their number and at their position
  pub refuses : (n p : ℕ) → R.judge s ≡ refused n p → Named n × (a ≡ refuse (refusal_of n p))
  pub refused : (r : Refusal) → a ≡ refuse r → R.judge s ≡ refused (number_of r.0) r.1

-- every other call hands the rules' refusal up
pub record HandsUp (s : List ℕ) (n p : ℕ) : Type 0 where
  pub named : Named n
  pub table : (out out' : List ℤ) (a : Result ℕ Refusal) → Lists s out out' a → a ≡ Err (refusal_of n p)
  pub turn : (out out' : List ℕ) (a : Result ℕ Refusal) → Turns s out out' a → a ≡ Err (refusal_of n p)
  pub rewrite : (order : ℕ) (out out' : List ℕ) (a : Result ℕ Refusal) → Rewrites s order out out' a → a ≡ Err (refusal_of n p)
  pub room : (a : Result ℕ Refusal) → RoomAnswer s a → a ≡ Err (refusal_of n p)
  pub header : (a : Result Asked.Header Refusal) → HeaderAnswer s a → a ≡ Err (refusal_of n p)
  pub facts : (i : ℕ) (a : Result Counts Refusal) → FactsAnswer s i a → a ≡ Err (refusal_of n p)
  pub channel : (i j : ℕ) (a : Result Descriptor Refusal) → ChannelAnswer s i j a → a ≡ Err (refusal_of n p)
  pub montage_count : (i : ℕ) (a : Result ℕ Refusal) → MontageCountAnswer s i a → a ≡ Err (refusal_of n p)
  pub montage : (i j : ℕ) (a : Result Wired Refusal) → MontageAnswer s i j a → a ≡ Err (refusal_of n p)
  pub patient_item : (i j : ℕ) (a : Result Entry Refusal) → PatientItemAnswer s i j a → a ≡ Err (refusal_of n p)
  pub event_item : (i j : ℕ) (a : Result Entry Refusal) → EventItemAnswer s i j a → a ≡ Err (refusal_of n p)
  pub clock : (i j : ℕ) (a : Result Time Refusal) → ClockAnswer s i j a → a ≡ Err (refusal_of n p)
  pub place : (i j k : ℕ) (a : Result Place Refusal) → PlaceAnswer s i j k a → a ≡ Err (refusal_of n p)
  pub track : (i k : ℕ) (a : Result Track Refusal) → TrackAnswer s i k a → a ≡ Err (refusal_of n p)
  pub sample : (i j k m : ℕ) (a : Result Number Refusal) → SampleAnswer s i j k m a → a ≡ Err (refusal_of n p)
  pub run : (b : Sibling) (i j k first m : ℕ) (out out' : List (Element b)) (a : Result ℕ Refusal) → RunAnswer b s i j k first m out out' a → a ≡ Err (refusal_of n p)
  pub index : (out out' : List ℤ) (a : Result ℕ Refusal) → Indexes s out out' a → a ≡ Err (refusal_of n p)

-- things of n numbers each in a buffer: how many, and the numbers of each in front
pub record Holds {A E : Type 0} (numbers : A → List ℤ) (n : ℕ) (wrote : ℕ → E) (xs : List A) (out' : List ℤ) (a : E) : Type 0 where
  pub answer : a ≡ wrote (length xs)
  pub holds : take (n * length xs) out' ≡ flat numbers xs

-- the table of these rows, and the index of these entries
abbrev pub TableHolds : {E : Type 0} → (ℕ → E) → List Row → List ℤ → E → Type 0
TableHolds wrote rs out' a = Holds Rows.numbers 4 wrote rs out' a

abbrev pub IndexHolds : {E : Type 0} → (ℕ → E) → List Events.Entry → List ℤ → E → Type 0
IndexHolds wrote es out' a = Holds Index.numbers 5 wrote es out' a

-- What an answer of the code tells, as the reading has it: a float is its bits

-- four calibration numbers
pub record Calibrated : Type 0 where
  pub cal : Value
  pub cal_ad : Value
  pub offset_ad : Value
  pub offset_cal : Value

abbrev pub calibrated_by : Calibration → Calibrated
calibrated_by (Calibration.Floats a b c d) = record { cal = float (bits_of a); cal_ad = float (bits_of b); offset_ad = float (bits_of c); offset_cal = float (bits_of d) }
calibrated_by (Calibration.Numbers a b c d) = record { cal = whole a; cal_ad = whole b; offset_ad = whole c; offset_cal = whole d }
calibrated_by (Calibration.Patterns a b c d) = record { cal = float a; cal_ad = float b; offset_ad = float c; offset_cal = float d }

abbrev pub value_told : Number → Value
value_told (Number.Whole z) = whole z
value_told (Number.Float v) = float (bits_of v)
value_told (Number.Pattern n) = float n

-- the header of a file in this order; M, F and T of a recording, and the clock of a frame
abbrev pub header_read : Order → Reading → Asked.Header
header_read o g = header_in o g.heading (length g.recordings)

abbrev pub counts_in : RecordingReading → Counts
counts_in r = record { channels = length r.channels; frames = length r.frames; seconds = unsigned 4 r.seconds }

abbrev pub time_in : FrameReading → Time
time_in f = record { hour = f.hour; minute = f.minute; second = f.second }

-- the numbers of the descriptor d tell the channel c
pub record DescriptorTells (c : ChannelReading) (d : Descriptor) : Type 0 where
  pub number : d.number ≡ c.channel
  pub flags : d.flags ≡ c.flags
  pub kind : d.kind ≡ c.type
  pub format : d.format ≡ c.format
  pub rate : d.rate ≡ c.rate
  pub calibration : calibrated_by d.calibration ≡ record { cal = c.cal; cal_ad = c.cal_ad; offset_ad = c.offset_ad; offset_cal = c.offset_cal }
  pub frequency : d.frequency ≡ c.cal_frequency
  pub low_cut : d.low_cut ≡ c.low_cut
  pub high_cut : d.high_cut ≡ c.high_cut
  pub sensitivity : d.sensitivity ≡ c.sensitivity

-- two answers agree: the same refusal, or two values that are related
pub data Agree {A B : Type 0} (T : A → B → Type 0) : Answer A → Answer B → Type 0 where
  values : {a : A} {b : B} → T a b → Agree T (value a) (value b)
  refusals : {n p : ℕ} → Agree T (refusal n p) (refusal n p)

-- A run of samples

-- n samples from the first on that the reading has of channel k in frame j, by the call of the channel's format
abbrev pub run_read : Sibling → Reading → (i j k first n : ℕ) → Answer (List Value)
run_read b g i j k first n = do
  vs ← samples_read g i j k
  c ← channel_read g i k
  Runs.run_within b first n (unsigned 4 c.format) vs

-- a run of which the reading has xs, asked for with the buffer out: an answer of which this holds, and the buffer afterwards
pub record RunTells (b : Sibling) (n : ℕ) (xs : Answer (List Value)) (out out' : List (Element b)) (Says : Answer ℕ → Type 0) : Type 0 where
  pub answer : Says (Runs.counted n (length out) xs)
  pub buffer : out' ≡ Runs.holding b n xs out

-- entry q of the buffer is what the question answers about a sample: a whole number, or the 32 bits of a float
pub record EntryTells (b : Sibling) (out' : List (Element b)) (q : ℕ) (d : Result Number Refusal) : Type 0 where
  pub number : Number
  pub told : d ≡ Ok number
  pub entry : indexed out' q ≡ value (element_of b (value_told number))

-- the part r of a file, cut at the place p, is the samples that the reading has of channel k in frame j of recording i
pub record PartIs (g : Reading) (i j k : ℕ) (file : Bor (List ℕ)) (p : Place) (r : Bor (List ℕ)) : Type 0 where
  -- it begins at the place, and is as long
  pub offset : r.ref_ptr.1 ≡ file.ref_ptr.1 + p.position
  pub long : length r.now ≡ p.width * p.count
  -- by the channel's format and the file's order
  pub channel : ChannelReading
  pub described : channel_read g i k ≡ value channel
  pub shows : samples_read g i j k ≡ value (values_at (R.order_of file.now) (format_in channel) p.count r.now 0)

-- each question about a file with this reading answers what the reading says
pub record Tells (s : List ℕ) (g : Reading) : Type 0 where
  pub header : (a : Result Asked.Header Refusal) → HeaderAnswer s a → meaning a ≡ value (header_read (R.order_of s) g)
  pub facts : (i : ℕ) (a : Result Counts Refusal) → FactsAnswer s i a → meaning a ≡ (recording_read g i >>= λ r. value (counts_in r))
  pub channel : (i j : ℕ) (a : Result Descriptor Refusal) → ChannelAnswer s i j a → Agree DescriptorTells (channel_read g i j) (meaning a)
  -- the bytes that a text names lie in the file, and are the reading's text
  pub texts : (i j : ℕ) (a : Result Descriptor Refusal) → ChannelAnswer s i j a → Alike (TextsAre s) (meaning a) (channel_read g i j)
  -- a recording without a 350 has a montage of no channels
  pub montage_count : (i : ℕ) (a : Result ℕ Refusal) → MontageCountAnswer s i a → meaning a ≡ (recording_read g i >>= λ r. value (length r.montage))
  pub montage : (i j : ℕ) (a : Result Wired Refusal) → MontageAnswer s i j a → Agree (λ c d. DescriptorTells c d.channel) (montage_read g i j) (meaning a)
  -- with its texts and its inputs
  pub wired : (i j : ℕ) (a : Result Wired Refusal) → MontageAnswer s i j a → Alike (WiredIs s) (meaning a) (montage_read g i j)
  pub patient_item : (i j : ℕ) (a : Result Entry Refusal) → PatientItemAnswer s i j a → Alike (ItemIs s) (meaning a) (item_read Holder.Patient g i j)
  pub event_item : (i j : ℕ) (a : Result Entry Refusal) → EventItemAnswer s i j a → Alike (ItemIs s) (meaning a) (item_read Holder.Event g i j)
  pub clock : (i j : ℕ) (a : Result Time Refusal) → ClockAnswer s i j a → meaning a ≡ (frame_read g i j >>= λ f. value (time_in f))
  -- the place of a channel's samples: as many as the reading has, of the format's width each; its bytes are the samples
  pub place : (i j k : ℕ) (a : Result Place Refusal) → PlaceAnswer s i j k a → Alike (PlaceIs s g i k) (meaning a) (samples_read g i j k)
  -- and so are those of the part that is cut there
  pub part : (file : Bor (List ℕ)) → file.now ≡ s → (i j k : ℕ) (p : Place) → PlaceAnswer s i j k (Ok p) →
      (r : Bor (List ℕ)) → PartAnswer file p r → PartIs g i j k file p r
  -- the track of a channel: its format, F and T as the reading has them, and the place of its samples in each frame
  pub track : (i k : ℕ) (a : Result Track Refusal) → TrackAnswer s i k a → Alike (TrackIs s g i k) (meaning a) (channel_read g i k)
  pub sample : (i j k n : ℕ) (a : Result Number Refusal) → SampleAnswer s i j k n a → (meaning a >>= λ x. value (value_told x)) ≡ sample_read g i j k n
  pub run : (b : Sibling) (i j k first n : ℕ) (out out' : List (Element b)) (a : Result ℕ Refusal) → RunAnswer b s i j k first n out out' a →
      RunTells b n (run_read b g i j k first n) out out' (λ x. meaning a ≡ x)
  -- where it is answered, the answer is the number asked for, and entry q is what the question answers about sample first + q
  pub run_number : (b : Sibling) (i j k first n : ℕ) (out out' : List (Element b)) (a : Result ℕ Refusal) → RunAnswer b s i j k first n out out' a →
      (m : ℕ) → a ≡ Ok m → m ≡ n
  pub run_entry : (b : Sibling) (i j k first n : ℕ) (out out' : List (Element b)) → RunAnswer b s i j k first n out out' (Ok n) →
      (q : ℕ) → q < n → (d : Result Number Refusal) → SampleAnswer s i j k (first + q) d → EntryTells b out' q d

-- an answer for C, in which n is the refusal and p its position, and what the reading has: the number 0 and a value of which this holds, or the refusal
abbrev pub TellsC : {X : Type 0} → (X → Type 0) → (n p : ℕ) → Answer X → Type 0
TellsC Holds n p (value x) = (n ≡ 0) × Holds x
TellsC Holds n p (refusal m q) = (n ≡ m) × (p ≡ q)

-- the numbers that C is answered, as the answers of Rattle have them
abbrev pub counts_c : Facts → Counts
counts_c a = record { channels = a.channels; frames = a.frames; seconds = a.seconds }

abbrev pub entry_c : Item → Entry
entry_c a = record { code = a.code; text = text_at a.text a.text_length }

abbrev pub place_c : PlaceC.Place → Place
place_c a = record { position = a.start; width = a.width; count = a.count }

abbrev pub time_c : Clock → Time
time_c a = record { hour = a.hour; minute = a.minute; second = a.second }

-- of a file in this order, which C is told by its letter
abbrev pub track_c : Order → TrackC.Track → Track
track_c o a = record {
  order = o;
  format = a.format;
  first = record { position = a.start; width = a.width; count = a.count };
  step = a.step;
  frames = a.frames;
  seconds = a.seconds;
}

-- what C is answered of the header of a file in this order: the spelling 0 is JSSR-SPG, 1 JSSR-PSG; the form 0 is 00, 1 is 01
pub record HeadingIs (o : Order) (g : Reading) (a : Heading) : Type 0 where
  pub accepted : a.refusal ≡ 0
  pub spg : g.heading.spelling ≡ Spelling.Spg → a.spelling ≡ 0
  pub psg : g.heading.spelling ≡ Spelling.Psg → a.spelling ≡ 1
  pub v100 : g.heading.label.version ≡ Version.V100 → a.version ≡ 100
  pub v110 : g.heading.label.version ≡ Version.V110 → a.version ≡ 110
  pub v200 : g.heading.label.version ≡ Version.V200 → a.version ≡ 200
  pub v300 : g.heading.label.version ≡ Version.V300 → a.version ≡ 300
  pub channels : g.heading.label.form ≡ Form.Channels → a.form ≡ 0
  pub electrodes : g.heading.label.form ≡ Form.Electrodes → a.form ≡ 1
  pub order : a.order ≡ letter_of o
  pub script : a.script ≡ g.heading.script
  pub recordings : a.recordings ≡ length g.recordings

-- what C is answered of the track of channel k of recording i, which the reading has as c: the letter of the file's order, and the track
pub record TrackToldC (s : List ℕ) (g : Reading) (i k : ℕ) (a : TrackC.Track) (c : ChannelReading) : Type 0 where
  pub letter : a.order ≡ letter_of (R.order_of s)
  pub is : TrackIs s g i k (track_c (R.order_of s) a) c

-- the code of a channel's sub, 125 or 325
abbrev pub channel_code : Reading → ℕ
channel_code g = (R.channels_group g.heading.label 0).sub.code

-- each question of C about a file with this reading answers what the reading says
pub record BoundaryTells (s : List ℕ) (g : Reading) : Type 0 where
  pub header : (a : Heading) → HeaderAnswers s a → HeadingIs (R.order_of s) g a
  pub facts : (i : ℕ) (a : Facts) → FactsAnswers s i a → TellsC (FactsAre (counts_c a)) a.refusal a.position (recording_read g i)
  pub channel : (i j : ℕ) (a : Channel) → ChannelAnswers s i j a → TellsC (ChannelIs s (channel_code g) j a) a.refusal a.position (channel_read g i j)
  pub montage_count : (i : ℕ) (a : Counted) → MontageCountAnswers s i a →
      TellsC (λ r. a.count ≡ length r.montage) a.refusal a.position (recording_read g i)
  pub montage : (i j : ℕ) (a : Montage) → MontageAnswers s i j a → TellsC (MontageIs s j a) a.channel.refusal a.channel.position (montage_read g i j)
  pub patient_item : (i j : ℕ) (a : Item) → PatientItemAnswers s i j a → TellsC (ItemIs s (entry_c a)) a.refusal a.position (item_read Holder.Patient g i j)
  pub event_item : (i j : ℕ) (a : Item) → EventItemAnswers s i j a → TellsC (ItemIs s (entry_c a)) a.refusal a.position (item_read Holder.Event g i j)
  pub clock : (i j : ℕ) (a : Clock) → ClockAnswers s i j a → TellsC (ClockIs (time_c a)) a.refusal a.position (frame_read g i j)
  pub place : (i j k : ℕ) (a : PlaceC.Place) → PlaceAnswers s i j k a → TellsC (PlaceIs s g i k (place_c a)) a.refusal a.position (samples_read g i j k)
  -- what is seen in the part that is cut at the place that C is told
  pub part : (i j k : ℕ) (a : PlaceC.Place) → PlaceAnswers s i j k a → (b : PartC.Part) → PartAnswers (length s) a.start a.width a.count b →
      (vs : List Value) → samples_read g i j k ≡ value vs → SamplesAt s g i k b vs
  pub track : (i k : ℕ) (a : TrackC.Track) → TrackAnswers s i k a → TellsC (TrackToldC s g i k a) a.refusal a.position (channel_read g i k)
  pub sample : (i j k n : ℕ) (a : Sample) → SampleAnswers s i j k n a → TellsC (SampleIs s g i j k n a) a.refusal a.position (sample_read g i j k n)
  pub run : (b : Sibling) (i j k first n : ℕ) (out out' : List (Element b)) (a : Counted) → RunAnswers b s i j k first n out out' a →
      RunTells b n (run_read b g i j k first n) out out' (λ x. a ≡ flat_count x)

-- what was written of a file with the reading g, in the order `to`
pub record WrittenAnew {E : Type 0} (wrote : ℕ → E) (g : Reading) (to : Order) (out' : List ℕ) (a : E) : Type 0 where
  -- so many bytes: the file that was written
  pub count : ℕ
  pub answer : a ≡ wrote count
  -- it is accepted, and has this reading
  pub file : R.File
  pub events : List Event
  pub accepted : Accepted (take count out') file events
  pub same : reading file ≡ g
  -- it is in the order asked for
  pub order : R.order_of (take count out') ≡ to
  -- it has the canonical form, and is the only such file
  pub form : CanonicalForm (take count out') file events
  pub only : (q : List ℕ) (v : R.File) (t : List Event) → Bytes q → Accepted q v t → CanonicalForm q v t → reading v ≡ g → R.order_of q ≡ to → q ≡ take count out'

-- with this room, a rewrite of the file s is not refused by 17: in Rattle, and for C
abbrev pub Suffices : List ℕ → ℕ → Type 0
Suffices s n = (order : ℕ) (out out' : List ℕ) (a : Result ℕ Refusal) → n ≤ length out → Rewrites s order out out' a → (r : Refusal) → a ≡ Err r → number_of r.0 ≡ 17 → ⊥

abbrev pub SufficesC : List ℕ → ℕ → Type 0
SufficesC s n = (order : ℕ) (out out' : List ℕ) (a : Counted) → n ≤ length out → RewriteAnswers s order out out' a → a.refusal ≡ 17 → ⊥

-- The kind of a code

-- the answer a about the code c: of 16 bits its kind, as document 02 says it, else 19
pub record KindTells {E : Type 0} (tell : EventKind → E) (refuse : Refusal → E) (c : ℕ) (a : E) : Type 0 where
  pub kind : c ≤ 65535 → (k : EventKind) × KindIs c k × (a ≡ tell k)
  pub outside : 65535 < c → a ≡ refuse (refusal_of 19 0)

-- what C is answered: the kind's number, and a refusal
abbrev pub kind_c : EventKind → Kind
kind_c k = record { refusal = 0; position = 0; kind = kind_number k }

abbrev pub unkind_c : Refusal → Kind
unkind_c r = record { refusal = number_of r.0; position = r.1; kind = 0 }

-- how much room the file s needs, of which v was read
pub record Reserved (s : List ℕ) (v : R.File) : Type 0 where
  -- the canonical file is at most 254 bytes a recording longer, and no longer where no recording's canonical length exceeds 2,147,483,647
  pub longer : (to : Order) → length (rewritten to s) ≤ length s + 254 * length v.recordings
  pub no_longer : ShortAnew v → (to : Order) → length (rewritten to s) ≤ length s
  -- `room` answers the first, and with it `rewrite` does not refuse by 17; where the second holds, the file's own length will do
  pub answer : (a : Result ℕ Refusal) → RoomAnswer s a → a ≡ Ok (length s + 254 * length v.recordings)
  pub enough : Suffices s (length s + 254 * length v.recordings)
  pub own : ShortAnew v → Suffices s (length s)
  -- and so for C
  pub boundary_answer : (a : Counted) → RoomAnswers s a → a ≡ wrote_c (length s + 254 * length v.recordings)
  pub boundary_enough : SufficesC s (length s + 254 * length v.recordings)
  pub boundary_own : ShortAnew v → SufficesC s (length s)

pub record Demand-2 (s : List ℕ) : Type 0 where
  -- accepted exactly when the rules accept, and refused by every call as they refuse
  pub judges : (a : Result FileHeader Refusal) → JudgedAs s a → JudgesByRules Ok Err s a
  pub accepted : (a : Result FileHeader Refusal) → JudgedAs s a → (h : FileHeader) → a ≡ Ok h → AcceptedAs s h
  pub refuses : (n p : ℕ) → R.judge s ≡ refused n p → HandsUp s n p
  -- the table, with room, is that of the rules' rows
  pub lists : (v : R.File) (t : List Event) → Accepted s v t → (out out' : List ℤ) (a : Result ℕ Refusal) → 4 * length (rows 0 t) ≤ length out → Lists s out out' a → TableHolds Ok (rows 0 t) out' a
  -- the index, with room, is that of the entries: every event of the reading once, and nothing else, by recording, frame, channel and place
  pub indexes : (v : R.File) (t : List Event) → Accepted s v t → (out out' : List ℤ) (a : Result ℕ Refusal) → 5 * length (entries s (R.contents v)) ≤ length out → Indexes s out out' a →
      IndexHolds Ok (entries s (R.contents v)) out' a
  pub events : (v : R.File) (t : List Event) → Accepted s v t → Events.Index (R.contents v) (entries s (R.contents v))
  -- the questions
  pub answers : (v : R.File) (t : List Event) → Accepted s v t → Tells s (reading v)
  -- with a letter that names an order, no maker's record in the way, and room, the file is written anew
  pub rewrites : (v : R.File) (t : List Event) → Accepted s v t → (order : ℕ) (to : Order) → lettered order ≡ Some to → barrier (R.order_of s) to (first_maker (rows 0 t)) ≡ none →
      (out out' : List ℕ) (a : Result ℕ Refusal) → length (rewritten to s) ≤ length out → Rewrites s order out out' a → WrittenAnew Ok (reading v) to out' a
  -- in a buffer as long as `room` says
  pub reserved : (v : R.File) (t : List Event) → Accepted s v t → Reserved s v
  -- the kind of a code, whatever the file is
  pub kinds : (c : ℕ) (a : Result EventKind Refusal) → KindAnswer c a → KindTells Ok Err c a
  -- what C is answered
  pub boundary_judges : (a : Header) → JudgeAnswers s a → JudgesByRules header_c refused_c s a
  pub boundary_refused : (a : Header) → JudgeAnswers s a → (n p : ℕ) → a ≡ unheaded n p → R.judge s ≡ refused n p
  pub boundary_accepted : (a : Header) → JudgeAnswers s a → a.refusal ≡ 0 → (h : FileHeader) × AcceptedAs s h × (a ≡ header_c h)
  pub boundary_lists : (v : R.File) (t : List Event) → Accepted s v t → (out out' : List ℤ) (a : Counted) → 4 * length (rows 0 t) ≤ length out → TableAnswers s out out' a → TableHolds wrote_c (rows 0 t) out' a
  pub boundary_indexes : (v : R.File) (t : List Event) → Accepted s v t → (out out' : List ℤ) (a : Counted) → 5 * length (entries s (R.contents v)) ≤ length out → IndexAnswers s out out' a →
      IndexHolds wrote_c (entries s (R.contents v)) out' a
  pub boundary_answers : (v : R.File) (t : List Event) → Accepted s v t → BoundaryTells s (reading v)
  pub boundary_rewrites : (v : R.File) (t : List Event) → Accepted s v t → (order : ℕ) (to : Order) → lettered order ≡ Some to → barrier (R.order_of s) to (first_maker (rows 0 t)) ≡ none →
      (out out' : List ℕ) (a : Counted) → length (rewritten to s) ≤ length out → RewriteAnswers s order out out' a → WrittenAnew wrote_c (reading v) to out' a
  pub boundary_kinds : (c : ℕ) (a : Kind) → KindAnswers c a → KindTells kind_c unkind_c c a

-- Demand 3: a file and what `turn` wrote of it say the same

-- the file xs was written into a buffer
pub record Gives {E : Type 0} (wrote : ℕ → E) (xs out' : List ℕ) (a : E) : Type 0 where
  pub answer : a ≡ wrote (length xs)
  pub holds : take (length xs) out' ≡ xs

-- two calls with one buffer: one answer, and one content of the buffer afterwards; with two buffers, one answer and the same n bytes in front
pub record SameEnd {A E : Type 0} (a b : E) (out₁ out₂ : List A) : Type 0 where
  pub answer : a ≡ b
  pub buffer : out₁ ≡ out₂

pub record SameFront {E : Type 0} (n : ℕ) (a b : E) (out₁ out₂ : List ℕ) : Type 0 where
  pub answer : a ≡ b
  pub front : take n out₁ ≡ take n out₂

-- a header but for the order, which is the other one
abbrev pub in_other : Asked.Header → Asked.Header
in_other h = record { spelling = h.spelling; version = h.version; form = h.form; order = other h.order; script = h.script; recordings = h.recordings }

-- a track but for the order
abbrev pub track_in_other : Track → Track
track_in_other x = record { order = other x.order; format = x.format; first = x.first; step = x.step; frames = x.frames; seconds = x.seconds }

-- bytes of two files are the same words of so many bytes, each file's in its own order
pub record SameWords (w : ℕ) (o o' : Order) (xs xs' : List ℕ) : Type 0 where
  pub words : List ℕ
  pub first : xs ≡ numbers_in o w words
  pub second : xs' ≡ numbers_in o' w words

-- the parts r and r' of two files show the same numbers of channel k of recording i
pub record SameNumbers (g : Reading) (i k : ℕ) (file r file' r' : Bor (List ℕ)) : Type 0 where
  -- at the same place of each file, and as long
  pub at : ℕ
  pub offset : r.ref_ptr.1 ≡ file.ref_ptr.1 + at
  pub offset' : r'.ref_ptr.1 ≡ file'.ref_ptr.1 + at
  pub long : length r.now ≡ length r'.now
  -- the same words, by the width of the channel's samples
  pub words : (c : ChannelReading) → channel_read g i k ≡ value c → SameWords (R.width (unsigned 4 c.format)) (R.order_of file.now) (R.order_of file'.now) r.now r'.now

-- two headers for C that differ in the order's letter alone
pub record SameButOrder (o : Order) (a b : Heading) : Type 0 where
  -- a's is that of o, b's that of the other
  pub first : a.order ≡ letter_of o
  pub second : b.order ≡ letter_of (other o)
  pub refusal : a.refusal ≡ b.refusal
  pub position : a.position ≡ b.position
  pub spelling : a.spelling ≡ b.spelling
  pub version : a.version ≡ b.version
  pub form : a.form ≡ b.form
  pub script : a.script ≡ b.script
  pub recordings : a.recordings ≡ b.recordings

-- two answers for C about a track that differ in the order's letter alone
pub record SameTrackButOrder (o : Order) (a b : TrackC.Track) : Type 0 where
  -- of a track a's is that of o, b's that of the other; a refusal has none, and both are the same
  pub first : a.refusal ≡ 0 → a.order ≡ letter_of o
  pub second : a.refusal ≡ 0 → b.order ≡ letter_of (other o)
  pub refused : 1 ≤ a.refusal → a ≡ b
  pub refusal : a.refusal ≡ b.refusal
  pub position : a.position ≡ b.position
  pub format : a.format ≡ b.format
  pub start : a.start ≡ b.start
  pub width : a.width ≡ b.width
  pub count : a.count ≡ b.count
  pub step : a.step ≡ b.step
  pub frames : a.frames ≡ b.frames
  pub seconds : a.seconds ≡ b.seconds

-- what C is answered of the file s and of the file s' that `turn` wrote of it
pub record BoundarySame (s s' : List ℕ) : Type 0 where
  pub table : (out out₁ out₂ : List ℤ) (a b : Counted) → TableAnswers s out out₁ a → TableAnswers s' out out₂ b → SameEnd a b out₁ out₂
  pub room : (a b : Counted) → RoomAnswers s a → RoomAnswers s' b → a ≡ b
  pub header : (a b : Heading) → HeaderAnswers s a → HeaderAnswers s' b → SameButOrder (R.order_of s) a b
  pub facts : (i : ℕ) (a b : Facts) → FactsAnswers s i a → FactsAnswers s' i b → a ≡ b
  pub channel : (i j : ℕ) (a b : Channel) → ChannelAnswers s i j a → ChannelAnswers s' i j b → a ≡ b
  pub montage_count : (i : ℕ) (a b : Counted) → MontageCountAnswers s i a → MontageCountAnswers s' i b → a ≡ b
  pub montage : (i j : ℕ) (a b : Montage) → MontageAnswers s i j a → MontageAnswers s' i j b → a ≡ b
  pub patient_item : (i j : ℕ) (a b : Item) → PatientItemAnswers s i j a → PatientItemAnswers s' i j b → a ≡ b
  pub event_item : (i j : ℕ) (a b : Item) → EventItemAnswers s i j a → EventItemAnswers s' i j b → a ≡ b
  pub clock : (i j : ℕ) (a b : Clock) → ClockAnswers s i j a → ClockAnswers s' i j b → a ≡ b
  pub place : (i j k : ℕ) (a b : PlaceC.Place) → PlaceAnswers s i j k a → PlaceAnswers s' i j k b → a ≡ b
  pub track : (i k : ℕ) (a b : TrackC.Track) → TrackAnswers s i k a → TrackAnswers s' i k b → SameTrackButOrder (R.order_of s) a b
  pub sample : (i j k n : ℕ) (a b : Sample) → SampleAnswers s i j k n a → SampleAnswers s' i j k n b → a ≡ b
  pub run : (c : Sibling) (i j k first n : ℕ) (out out₁ out₂ : List (Element c)) (a b : Counted) →
      RunAnswers c s i j k first n out out₁ a → RunAnswers c s' i j k first n out out₂ b → SameEnd a b out₁ out₂
  pub index : (out out₁ out₂ : List ℤ) (a b : Counted) → IndexAnswers s out out₁ a → IndexAnswers s' out out₂ b → SameEnd a b out₁ out₂
  pub back : (out out' : List ℕ) (a : Counted) → length s ≤ length out → TurnAnswers s' out out' a → Gives wrote_c s out' a
  pub anew : (order : ℕ) (to : Order) → lettered order ≡ Some to →
      (out₁ out₁' : List ℕ) (a : Counted) → length (rewritten to s) ≤ length out₁ → RewriteAnswers s order out₁ out₁' a →
      (out₂ out₂' : List ℕ) (b : Counted) → length (rewritten to s) ≤ length out₂ → RewriteAnswers s' order out₂ out₂' b →
      SameFront (length (rewritten to s)) a b out₁' out₂'

-- the file s with the reading g, and the file s' that `turn` wrote of it
pub record Same (s : List ℕ) (g : Reading) (s' : List ℕ) : Type 0 where
  -- s' is accepted, and has the same reading; it is as long, and in the other order
  pub file : R.File
  pub events : List Event
  pub accepted : Accepted s' file events
  pub same : reading file ≡ g
  pub long : length s' ≡ length s
  pub order : R.order_of s' ≡ other (R.order_of s)
  -- the same table: the answer, and the rows in the buffer
  pub table : (out out₁ out₂ : List ℤ) (a b : Result ℕ Refusal) → Lists s out out₁ a → Lists s' out out₂ b → SameEnd a b out₁ out₂
  -- the same room for a rewrite
  pub room : (a b : Result ℕ Refusal) → RoomAnswer s a → RoomAnswer s' b → a ≡ b
  -- the same answer to each question; to those about the header and a track but for the order
  pub header : (a b : Result Asked.Header Refusal) → HeaderAnswer s a → HeaderAnswer s' b → (h : Asked.Header) × (a ≡ Ok h) × (b ≡ Ok (in_other h))
  pub facts : (i : ℕ) (a b : Result Counts Refusal) → FactsAnswer s i a → FactsAnswer s' i b → a ≡ b
  pub channel : (i j : ℕ) (a b : Result Descriptor Refusal) → ChannelAnswer s i j a → ChannelAnswer s' i j b → a ≡ b
  pub montage_count : (i : ℕ) (a b : Result ℕ Refusal) → MontageCountAnswer s i a → MontageCountAnswer s' i b → a ≡ b
  pub montage : (i j : ℕ) (a b : Result Wired Refusal) → MontageAnswer s i j a → MontageAnswer s' i j b → a ≡ b
  pub patient_item : (i j : ℕ) (a b : Result Entry Refusal) → PatientItemAnswer s i j a → PatientItemAnswer s' i j b → a ≡ b
  pub event_item : (i j : ℕ) (a b : Result Entry Refusal) → EventItemAnswer s i j a → EventItemAnswer s' i j b → a ≡ b
  pub clock : (i j : ℕ) (a b : Result Time Refusal) → ClockAnswer s i j a → ClockAnswer s' i j b → a ≡ b
  pub place : (i j k : ℕ) (a b : Result Place Refusal) → PlaceAnswer s i j k a → PlaceAnswer s' i j k b → a ≡ b
  pub part : (i j k : ℕ) (p : Place) → PlaceAnswer s i j k (Ok p) → (file r file' r' : Bor (List ℕ)) → file.now ≡ s → file'.now ≡ s' →
      PartAnswer file p r → PartAnswer file' p r' → SameNumbers g i k file r file' r'
  pub track : (i k : ℕ) (a b : Result Track Refusal) → TrackAnswer s i k a → TrackAnswer s' i k b → meaning b ≡ (meaning a >>= λ x. value (track_in_other x))
  pub sample : (i j k n : ℕ) (a b : Result Number Refusal) → SampleAnswer s i j k n a → SampleAnswer s' i j k n b → a ≡ b
  -- the same run of samples: the answer, and the numbers in the buffer
  pub run : (c : Sibling) (i j k first n : ℕ) (out out₁ out₂ : List (Element c)) (a b : Result ℕ Refusal) →
      RunAnswer c s i j k first n out out₁ a → RunAnswer c s' i j k first n out out₂ b → SameEnd a b out₁ out₂
  -- the same index: the answer, and the entries in the buffer
  pub index : (out out₁ out₂ : List ℤ) (a b : Result ℕ Refusal) → Indexes s out out₁ a → Indexes s' out out₂ b → SameEnd a b out₁ out₂
  -- turned again, with room, it is the first file, byte for byte
  pub back : (out out' : List ℕ) (a : Result ℕ Refusal) → length s ≤ length out → Turns s' out out' a → Gives Ok s out' a
  -- rewritten in one order, with room, either gives the same answer and bytes
  pub anew : (order : ℕ) (to : Order) → lettered order ≡ Some to →
      (out₁ out₁' : List ℕ) (a : Result ℕ Refusal) → length (rewritten to s) ≤ length out₁ → Rewrites s order out₁ out₁' a →
      (out₂ out₂' : List ℕ) (b : Result ℕ Refusal) → length (rewritten to s) ≤ length out₂ → Rewrites s' order out₂ out₂' b →
      SameFront (length (rewritten to s)) a b out₁' out₂'
  -- what C is answered
  pub boundary : BoundarySame s s'

pub record Demand-3 (s : List ℕ) : Type 0 where
  -- of an accepted file without makers' records, and with room, `turn` writes as many bytes as the file has: a file that says the same
  pub answers : (v : R.File) (t : List Event) → Accepted s v t → first_maker (rows 0 t) ≡ none → (out out' : List ℕ) (a : Result ℕ Refusal) → length s ≤ length out → Turns s out out' a → a ≡ Ok (length s)
  pub turned : (v : R.File) (t : List Event) → Accepted s v t → first_maker (rows 0 t) ≡ none → (out out' : List ℕ) (a : Result ℕ Refusal) → length s ≤ length out → Turns s out out' a →
      Same s (reading v) (take (length s) out')
  -- and so does the call that C links
  pub boundary_answers : (v : R.File) (t : List Event) → Accepted s v t → first_maker (rows 0 t) ≡ none → (out out' : List ℕ) (a : Counted) → length s ≤ length out → TurnAnswers s out out' a → a ≡ wrote_c (length s)
  pub boundary_turned : (v : R.File) (t : List Event) → Accepted s v t → first_maker (rows 0 t) ≡ none → (out out' : List ℕ) (a : Counted) → length s ≤ length out → TurnAnswers s out out' a →
      Same s (reading v) (take (length s) out')
