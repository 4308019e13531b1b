-- What the answers of the judge's functions say, as verdicts on the walks of the rules.
use Rattle.std.specs.Prelude.{Result, Ok, Err, Option, Some, None, ℕ, ◌+◌, ◌*◌, ◌-◌, ◌≤◌, ◌<◌, length, ◌≡◌, Bool, true, ◌&&◌, ◌||◌, not, List, [], ◌∷◌, leb, eqb}
use Rattle.words.specs.Numbers.{number_at}
use Rattle.words.specs.declared.Order.{Order}
use Rattle.walk.specs.Walk.{pick, Walk, give, ◌>>=◌, ◌>>◌}
use Rattle.walk.specs.See.{Verdict, stops, goes, gate, see, over, ends}
use Rattle.rules.specs.declared.Refusal.{Refusal}
use Rattle.rules.specs.Reasons.{number_of}
use Rattle.rules.specs.Rules as R
use Rattle.rules.specs.declared.Label.{Label}
use Rattle.rules.specs.declared.Head.{Head}
use Rattle.rules.specs.declared.Group.{Group}
use Rattle.rules.specs.declared.Shape.{Shape}
use Rattle.rules.specs.declared.Kind.{Kind}
use Rattle.rules.specs.declared.Basic.{Basic}
use Rattle.rules.specs.declared.Channels.{Channels}
use Rattle.records.specs.declared.items.Holder.{Holder}
use Rattle.records.specs.declared.kinds.Rule.{Rule}
use Rattle.records.specs.declared.kinds.Code.{Code}
use Rattle.records.specs.declared.kinds.Fits.{Fits}

-- a refusal, as a verdict
abbrev pub halts : {A : Type 0} → Refusal → Verdict A
halts r = stops (number_of r.0) r.1

-- a record's head, as the rules have it
abbrev pub head_of : Head → R.Head
head_of h = record { size = h.size; code = h.code; serial = h.serial; multiplier = h.multiplier }

abbrev pub headed : ℕ → Result Head Refusal → Verdict R.Head
headed base (Ok h) = goes (head_of h) (base + (h.at + 16))
headed base (Err r) = halts r

-- what the code reads of a channel's sub, at byte p of s
pub record KeptOne (o : Order) (s : List ℕ) (p : ℕ) (c : R.Channel) : Type 0 where
  pub flags : c.flags ≡ number_at o 4 s (p + 20)
  pub type : c.type ≡ number_at o 4 s (p + 24)
  pub format : c.format ≡ number_at o 4 s (p + 28)
  pub rate : c.rate ≡ number_at o 4 s (p + 32)

-- channels whose subs stand in s from byte p on
abbrev pub Kept : Order → List ℕ → ℕ → List R.Channel → Type 0
Kept o s p [] = Unit {0}
Kept o s p (c ∷ cs) = KeptOne o s p c × Kept o s (p + 256) cs

-- the records that hold subs, as the rules have them
abbrev pub group_of : Group → R.Group
group_of (Group.Channels v n) = R.channel_group v n
group_of (Group.Electrodes v n) = R.electrode_group v n
group_of (Group.Montage n) = R.montage_group n

-- what the code of such a record tells of its subs: that it holds any, their code, and which fields they have
unfoldable pub is_group : ℕ → Bool
is_group code = eqb code 120 || (eqb code 320 || eqb code 350)

unfoldable pub sub_code : ℕ → ℕ
sub_code code = pick (eqb code 120) 125 (pick (eqb code 320) 325 355)

unfoldable pub shape_of : ℕ → Shape
shape_of code = record { calibrated = not (eqb code 320); wired = eqb code 350 }

-- a sub with these fields
pub record HasShape (u : R.Sub) (k : Shape) : Type 0 where
  pub calibrated : u.calibrated ≡ k.calibrated
  pub wired : u.wired ≡ k.wired

-- a group of which its code tells this
pub record CodeTells (g : R.Group) : Type 0 where
  pub group : is_group g.code ≡ true
  pub code : g.sub.code ≡ sub_code g.code
  pub shape : HasShape g.sub (shape_of g.code)

-- the subs of the 120, 320 or 350 at this place, so many of them
abbrev pub subs_at : ℕ → ℕ → Channels
subs_at at count = record { subs = at + 32; count = count }

-- a file of n bytes has room for the subs at cs
pub record ChannelsIn (n : ℕ) (cs : Channels) : Type 0 where
  -- they end inside it
  pub inside : cs.subs + 256 * cs.count ≤ n
  -- no recording has more
  pub few : cs.count ≤ 128

-- the channels ch stand in the file s, at cs
pub record ChannelsStand (o : Order) (s : List ℕ) (cs : Channels) (ch : List R.Channel) : Type 0 where
  -- as many as there are subs
  pub count : length ch ≡ cs.count
  -- the subs of each
  pub kept : Kept o s cs.subs ch

-- a maker's own record, and what follows: the head of the next record, and the room that is left from its start
pub record Headroom : Type 0 where
  pub head : R.Head
  pub room : ℕ

abbrev pub headroom : R.Next → Headroom
headroom n = record { head = n.head; room = n.room }

-- the head of the next record in a part of n bytes, and the room from its start on
abbrev pub nexted : ℕ → ℕ → Result Head Refusal → Verdict Headroom
nexted base n (Ok h) = goes (record { head = head_of h; room = n - h.at }) (base + (h.at + 16))
nexted base n (Err r) = halts r

-- a head stands at this byte of a part of n bytes, and is inside it
abbrev pub HeadPlaced : ℕ → ℕ → Result Head Refusal → Type 0
HeadPlaced p n (Ok h) = (h.at ≡ p) × (p + 16 ≤ n)
HeadPlaced p n (Err r) = Unit {0}

-- a head stands at or after byte p of a part of n bytes, and is inside it
pub record HeadFrom (p n : ℕ) (h : Head) : Type 0 where
  pub low : p ≤ h.at
  pub inside : h.at + 16 ≤ n

abbrev pub HeadFound : ℕ → ℕ → Result Head Refusal → Type 0
HeadFound p n (Ok h) = HeadFrom p n h
HeadFound p n (Err r) = Unit {0}

-- the rules on a code, on a length and on a serial, as the rules have them
abbrev pub codes_of : Code → ℕ → Bool
codes_of (Code.Is n) = λ c. eqb c n
codes_of Code.Makers = R.maker_code
codes_of Code.Any = λ _. true

abbrev pub fits_of : Fits → ℕ → ℕ → Bool
fits_of (Fits.Exactly n) = λ _. eqb n
fits_of (Fits.AtLeast n) = λ _. leb n
fits_of (Fits.Frame size filled) = λ multiplier n. eqb n size && R.padded multiplier (n - filled)

abbrev pub serial_of : Option ℕ → ℕ → Bool
serial_of None = λ _. true
serial_of (Some i) = eqb i

abbrev pub as_rule : Rule → R.Rule
as_rule r = record { code = codes_of r.code; most = r.most; fits = fits_of r.fits; serial = serial_of r.serial }

-- a maker's rule, with these codes and this largest multiplier
abbrev pub loose : (ℕ → Bool) → ℕ → R.Rule
loose codes most = record { code = codes; most = most; fits = λ _. leb 16; serial = λ _. true }

-- the rule of each kind
abbrev pub rule_of : Kind → R.Rule
rule_of (Kind.Recording label i) = R.recording_rule label i
rule_of Kind.Basic = R.basic_rule
rule_of (Kind.Channels code) = R.channels_rule code
rule_of (Kind.Channel code i) = R.channel_rule code i
rule_of (Kind.Items code) = R.items_rule code
rule_of (Kind.Frames label) = R.frames_rule label
rule_of (Kind.Frame label size filled i) = R.frame_rule label size filled i
rule_of (Kind.Maker label) = R.maker_rule label
rule_of Kind.Any = R.any_rule

-- what a record of each kind measures
abbrev pub Spans : Kind → ℕ → Type 0
Spans (Kind.Recording label i) n = 16 ≤ n
Spans Kind.Basic n = n ≡ 128
Spans (Kind.Channels code) n = 32 ≤ n
Spans (Kind.Channel code i) n = n ≡ 256
Spans (Kind.Items code) n = 24 ≤ n
Spans (Kind.Frames label) n = 32 ≤ n
Spans (Kind.Frame label size filled i) n = n ≡ size
Spans (Kind.Maker label) n = 16 ≤ n
Spans Kind.Any n = 16 ≤ n

-- a step goes on at byte q of a part that stands at `base`, or stops
abbrev pub stepped : ℕ → Result ℕ Refusal → Verdict (Unit {0})
stepped base (Ok q) = goes tt (base + q)
stepped base (Err r) = halts r

-- byte q is at or after byte p of a part of n bytes, and is inside it or its end
pub record From (p n q : ℕ) : Type 0 where
  pub low : p ≤ q
  pub inside : q ≤ n

abbrev pub Beyond : ℕ → ℕ → Result ℕ Refusal → Type 0
Beyond p n (Ok q) = From p n q
Beyond p n (Err r) = Unit {0}

-- a step that goes on d bytes after p, in a part of n bytes
abbrev pub Advances : ℕ → ℕ → ℕ → Result ℕ Refusal → Type 0
Advances p d n (Ok q) = (q ≡ p + d) × (q ≤ n)
Advances p d n (Err r) = Unit {0}

-- a head that is admitted, in a part of n bytes: q is where its record stops
abbrev pub admitted : Result ℕ Refusal → ℕ → Verdict (Unit {0})
admitted (Ok q) e = goes tt e
admitted (Err r) e = halts r

abbrev pub Fitting : Head → Fits → ℕ → Result ℕ Refusal → Type 0
Fitting h f n (Ok q) =
    (q ≡ h.at + R.length_of h.size h.multiplier) × (q ≤ n) × (fits_of f h.multiplier (R.length_of h.size h.multiplier) ≡ true)
Fitting h f n (Err r) = Unit {0}

abbrev pub Admits : Head → Kind → ℕ → Result ℕ Refusal → Type 0
Admits h k n (Ok q) = (q ≡ h.at + R.length_of h.size h.multiplier) × (q ≤ n) × Spans k (R.length_of h.size h.multiplier)
Admits h k n (Err r) = Unit {0}

-- tests that read nothing: the same wherever the walk stands
abbrev pub tested : Result (Unit {0}) Refusal → ℕ → Verdict (Unit {0})
tested (Ok tt) e = goes tt e
tested (Err r) e = halts r

-- tests, and a verdict that follows them
abbrev pub resumed : {A : Type 0} → Result (Unit {0}) Refusal → Verdict A → Verdict A
resumed (Ok tt) v = v
resumed (Err r) v = halts r

-- what the code keeps of a record 100 at this place
abbrev pub basic_of : R.Basic → Basic
basic_of b = record { channels = b.channels; frames = b.frames }

abbrev pub basiced : ℕ → Result Basic Refusal → Verdict Basic
basiced at (Ok x) = goes x (at + 128)
basiced at (Err r) = halts r

unfoldable pub ok_of : Holder → ℕ → Bool
ok_of Holder.Patient = R.patient_code
ok_of Holder.Event = R.event_code

-- the tests of a 100 at `at`, whose body is s, and a verdict that follows them: the form and the counts, the date, the time
abbrev pub counts_tested : Order → List ℕ → ℕ → Verdict R.Basic → Verdict R.Basic
counts_tested o s at K =
    gate (eqb 1 (number_at o 4 s 0))
    (gate (R.between 1 128 (number_at o 4 s 4))
    (gate (R.between 1 1_000_000 (number_at o 4 s 8)) K 13 (at + 24)) 13 (at + 20)) 13 (at + 16)

abbrev pub date_tested : Order → List ℕ → ℕ → Verdict R.Basic → Verdict R.Basic
date_tested o s at K =
    gate (leb (number_at o 4 s 16) 9999)
    (gate (R.dated (number_at o 4 s 16) 12 (number_at o 4 s 20))
    (gate (R.dated (number_at o 4 s 16) (R.days_in (number_at o 4 s 16) (number_at o 4 s 20)) (number_at o 4 s 24)) K 13 (at + 40)) 13 (at + 36)) 13 (at + 32)

abbrev pub time_tested : Order → List ℕ → ℕ → Verdict R.Basic → Verdict R.Basic
time_tested o s at K =
    gate (leb (number_at o 4 s 28) 23)
    (gate (leb (number_at o 4 s 32) 59)
    (gate (leb (number_at o 4 s 36) 59) K 13 (at + 52)) 13 (at + 48)) 13 (at + 44)

-- the tests of a sub at `at`, whose body is s, and a verdict that follows them: G1 and G2, where they are fields; and all
abbrev pub inputs_tested : R.Sub → Order → List ℕ → ℕ → Verdict (Unit {0}) → Verdict (Unit {0})
inputs_tested k o s at K = pick k.wired (gate (k.input (number_at o 4 s 88)) (gate (k.input (number_at o 4 s 92)) K 13 (at + 108)) 13 (at + 104)) K

abbrev pub sub_tested : R.Sub → Order → List ℕ → ℕ → Verdict (Unit {0}) → Verdict (Unit {0})
sub_tested k o s at K =
    gate (k.number (number_at o 4 s 0))
    (gate (k.type (number_at o 4 s 8))
    (gate (k.format (number_at o 4 s 12))
    (gate (k.rate (number_at o 4 s 4) (number_at o 4 s 8) (number_at o 4 s 16)) (inputs_tested k o s at K) 13 (at + 32)) 13 (at + 28)) 13 (at + 24)) 13 (at + 16)

-- what the functions promise. In each, `seen`: the answer is what the rules' walk comes to over the part s, which stands at `base` in the file;
-- `stands`: where the answer lies in the part

-- a record's head at byte p
pub record HeadAt (o : Order) (base : ℕ) (s : List ℕ) (p : ℕ) (a : Result Head Refusal) : Type 0 where
  pub seen : see o base s (base + p) (R.head (length s - p)) ≡ headed base a
  pub stands : HeadPlaced p (length s) a

-- the head of the first record from byte `from` on that is no maker's own
pub record NextHead (o : Order) (label : Label) (base : ℕ) (s : List ℕ) (from : ℕ) (a : Result Head Refusal) : Type 0 where
  pub seen : (fuel : ℕ) → length s < from + fuel → over headroom (see o base s (base + from) (R.next label fuel (length s - from))) ≡ nexted base (length s) a
  pub stands : HeadFound from (length s) a

-- a head, admitted by its kind's rule in a part of n bytes. The walk reads nothing, so it is the same over any bytes
pub record AdmittedBy (h : Head) (base n : ℕ) (kind : Kind) (a : Result ℕ Refusal) : Type 0 where
  pub seen : (o : Order) (b : ℕ) (s : List ℕ) → see o b s (base + (h.at + 16)) (R.admit_by (rule_of kind) (n - h.at) (head_of h)) ≡ admitted a (base + (h.at + 16))
  pub stands : Admits h kind n a

-- a step from byte p over what the walk w reads
pub record StepOver {A : Type 0} (o : Order) (base : ℕ) (s : List ℕ) (p : ℕ) (w : Walk A) (Stands : Result ℕ Refusal → Type 0) (a : Result ℕ Refusal) : Type 0 where
  pub seen : ends (see o base s (base + p) w) ≡ stepped base a
  pub stands : Stands a

-- a step from byte p over frames whose samples end at byte `filled` of each, for any T and channels that come to that
pub record FramesOver {A : Type 0} (o : Order) (base : ℕ) (s : List ℕ) (p filled : ℕ) (w : ℕ → List R.Channel → Walk A) (Stands : Result ℕ Refusal → Type 0) (a : Result ℕ Refusal) : Type 0 where
  pub seen : (t : ℕ) (cs : List R.Channel) → filled ≡ 24 + R.sample_bytes t cs → ends (see o base s (base + p) (w t cs)) ≡ stepped base a
  pub stands : Stands a

-- a record by its rule, up to its body: its head is read, has one of the rule's codes, and is admitted
unfoldable pub opened : R.Rule → ℕ → Walk R.Head
opened r room = do
  h ← R.head room
  R.coded_by r h
  R.admit_by r room h
  give h

abbrev pub opening : ℕ → Result (Head × ℕ) Refusal → Verdict R.Head
opening base (Ok (h, q)) = goes (head_of h) (base + (h.at + 16))
opening base (Err r) = halts r

-- the record with the head h, of this kind, in a part of n bytes
pub record Reaches (p : ℕ) (kind : Kind) (n : ℕ) (h : Head) (q : ℕ) : Type 0 where
  -- it stands at p
  pub at : h.at ≡ p
  -- and stops at q
  pub end : q ≡ p + R.length_of h.size h.multiplier
  pub inside : q ≤ n
  pub spans : Spans kind (R.length_of h.size h.multiplier)

abbrev pub Opens : ℕ → Kind → ℕ → Result (Head × ℕ) Refusal → Type 0
Opens p kind n (Ok (h, q)) = Reaches p kind n h q
Opens p kind n (Err r) = Unit {0}

-- a record of this kind at byte p, up to its body
pub record OpenAt (o : Order) (base : ℕ) (s : List ℕ) (p : ℕ) (kind : Kind) (a : Result (Head × ℕ) Refusal) : Type 0 where
  pub seen : see o base s (base + p) (opened (rule_of kind) (length s - p)) ≡ opening base a
  pub stands : Opens p kind (length s) a
