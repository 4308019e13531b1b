-- The records that stand directly in a recording's body, one after the other, up to its delimiter; and what the cursor says of the one at a byte.
-- Assumes nothing.
use Rattle.std.specs.Prelude.{Option, Some, None}
use Rattle.std.specs.Prelude.{◌≡◌, Bool, true, List, ◌++◌, ℕ, ◌+◌, ◌-◌, ◌≤◌, length}
use Rattle.words.specs.declared.Order.{Order}
use Rattle.walk.specs.Walk.{Row, Event, Walk, ◌>>◌, text}
use Rattle.walk.specs.See.{goes, see}
use Rattle.walk.specs.Tell.{tell}
use Rattle.walk.specs.Trace.{trace}
use Rattle.rules.specs.declared.Head as At
use Rattle.rules.specs.declared.Label.{Label}
use Rattle.rules.specs.Rules.{Head, Basic, Group, Channel, Placed, head, basic_rule, maker_rule, any_rule, admit_by, span, basic_body, channels, items, patient_code, event_code, frames, maker_code, delimiter, padding}
use Rattle.records.specs.Says.{head_of, CodeTells}

-- what a walk says on its way: the rows that it lists, and its events
pub record Said : Type 0 where
  pub rows : List Row
  pub events : List Event

unfoldable pub said : {A : Type 0} → Order → ℕ → List ℕ → ℕ → Walk A → Said
said o b s at w = record { rows = tell o b s at w; events = trace o b s at w }

infixr 5 ◌then◌
unfoldable pub ◌then◌ : Said → Said → Said
◌then◌ x y = record { rows = x.rows ++ y.rows; events = x.events ++ y.events }

-- the rest of a 100, and of a maker's record, whose head is read
abbrev pub basic_rest : ℕ → Head → Walk Basic
basic_rest room h = admit_by basic_rule room h >> basic_body

abbrev pub maker_rest : Label → ℕ → Head → Walk (List ℕ)
maker_rest label room h = admit_by (maker_rule label) room h >> text (span h - 16)

-- what a recording's 140 and its makers' records are read with: the file's label, and what its reading has
pub record Known : Type 0 where
  pub label : Label
  -- its 100
  pub basic : Basic
  -- whether it has a 120 or 320 of its own, and the channels that hold
  pub own : Bool
  pub channels : List Channel
  -- how far back 100's count of channels stands from its 140
  pub back : ℕ

abbrev pub known_of : Label → Placed → Known
known_of label x = record {
  label = label;
  basic = x.recording.basic;
  own = x.recording.own_channels;
  channels = x.recording.channels;
  back = x.layout.at140 - 20;
}

-- in the part s at b a head stands at byte p; the walk, begun behind it, accepts, and the two say l
module _ (o : Order) (b : ℕ) (s : List ℕ) (p : ℕ) where
  abbrev pub Heads : Head → Type 0
  Heads h = see o b s (b + p) (head (length s - p)) ≡ goes h (b + (p + 16))

  abbrev pub heading : Said
  heading = said o b s (b + p) (head (length s - p))

  pub record Reads {A : Type 0} (w : Walk A) (l : Said) : Type 0 where
    pub value : A
    pub end : ℕ
    pub is : see o b s (b + (p + 16)) w ≡ goes value end
    pub says : l ≡ heading then said o b s (b + (p + 16)) w

  -- a record that may stand in a recording, by its code
  pub data Inner (k : Known) (h : Head) (l : Said) : Type 0 where
    is100 : h.code ≡ 100 → Reads (basic_rest (length s - p) h) l → Inner k h l
    is_subs : (g : Group) → CodeTells g → h.code ≡ g.code → Reads (channels g (length s - p) h) l → Inner k h l
    is130 : h.code ≡ 130 → Reads (items patient_code (length s - p) h) l → Inner k h l
    is200 : h.code ≡ 200 → Reads (items event_code (length s - p) h) l → Inner k h l
    is140 : h.code ≡ 140 → Reads (frames k.label k.basic k.own k.channels k.back (length s - p) h) l → Inner k h l
    is_maker : maker_code h.code ≡ true → Reads (maker_rest k.label (length s - p) h) l → Inner k h l

  -- what a delimiter's head, and the padding behind it, say
  abbrev pub closing : Head → Said
  closing h = said o b s (b + (p + 16)) (delimiter h) then said o b s (b + (p + 16)) (padding (length s - p - 16))

  -- the delimiter, with what pads the recording
  pub record Closed (l : Said) : Type 0 where
    pub head : Head
    pub stands : Heads head
    pub ends : see o b s (b + (p + 16)) (delimiter head) ≡ goes tt (b + (p + 16))
    pub is : l ≡ heading then closing head

-- records one after the other from byte p on, each an I by its head and what it comes to, up to where E holds of what is left; x is all that they come to together
pub data Links (o : Order) (b : ℕ) (s : List ℕ) {X : Type 0} (join : X → X → X) (I : ℕ → Head → X → Type 0) (E : ℕ → X → Type 0) : ℕ → X → Type 0 where
  more : {p : ℕ} {x : X} (h : Head) (own rest : X) → Heads o b s p h → I p h own → Links o b s join I E (p + span h) rest → x ≡ join own rest → Links o b s join I E p x
  last : {p : ℕ} {x : X} → E p x → Links o b s join I E p x

-- the first of them: its head is h, and it ends at byte q
pub record Parted (o : Order) (b : ℕ) (s : List ℕ) {X : Type 0} (join : X → X → X) (I : ℕ → Head → X → Type 0) (E : ℕ → X → Type 0) (p : ℕ) (h : Head) (q : ℕ) (x : X) : Type 0 where
  pub own : X
  pub rest : X
  pub inner : I p h own
  pub on : Links o b s join I E q rest
  pub is : x ≡ join own rest

-- the records of a recording's body from byte p on, up to its delimiter, and all that they say
abbrev pub Chain : Order → ℕ → List ℕ → Known → ℕ → Said → Type 0
Chain o b s k = Links o b s ◌then◌ (λ p. Inner o b s p k) (Closed o b s)

-- the head h is admitted, whatever its serial: what every record meets but the delimiter
module _ (o : Order) (b : ℕ) (s : List ℕ) (p : ℕ) where
  abbrev pub AdmitsAny : Head → Type 0
  AdmitsAny h = see o b s (b + (p + 16)) (admit_by any_rule (length s - p) h) ≡ goes tt (b + (p + 16))

  -- a record other than the delimiter stands at byte p of the part s: h is its head as the code has it, and it ends at byte q
  pub record RecordAt (h : At.Head) (q : ℕ) : Type 0 where
    pub place : h.at ≡ p
    pub heads : Heads o b s p (head_of h)
    pub kind : h.code ≡ 0 → ⊥
    pub admits : AdmitsAny (head_of h)
    pub ends : q ≡ p + span (head_of h)
    -- its head is inside it, and it is inside the part
    pub least : p + 16 ≤ q
    pub inside : q ≤ length s

  -- none stands there
  pub record NoRecord : Type 0 where
    pub none : (h : Head) → Heads o b s p h → (h.code ≡ 0 → ⊥) → AdmitsAny h → ⊥

-- the cursor's answer at byte p of the part s, which stands at b
abbrev pub Visits : Order → ℕ → List ℕ → ℕ → Option (At.Head × ℕ) → Type 0
Visits o b s p (Some (h, q)) = RecordAt o b s p h q
Visits o b s p None = NoRecord o b s p
