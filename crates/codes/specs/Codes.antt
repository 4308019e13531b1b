-- What an event's code stands for: a kind that the standard publishes (000, A-5-2), a user's own, or reserved (document 02, request 7).
-- Assumes nothing.
use Rattle.rules.specs.declared.Refusal.{Refusal}
use Rattle.std.specs.Prelude.{Result, ◌≡◌, List, [], ◌∷◌, ℕ, ◌/◌, ◌%◌, leb, eqb}
use Rattle.walk.specs.Walk.{pick}
use Rattle.recordings.specs.Answers.{Answer, value, outside, indexed, meaning}
use Rattle.codes.specs.declared.EventKind.{EventKind}

-- a published code, and its kind
pub record Published : Type 0 where
  pub code : ℕ
  pub kind : EventKind

abbrev pub is : ℕ → EventKind → Published
is c k = record { code = c; kind = k }

-- the standard's table, in its order and by its hexadecimal column, which decides at the end of INST: the decimal one has 8 there
unfoldable pub published : List Published
published =
    is 0x0000 EventKind.None ∷
    is 0x0003 EventKind.RecordingStart ∷
    is 0x0002 EventKind.RecordingEnd ∷
    is 0x0005 EventKind.CalibrationStart ∷
    is 0x0004 EventKind.CalibrationEnd ∷
    is 0x0007 EventKind.InstStart ∷
    is 0x0006 EventKind.InstEnd ∷
    is 0x0102 EventKind.SleepAllowed ∷
    is 0x0104 EventKind.WakeCall ∷
    is 0x0106 EventKind.LightsOut ∷
    is 0x0108 EventKind.LightsOn ∷
    is 0x010a EventKind.MeasurementStopped ∷
    is 0x010c EventKind.MeasurementResumed ∷ []

-- the kind beside the code c in a table, or else this one
unfoldable pub kind_in : List Published → EventKind → ℕ → EventKind
kind_in [] other c = other
kind_in (p ∷ ps) other c = pick (eqb c p.code) p.kind (kind_in ps other c)

-- a user's own has bit 12 set, whatever the bits above it are
abbrev pub unpublished : ℕ → EventKind
unpublished c = pick (eqb (c / 4096 % 2) 1) EventKind.User EventKind.Reserved

abbrev pub kind_of : ℕ → EventKind
kind_of c = kind_in published (unpublished c) c

-- The question

-- a code has 16 bits
abbrev pub kind_told : ℕ → Answer EventKind
kind_told c = pick (leb c 65535) (value (kind_of c)) outside

abbrev pub KindAnswer : ℕ → Result EventKind Refusal → Type 0
KindAnswer c a = meaning a ≡ kind_told c

-- The same without a search

-- the code is not published
abbrev pub Unlisted : ℕ → Type 0
Unlisted c = (i : ℕ) (p : Published) → indexed published i ≡ value p → c ≡ p.code → ⊥

-- what document 02 says of the kind k of the code c
pub record KindIs (c : ℕ) (k : EventKind) : Type 0 where
  pub listed : (i : ℕ) (p : Published) → indexed published i ≡ value p → c ≡ p.code → k ≡ p.kind
  pub user : Unlisted c → c / 4096 % 2 ≡ 1 → k ≡ EventKind.User
  pub reserved : Unlisted c → (c / 4096 % 2 ≡ 1 → ⊥) → k ≡ EventKind.Reserved
