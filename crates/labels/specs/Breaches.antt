-- The places where a file of 000300 breaks the rules of another version, from the events of that file, in file order.
-- Assumes nothing.
use Rattle.std.specs.Prelude.{Bool, false, ◌&&◌, ◌||◌, not, List, [], ◌∷◌, ◌++◌, ℕ, suc, ◌+◌, ◌-◌, leb, eqb, get_or}
use Rattle.walk.specs.Faults.{Fault, piece_of, behind}
use Rattle.walk.specs.Walk.{pick, Event, numeral, piece, blank, row, size}
use Rattle.rules.specs.Rules.{same_bytes, allows, formed, multiplier_back, code_back}
use Rattle.rules.specs.declared.Form.TheVariants as Form
use Rattle.rules.specs.declared.Version.{Version}

-- what was read before: whether the place for the recording's event table lies behind, the number read last, the code of the record listed last,
-- and how many numbers were read since
pub record Before : Type 0 where
  pub table : Bool
  pub last : ℕ
  pub code : ℕ
  pub count : ℕ

-- the records that stand behind that place
abbrev pub behind_table : ℕ → Bool
behind_table c = eqb c 350 || eqb c 140

-- a recording's 10 begins anew; its 200, and a 350 or a 140, lie at that place or behind it
abbrev pub step : Before → Event → Before
step S (numeral w v) = record { table = S.table; last = v; code = S.code; count = suc S.count }
step S (piece k bs) = S
step S (blank bs) = S
step S (row p n c s) = record { table = eqb c 200 || behind_table c || (not (eqb c 10) && S.table); last = S.last; code = c; count = 0 }

-- a breach, unless the rule is kept
abbrev pub unless : Bool → ℕ → ℕ → List Fault
unless c n p = pick c [] (record { number = n; place = p } ∷ [])

-- the number that is read next is number i of a 125 or a 325: 2 is the type, 3 the format
abbrev pub of_channel : ℕ → Before → Bool
of_channel i S = (eqb S.code 125 || eqb S.code 325) && eqb S.count i

-- a channel's type and format, where they stand; where a record is listed, its 16 bytes lie behind: a 350 or a 140 in the place of the event
-- table, and the multiplier, which is the number read last
unfoldable pub broken : Version → Before → ℕ → Event → List Fault
broken w S at (numeral n v) =
    unless (not (of_channel 2 S) || ((allows w).twenty || not (eqb v 20))) 13 at ++
    unless (not (of_channel 3 S) || leb v (allows w).format) 13 at
broken w S at (piece k bs) = []
broken w S at (blank bs) = []
broken w S at (row p n c s) =
    unless (not (behind_table c) || ((allows w).eventless || S.table)) 9 (at - code_back) ++
    unless (leb S.last (allows w).multiplier) 11 (at - multiplier_back)

-- record by record, from a position on
unfoldable pub breaches_in : Version → Before → ℕ → List Event → List Fault
breaches_in w S at [] = []
breaches_in w S at (v ∷ t) = broken w S at v ++ breaches_in w (step S v) (at + size (v ∷ [])) t

-- nothing was read before
abbrev pub start : Before
start = record { table = false; last = 0; code = 0; count = 0 }

-- form 01 where it is not allowed, at byte 14
abbrev pub of_form : Version → List ℕ → List Fault
of_form w form = unless ((allows w).electrodes || not (same_bytes form (formed Form.Electrodes))) 4 14

-- script U where it is not allowed, at byte 17
abbrev pub of_script : Version → ℕ → List Fault
of_script w script = unless ((allows w).unicode || not (eqb script 85)) 6 17

-- the header's form: the third event
abbrev pub form_read : List Event → List ℕ
form_read t = piece_of (behind (behind t))

-- the header's script letter: the fifth event
abbrev pub script_read : List Event → ℕ
script_read t = get_or (piece_of (behind (behind (behind (behind t))))) 0 0

-- the header, then the records
abbrev pub breaches_of : Version → List Event → List Fault
breaches_of w t = of_form w (form_read t) ++ (of_script w (script_read t) ++ breaches_in w start 0 t)
