-- How much room to reserve for a rewrite, before its length is known: what `room` answers, and when the file's own length is enough.
-- Assumes nothing.
use Rattle.std.specs.Prelude.{Result}
use Rattle.rules.specs.declared.Refusal.{Refusal}
use Rattle.std.specs.Prelude.{◌≡◌, List, [], ◌∷◌, ℕ, ◌+◌, ◌*◌, ◌≤◌, length}
use Rattle.walk.specs.Walk.{Outcome, refused, passed}
use Rattle.rules.specs.Rules as R
use Rattle.rules.specs.Canonical as C
use Rattle.rules.specs.declared.Label.{Label}
use Rattle.permit.specs.Permit.{Answer, bytes, refusal, meaning}

-- bytes for each recording, beyond the file's length
abbrev pub reserve : ℕ
reserve = 254

-- by the rules' outcome for a file of so many bytes: the bytes to reserve, or the refusal
abbrev pub room_in : Outcome R.File → ℕ → Answer
room_in (refused n p) size = refusal n p
room_in (passed v r t) size = bytes (size + reserve * length v.recordings)

abbrev pub room_of : List ℕ → Answer
room_of s = room_in (R.judge s) (length s)

-- what `room` answers
abbrev pub RoomAnswer : List ℕ → Result ℕ Refusal → Type 0
RoomAnswer s a = meaning a ≡ room_of s

-- how long the canonical form of a recording is, in a file with this label
abbrev pub canonical_length : Label → R.Recording → ℕ
canonical_length label r = R.span (C.recording_head label 1 r)

-- this holds of each recording
abbrev pub Each : (R.Recording → Type 0) → List R.Placed → Type 0
Each P [] = Unit {0}
Each P (x ∷ xs) = P x.recording × Each P xs

-- no recording's canonical length exceeds 2,147,483,647: none needs a multiplier
abbrev pub ShortAnew : R.File → Type 0
ShortAnew v = Each (λ r. canonical_length v.heading.label r ≤ C.most) v.recordings
