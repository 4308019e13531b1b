-- The recordings of a file, which stand one after the other behind its header.
-- Assumes nothing.
use Rattle.std.specs.Prelude.{◌≡◌, List, ℕ, ◌+◌, ◌-◌, length}
use Rattle.std.proofs.Math.Option.{Option, none}
use Rattle.words.specs.declared.Order.{Order}
use Rattle.walk.specs.Walk.{Row, Walk}
use Rattle.walk.specs.See.{goes, see}
use Rattle.walk.specs.Tell.{tell}
use Rattle.rules.specs.Rules.{Head, Held, Placed, span, recording_body, recording, recordings}
use Rattle.rules.specs.declared.Label.{Label}

-- the walk over all recordings of the file s, which are so many
abbrev pub all_of : Label → ℕ → List ℕ → Walk (List Placed)
all_of label count s = recordings label count none (length s - 32) 1

-- the file's recordings are read as ps, up to byte e
abbrev pub ReadAs : Order → Label → List ℕ → ℕ → List Placed → ℕ → Type 0
ReadAs o label s count ps e = see o 0 s 32 (all_of label count s) ≡ goes ps e

-- the rows that they list
abbrev pub rows_of : Order → Label → List ℕ → ℕ → List Row
rows_of o label s count = tell o 0 s 32 (all_of label count s)

-- P holds of the rows of the part s at b, where it is read as the body of a recording of that length
abbrev pub OfBody : Order → ℕ → List ℕ → (List Row → Type 0) → Type 0
OfBody o b s P = (label : Label) (held : Option Held) (h : Head) (x : Placed) (e : ℕ) →
    span h ≡ 16 + length s → see o b s b (recording_body label held h) ≡ goes x e → P (tell o b s b (recording_body label held h))

-- a recording that is read up to byte e was found to end at q, and P holds of its rows
pub record UpTo (e q : ℕ) (P : Type 0) : Type 0 where
  pub ends : e ≡ q
  pub holds : P

-- where a recording of the file s is read from byte p on, it ends at q and P holds of its rows
abbrev pub OfRecording : Order → List ℕ → ℕ → ℕ → (List Row → Type 0) → Type 0
OfRecording o s p q P = (label : Label) (held : Option Held) (i : ℕ) (x : Placed) (e : ℕ) → see o 0 s p (recording label held (length s - p) i) ≡ goes x e →
    UpTo e q (P (tell o 0 s p (recording label held (length s - p) i)))

-- P holds of the rows of the file s, where its recordings are read
abbrev pub OfFile : Order → List ℕ → ℕ → (List Row → Type 0) → Type 0
OfFile o s count P = (label : Label) (ps : List Placed) (e : ℕ) → ReadAs o label s count ps e → P (rows_of o label s count)
