-- What is written of a record that stands in a recording: of its body by its code, and of all of it.
-- Assumes nothing.
use Rattle.std.specs.Prelude.{◌≡◌, Bool, true, List, ℕ, ◌+◌, ◌≤◌, length}
use Rattle.walk.specs.See.{goes, see}
use Rattle.walk.specs.Trace.{written}
use Rattle.walk.specs.Walk.{Walk}
use Rattle.rules.specs.Rules.{Group, span, basic_body, channels_body, items_body, maker_code}
use Rattle.rules.specs.declared.Head.{Head}
use Rattle.records.specs.Says.{head_of, is_group, shape_of, HasShape}
use Rattle.children.specs.Children.{Said, Known, Inner}
use Rattle.bodies.specs.Copy.{copy, Pastes}
use Rattle.bodies.specs.declared.Way.{Way}

-- what the code asks: q is a place in the part s, and k one in the buffer
pub record PlacesIn (s : List ℕ) (q : ℕ) (out : List ℕ) (k : ℕ) : Type 0 where
  -- what is read stands before it, or from it on
  pub source : q ≤ length s
  -- the next bytes go there
  pub target : k ≤ length out

-- a record from byte p up to q of the part s, which goes to byte k of the buffer
pub record RecordFrom (s : List ℕ) (p q : ℕ) (out : List ℕ) (k : ℕ) : Type 0 where
  -- with its head
  pub headed : p + 16 ≤ q
  pub inside : q ≤ length s
  -- the next bytes go there
  pub target : k ≤ length out

-- what is said, written anew
abbrev pub anew : Way → Said → List ℕ
anew w l = written w.keep w.to l.events

-- d is the body s, written anew as the walk reads it
abbrev pub Anew : {A : Type 0} → Way → List ℕ → List ℕ → Walk A → Type 0
Anew {A} w s d v = (b : ℕ) (a : A) (e : ℕ) → see w.from b s b v ≡ goes a e → d ≡ copy w b s b v

-- d is the body s of a 130 or a 200, which has room for its count and its reserve
abbrev pub Itemized : Way → List ℕ → List ℕ → Type 0
Itemized w s d = 8 ≤ length s → (ok : ℕ → Bool) → Anew w s d (items_body ok (16 + length s))

-- d is the body s of a record with this code, written anew: each kind by its own walk, a maker's as it stands
pub record Bodied (w : Way) (code : ℕ) (s d : List ℕ) : Type 0 where
  pub basic : code ≡ 100 → length s ≡ 112 → Anew w s d basic_body
  pub channels : is_group code ≡ true → (g : Group) → HasShape g.sub (shape_of code) → Anew w s d (channels_body g (16 + length s))
  pub patient : code ≡ 130 → Itemized w s d
  pub events : code ≡ 200 → Itemized w s d
  pub maker : maker_code code ≡ true → d ≡ s

-- all that a record says is written from k on, where there is room, and the next bytes go at k'
abbrev pub Copied : Way → Said → List ℕ → List ℕ → ℕ → ℕ → Type 0
Copied w l out out' k k' = Pastes out out' k k' (anew w l)

-- the record with the code's head h, which ends at byte q, if it stands in a recording and is no 140
pub record Transcribed (w : Way) (s : List ℕ) (h : Head) (q : ℕ) (out out' : List ℕ) (k k' : ℕ) : Type 0 where
  pub inside : k' ≤ length out
  pub wrote : (b : ℕ) (known : Known) (l : Said) → q ≡ h.at + span (head_of h) → (h.code ≡ 140 → ⊥) → Inner w.from b s h.at known (head_of h) l →
      Copied w l out out' k k'
