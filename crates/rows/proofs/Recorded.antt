-- The rows of a recording, and of all recordings of a file, from what the code wrote for each.
-- Assumes nothing.
use mathlib.Core.Path.{◌≡◌}
use mathlib.Core.Bool.{Bool}
use mathlib.Core.List.{List, [], ◌∷◌}
use mathlib.Core.Option.{Option}
use Prim.Native.Nat.{ℕ, ◌+◌, ◌-◌, ◌≤◌, ◌<◌}
use native.Mathlib.Omega.{arith}
use lib.IntN.{ℤ}
use lib.ListN.{length}
use Rattle.words.specs.declared.Order.{Order}
use Rattle.rules.specs.declared.Head as At
use Rattle.rules.specs.declared.Label.{Label}
use Rattle.rules.specs.Rules.{Held, Placed, span}
use Rattle.records.specs.Says.{head_of}
use Rattle.children.specs.Children.{Said, said, ◌then◌, RecordAt}
use Rattle.children.specs.Recordings.{OfBody, OfRecording}
use Rattle.children.proofs.Recordings.{body_of, within, recording-ends, recording-head, Sofar, sofar-next}
use Rattle.rows.specs.Listing.{Wrote}
use Rattle.rows.proofs.Written.{wrote-join}

-- the row of the recording that the cursor found at p, and those of its body
module _ {o : Order} {s : List ℕ} {p : ℕ} {h : At.Head} {q : ℕ} (v : RecordAt o 0 s p h q) {w : Bool} {out out₁ out₂ : List ℤ} {k k₁ k₂ : ℕ} where
  pub wrote-recording : Wrote w out out₁ k k₁ (record { start = p; size = q - p; code = h.code; serial = h.serial } ∷ []) → OfBody o (p + 16) (body_of s p q) (Wrote w out₁ out₂ k₁ k₂) → OfRecording o s p q (Wrote w out out₂ k k₂)
  wrote-recording first body label held i x e g =
      let m : e ≡ q = recording-ends v label held i g in
      let y = within o label s p q held i (rw m at g) in
      let l : q - p ≡ span (head_of h) = omega (arith, v.ends) in
      let f : Wrote w out out₁ k k₁ (record { start = p; size = span y.top; code = y.top.code; serial = y.top.serial } ∷ []) = rw (recording-head v label held i y) (rw l at first) in
      record { ends = m; holds = rw y.rows (wrote-join w out out₁ out₂ k k₁ k₂ _ _ f (body label held y.top x q y.fills y.body)) }

-- the recordings that are passed are listed
abbrev pub Listed : Bool → List ℤ → List ℤ → ℕ → Option Held → List Placed → Said → Type 0
Listed w out out' k _ _ l = Wrote w out out' 0 k l.rows

-- and the one that the code wrote next
module _ {o : Order} {label : Label} {s : List ℕ} {w : Bool} {count : ℕ} {out out' : List ℤ} {ps : List Placed} {p k i : ℕ} where
  pub listed_next : {out'' : List ℤ} {p' k' : ℕ} → Sofar o label s count ps p i (Listed w out out' k) → i < count → p ≤ length s → OfRecording o s p p' (Wrote w out' out'' k k') → Sofar o label s count ps p' (i + 1) (Listed w out out'' k')
  unfolding said ◌then◌
  listed_next {out''} {k' = k'} g many fit wrote =
      sofar-next g many fit
      (λ x e h. let u = wrote label g.at.held (i + 1) x e h in record { ends = u.ends; holds = wrote-join w out out' out'' 0 k k' g.at.tells.rows _ g.is u.holds })
