-- The first maker's record of a recording, and of all recordings of a file, from what the code found in each.
-- Assumes nothing.
use Rattle.std.proofs.Common.{Some, None}
use Rattle.std.specs.Prelude as Std
use mathlib.Core.Path.{◌≡◌, sym, ap, ◌∙◌}
use mathlib.Core.Bool.{false}
use mathlib.Core.List.{List}
use mathlib.Core.Option.{Option, none}
use Prim.Native.Nat.{ℕ, ◌+◌, ◌≤◌, ◌<◌}
use lib.ListN.{length}
use Rattle.words.specs.declared.Order.{Order}
use Rattle.rules.specs.declared.Head as At
use Rattle.rules.specs.declared.Label.{Label}
use Rattle.rules.specs.Rules.{Held, Placed, maker_code}
use Rattle.children.specs.Children.{Said, said, ◌then◌, RecordAt}
use Rattle.children.specs.Recordings.{OfBody, OfRecording, rows_of}
use Rattle.children.proofs.Recordings.{body_of, within, recording-ends, Sofar, sofar-next, sofar-end}
use Rattle.makers.specs.Makers.{first_maker}
use Rattle.makers.specs.Search.{found, First}
use Rattle.makers.proofs.Search.{first_some, first-append, first-row}

-- the recording that the cursor found at p is no maker's record: the first is that of its body
pub finds-recording : {o : Order} {s : List ℕ} {p : ℕ} {h : At.Head} {q : ℕ} → RecordAt o 0 s p h q → (r : Std.Option ℕ) → OfBody o (p + 16) (body_of s p q) (First r) → OfRecording o s p q (First r)
unfolding maker_code
finds-recording {o} {s} {p} {h} {q} v r finds label held i x e g =
    let m : e ≡ q = recording-ends v label held i g in
    let y = within o label s p q held i (rw m at g) in
    let c : maker_code y.top.code ≡ false = rw y.kind in
    record { ends = m; holds = finds label held y.top x q y.fills y.body ∙ sym (ap first_maker y.rows ∙ first-row _ _ c) }

-- no maker's record stands in the recordings that are passed
abbrev pub Clear : Option Held → List Placed → Said → Type 0
Clear _ _ l = first_maker l.rows ≡ none

module _ {o : Order} {label : Label} {s : List ℕ} {count : ℕ} {ps : List Placed} {p i : ℕ} where
  pub clear-end : Sofar o label s count ps p i Clear → count ≤ i → none ≡ first_maker (rows_of o label s count)
  unfolding said
  clear-end g few = sym (sofar-end g few)

  -- r is what was found in the next recording, which ends at q
  module _ (g : Sofar o label s count ps p i Clear) (many : i < count) (fit : p ≤ length s) (r : Std.Option ℕ) (q : ℕ) (finds : OfRecording o s p q (First r)) where
    next : Sofar o label s count ps q (i + 1) (λ _ _ l. first_maker l.rows ≡ found r)
    unfolding said ◌then◌
    next =
        sofar-next g many fit
        (λ x e h. let u = finds label g.at.held (i + 1) x e h in record { ends = u.ends; holds = rw (first-append, g.is) (sym u.holds) })

    -- it is the first of all, whatever follows
    pub clear-found : {k : ℕ} → r ≡ Some k → found r ≡ first_maker (rows_of o label s count)
    unfolding said ◌then◌
    clear-found e = sym (ap (λ (l : Said). first_maker l.rows) next.at.says ∙ rw (first-append, next.is) (first_some (found r) _ (ap found e)))

    pub clear_next : r ≡ None → Sofar o label s count ps q (i + 1) Clear
    clear_next e = record { at = next.at; is = next.is ∙ ap found e }
