-- The answer of `table` is the one that the rules fix for the file and the buffer; and only one answer and one buffer meet its contract.
-- Assumes nothing.
use Rattle.std.proofs.Common.{Result, Ok, Err}
use Rattle.rules.specs.declared.Refusal.{Refusal}
use Rattle.rules.specs.declared.Reason.TheVariants as Reason
use mathlib.Core.Path.{◌≡◌, refl, sym, ap, ◌∙◌}
use mathlib.Core.Bool.{Bool, true, false}
use mathlib.Core.List.{List}
use Prim.Native.Nat.{ℕ, ◌*◌, ◌/◌, ◌≤◌, ◌<◌}
use native.Mathlib.Omega.{arith}
use borrow.Author.Tests.{le-leb, lt-leb}
use lib.IntN.{ℤ}
use lib.ListN.{length}
use Rattle.words.specs.Lent as Lent
use Rattle.walk.specs.Walk as W
use Rattle.walk.specs.Walk.{Row, refused}
use Rattle.walk.proofs.Apart.{zero_one, false-true}
use Rattle.walk.proofs.Unique.{one}
use Rattle.rules.specs.Rules as R
use Rattle.rules.specs.declared.FileHeader.{FileHeader}
use Rattle.rules.specs.Reasons.{number_of, refusal_of}
use Rattle.rules.proofs.Reasons.{refusal-is}
use Rattle.judge.specs.Judged.{AcceptedAs}
use Rattle.judge.proofs.Accepted.{went, listed}
use Rattle.children.specs.Recordings.{OfFile}
use Rattle.rows.specs.Rows.{written}
use Rattle.rows.specs.Listing.{Wrote}
use Rattle.table.specs.Table.{Answer, rows, refusal, meaning, counted, kept, Lists}

-- an answer is no refusal
pub rows-refusal : {X : Type 0} {n m p : ℕ} → rows n ≡ refusal m p → X
rows-refusal h = zero_one (cc)

-- a file that is refused
pub lists-refused : (s : List ℕ) (out : List ℤ) (r : Refusal) → R.judge s ≡ refused (number_of r.0) r.1 → Lists s out out (Err r)
lists-refused s out r h = record { answer = rw h; buffer = rw h }

-- rows that were counted and found to have no room, and rows that were written
counted-short : (rs : List Row) (room : ℕ) → room < 4 * length rs → refusal 17 (4 * length rs) ≡ counted rs room
counted-short rs room h = rw (lt-leb (4 * length rs) room h)

kept-short : (rs : List Row) (out : List ℤ) → length out < 4 * length rs → out ≡ kept rs out
kept-short rs out h = rw (lt-leb (4 * length rs) (length out) h)

counted-room : (rs : List Row) (room : ℕ) → 4 * length rs ≤ room → rows (length rs) ≡ counted rs room
counted-room rs room h = rw (le-leb (4 * length rs) room h)

kept-room : (rs : List Row) (out : List ℤ) → 4 * length rs ≤ length out → written true out 0 rs ≡ kept rs out
kept-room rs out h = rw (le-leb (4 * length rs) (length out) h)

-- a file that is accepted
module _ (s : List ℕ) (h : FileHeader) (x : AcceptedAs s h) where
  -- what the code wrote is its rows
  wrote-listed : (w : Bool) (out out' : List ℤ) (k : ℕ) → OfFile h.order s h.count (Wrote w out out' 0 k) → Wrote w out out' 0 k (W.rows 0 x.events)
  wrote-listed w out out' k wrote = rw (listed s h x) (wrote h.heading.label x.file.recordings (length s) (went s h x))

  module _ (out out₁ : List ℤ) (need : ℕ) (first : OfFile h.order s h.count (Wrote false out out₁ 0 need)) where
    -- counting leaves the buffer as it was
    needs : need ≡ 4 * length (W.rows 0 x.events)
    needs = omega (arith, (wrote-listed false out out₁ need first).next)

    leaves : out₁ ≡ out
    unfolding Lent.written
    leaves = (wrote-listed false out out₁ need first).holds false-true

    pub lists-short : length out₁ < need → Lists s out out₁ (Err (record { 0 = Reason.Room; 1 = need }))
    lists-short l =
        let i : length out₁ ≡ length out = ap length leaves in
        record {
          answer = rw (x.judged, needs) (counted-short (W.rows 0 x.events) (length out) (omega (arith, needs)));
          buffer = rw (x.judged, leaves) (kept-short (W.rows 0 x.events) out (omega (arith, needs)));
        }

    pub lists-rows : (out₂ : List ℤ) (n : ℕ) → need ≤ length out₁ → OfFile h.order s h.count (Wrote true out₁ out₂ 0 n) → Lists s out out₂ (Ok (n / 4))
    lists-rows out₂ n l second =
        let i : length out₁ ≡ length out = ap length leaves in
        let w = wrote-listed true out₁ out₂ n second in
        let d : n / 4 ≡ length (W.rows 0 x.events) = omega (arith, w.next) in
        let b : out₂ ≡ written true out₁ 0 (W.rows 0 x.events) = w.holds (λ _. omega (arith, needs)) in
        record {
          answer = rw (x.judged, d) (counted-room (W.rows 0 x.events) (length out) (omega (arith, needs)));
          buffer = rw (x.judged, b, leaves) (kept-room (W.rows 0 x.events) out (omega (arith, needs)));
        }

-- an answer of the code, from what it means
abbrev again : Answer → Result ℕ Refusal
again (rows n) = Ok n
again (refusal n p) = Err (refusal_of n p)

back : (a : Result ℕ Refusal) → again (meaning a) ≡ a
back (Ok n) = refl
back (Err r) = ap Err (sym (refusal-is r refl refl))

-- one answer and one buffer for every file and every buffer
pub table-unique : (s : List ℕ) (out out₁ out₂ : List ℤ) (a b : Result ℕ Refusal) → Lists s out out₁ a → Lists s out out₂ b → (a ≡ b) × (out₁ ≡ out₂)
table-unique s out out₁ out₂ a b x y = (one meaning again back x.answer y.answer, x.buffer ∙ sym y.buffer)
