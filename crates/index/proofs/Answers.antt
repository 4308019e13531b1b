-- The answer of `index` is the one that the rules fix for the file and the buffer; and only one answer and one buffer meet its contract.
-- Assumes nothing.
use Rattle.recordings.proofs.Answers.{meaning-one}
use Rattle.std.proofs.Common.{Result, Ok, Err}
use Rattle.rules.specs.declared.Refusal.{Refusal}
use Rattle.rules.specs.declared.Reason.TheVariants as Reason
use mathlib.Core.Path.{◌≡◌, refl, sym, ap, ◌∙◌}
use mathlib.Core.Bool.{true, false}
use mathlib.Core.List.{List}
use Prim.Native.Nat.{ℕ, ◌*◌, ◌/◌, ◌≤◌, ◌<◌}
use native.Mathlib.Omega.{arith}
use borrow.Author.Tests.{le-leb, lt-leb}
use lib.IntN.{ℤ}
use lib.ListN.{length}
use Rattle.words.specs.Lent.{written, Wrote}
use Rattle.walk.specs.Walk.{refused}
use Rattle.walk.proofs.Apart.{false-true}
use Rattle.walk.proofs.Unique.{one}
use Rattle.rules.specs.Rules as R
use Rattle.rules.specs.declared.FileHeader.{FileHeader}
use Rattle.rules.specs.Reasons.{number_of, refusal_of}
use Rattle.rules.proofs.Reasons.{refusal-is}
use Rattle.judge.specs.Judged.{AcceptedAs}
use Rattle.recordings.specs.Answers.{Answer, value, refusal}
use Rattle.index.specs.Events.{Entry, entries}
use Rattle.index.specs.Index.{numbers, entries_of, Indexes}

-- a file that is refused
pub indexes-refused : (s : List ℕ) (out : List ℤ) (r : Refusal) → R.judge s ≡ refused (number_of r.0) r.1 → Indexes s out out (Err r)
indexes-refused s out r h = record { answer = rw h; buffer = rw h }

-- a file that is accepted
module _ (s : List ℕ) (h : FileHeader) (x : AcceptedAs s h) (out out₁ : List ℤ) (need : ℕ)
    (first : Wrote numbers 5 false out out₁ 0 need (entries_of s (R.judge s))) where
  abbrev es : List Entry
  es = entries s (R.contents x.file)

  listed : Wrote numbers 5 false out out₁ 0 need es
  listed = rw x.judged at first

  -- counting leaves the buffer as it was
  needs : need ≡ 5 * length es
  needs = omega (arith, listed.next)

  leaves : out₁ ≡ out
  unfolding written
  leaves = listed.holds false-true

  pub indexes-short : length out₁ < need → Indexes s out out₁ (Err (record { 0 = Reason.Room; 1 = need }))
  indexes-short l =
      let i : length out₁ ≡ length out = ap length leaves in
      let e = lt-leb (5 * length es) (length out) (omega (arith, needs)) in
      record { answer = rw (x.judged, e, needs); buffer = rw (x.judged, e, leaves) }

  pub indexes-entries : (out₂ : List ℤ) (n : ℕ) → need ≤ length out₁ → Wrote numbers 5 true out₁ out₂ 0 n (entries_of s (R.judge s)) →
      Indexes s out out₂ (Ok (n / 5))
  indexes-entries out₂ n l second =
      let i : length out₁ ≡ length out = ap length leaves in
      let e = le-leb (5 * length es) (length out) (omega (arith, needs)) in
      let y : Wrote numbers 5 true out₁ out₂ 0 n es = rw x.judged at second in
      let d : n / 5 ≡ length es = omega (arith, y.next) in
      let b : out₂ ≡ written numbers 5 true out₁ 0 es = y.holds (λ _. omega (arith, needs)) in
      record { answer = rw (x.judged, e, d); buffer = rw (x.judged, e, b, leaves) }

-- one answer and one buffer for every file and every buffer
pub index-unique : (s : List ℕ) (out out₁ out₂ : List ℤ) (a b : Result ℕ Refusal) → Indexes s out out₁ a → Indexes s out out₂ b → (a ≡ b) × (out₁ ≡ out₂)
index-unique s out out₁ out₂ a b x y = (meaning-one a b x.answer y.answer, x.buffer ∙ sym y.buffer)
