-- A call that writes or refuses has one answer and leaves one buffer; what its leave to write says.
-- Assumes nothing.
use Rattle.std.proofs.Common.{Result, Ok, Err}
use Rattle.rules.specs.declared.Refusal.{Refusal}
use mathlib.Core.Path.{◌≡◌, refl, sym, ap, ◌∙◌}
use Rattle.rules.specs.Reasons.{refusal_of}
use Rattle.rules.proofs.Reasons.{refusal-is}
use mathlib.Core.Bool.{Bool, true, false}
use mathlib.Core.List.{List}
use mathlib.Core.Option.{Option, none, some}
use Prim.Native.Nat.{ℕ, ◌≤◌}
use native.Mathlib.Nat.{zero-add}
use native.Mathlib.Omega.{arith}
use borrow.Author.Tests.{le-leb, leb-true}
use lib.Dec.{leb}
use lib.ListN.{length, take, drop}
use Rattle.words.specs.Runs.{pasted}
use Rattle.words.proofs.Runs.{take-pasted, drop-pasted}
use Rattle.walk.specs.Walk.{pick}
use Rattle.walk.proofs.Apart.{zero_one}
use Rattle.walk.proofs.Unique.{one}
use Rattle.permit.specs.Permit.{Answer, bytes, refusal, meaning, permitted, Writes}

-- an answer is no refusal
pub bytes-refusal : {X : Type 0} {n m p : ℕ} → bytes n ≡ refusal m p → X
bytes-refusal h = zero_one (cc)

-- an answer of the code, from what it means
abbrev again : Answer → Result ℕ Refusal
again (bytes n) = Ok n
again (refusal n p) = Err (refusal_of n p)

back : (a : Result ℕ Refusal) → again (meaning a) ≡ a
back (Ok n) = refl
back (Err r) = ap Err (sym (refusal-is r refl refl))

-- one answer, and one buffer
pub writes-unique : (x : Answer) (xs out out₁ out₂ : List ℕ) (a b : Result ℕ Refusal) → Writes x xs out out₁ a → Writes x xs out out₂ b → (a ≡ b) × (out₁ ≡ out₂)
writes-unique x xs out out₁ out₂ a b u v = (one meaning again back u.answer v.answer, u.buffer ∙ sym v.buffer)

-- leave to write: the bytes needed, and room for them
pub permit-room : (made : Option ℕ) (n room : ℕ) {k : ℕ} → bytes k ≡ permitted made n room → (k ≡ n) × (n ≤ room)
permit-room (some p) n room h = bytes-refusal h
permit-room none n room h = on (leb n room) refl h
  where
    on : {k : ℕ} (b : Bool) → leb n room ≡ b → bytes k ≡ pick b (bytes n) (refusal 17 n) → (k ≡ n) × (n ≤ room)
    on true e h = (cc, leb-true n room e)
    on false e h = bytes-refusal h

-- no maker's record in the way, and room: the bytes needed
pub permit-bytes : (n room : ℕ) → n ≤ room → permitted none n room ≡ bytes n
permit-bytes n room l = rw (le-leb n room l)

-- a refusal leaves the buffer
pub stopped : (x : Answer) (xs out : List ℕ) (a : Result ℕ Refusal) {n p : ℕ} → meaning a ≡ x → meaning a ≡ refusal n p → Writes x xs out out a
stopped x xs out a h e = record { answer = h; buffer = rw (← h, e) refl }

-- bytes are written from its start on
pub wrote : (x : Answer) (xs out out' : List ℕ) (a : Result ℕ Refusal) {n : ℕ} → meaning a ≡ x → meaning a ≡ bytes n → out' ≡ pasted out 0 xs → Writes x xs out out' a
wrote x xs out out' a h e w = record { answer = h; buffer = w ∙ rw (← h, e) refl }

-- the bytes xs stand in front, and those beyond them are as they were
pub writes_bytes : (n : ℕ) (xs out out' : List ℕ) (a : Result ℕ Refusal) → length xs ≡ n → Writes (bytes n) xs out out' a → (a ≡ Ok n) × (take n out' ≡ xs) × (drop n out' ≡ drop n out)
writes_bytes n xs out out' a e w = (
  one meaning again back w.answer refl,
  rw (w.buffer, ← e) (rw zero-add at (take-pasted out 0 xs (omega arith))),
  rw (w.buffer, ← e) (rw zero-add at (drop-pasted out 0 xs (omega arith))),
)
