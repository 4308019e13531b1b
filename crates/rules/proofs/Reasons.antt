-- The reasons to refuse and their numbers are one to one. Assumes nothing.
use mathlib.Core.Path.{◌≡◌, refl, sym, ap, ◌∙◌}
use Prim.Native.Nat.{ℕ, zero, suc, ◌≤◌}
use native.Mathlib.Omega.{arith}
use Rattle.rules.specs.declared.Reason.{Reason}
use Rattle.rules.specs.declared.Reason.TheVariants as Reason
use Rattle.rules.specs.declared.Refusal.{Refusal}
use Rattle.rules.specs.Reasons.{number_of, reason_of, refusal_of}

pub reason-again : (k : Reason) → reason_of (number_of k) ≡ k
reason-again Reason.Short = refl
reason-again Reason.Identifier = refl
reason-again Reason.Version = refl
reason-again Reason.Form = refl
reason-again Reason.Order = refl
reason-again Reason.Script = refl
reason-again Reason.Count = refl
reason-again Reason.Spaces = refl
reason-again Reason.Code = refl
reason-again Reason.Length = refl
reason-again Reason.Multiplier = refl
reason-again Reason.Serial = refl
reason-again Reason.Value = refl
reason-again Reason.Disagreement = refl
reason-again Reason.Padding = refl
reason-again Reason.Behind = refl
reason-again Reason.Room = refl
reason-again Reason.Maker = refl
reason-again Reason.Range = refl

-- each number from 1 to 19 is a reason's
pub number-again : (n : ℕ) → 1 ≤ n → n ≤ 19 → number_of (reason_of n) ≡ n
number-again zero h k = absurd (omega arith)
number-again (suc zero) h k = refl
number-again (suc (suc zero)) h k = refl
number-again (suc (suc (suc zero))) h k = refl
number-again (suc (suc (suc (suc zero)))) h k = refl
number-again (suc (suc (suc (suc (suc zero))))) h k = refl
number-again (suc (suc (suc (suc (suc (suc zero)))))) h k = refl
number-again (suc (suc (suc (suc (suc (suc (suc zero))))))) h k = refl
number-again (suc (suc (suc (suc (suc (suc (suc (suc zero)))))))) h k = refl
number-again (suc (suc (suc (suc (suc (suc (suc (suc (suc zero))))))))) h k = refl
number-again (suc (suc (suc (suc (suc (suc (suc (suc (suc (suc zero)))))))))) h k = refl
number-again (suc (suc (suc (suc (suc (suc (suc (suc (suc (suc (suc zero))))))))))) h k = refl
number-again (suc (suc (suc (suc (suc (suc (suc (suc (suc (suc (suc (suc zero)))))))))))) h k = refl
number-again (suc (suc (suc (suc (suc (suc (suc (suc (suc (suc (suc (suc (suc zero))))))))))))) h k = refl
number-again (suc (suc (suc (suc (suc (suc (suc (suc (suc (suc (suc (suc (suc (suc zero)))))))))))))) h k = refl
number-again (suc (suc (suc (suc (suc (suc (suc (suc (suc (suc (suc (suc (suc (suc (suc zero))))))))))))))) h k = refl
number-again (suc (suc (suc (suc (suc (suc (suc (suc (suc (suc (suc (suc (suc (suc (suc (suc zero)))))))))))))))) h k = refl
number-again (suc (suc (suc (suc (suc (suc (suc (suc (suc (suc (suc (suc (suc (suc (suc (suc (suc zero))))))))))))))))) h k = refl
number-again (suc (suc (suc (suc (suc (suc (suc (suc (suc (suc (suc (suc (suc (suc (suc (suc (suc (suc zero)))))))))))))))))) h k = refl
number-again (suc (suc (suc (suc (suc (suc (suc (suc (suc (suc (suc (suc (suc (suc (suc (suc (suc (suc (suc zero))))))))))))))))))) h k = refl
number-again (suc (suc (suc (suc (suc (suc (suc (suc (suc (suc (suc (suc (suc (suc (suc (suc (suc (suc (suc (suc n)))))))))))))))))))) h k = absurd (omega arith)

-- so a refusal is known by its number and its place
pub refusal-is : (r : Refusal) {n p : ℕ} → number_of r.0 ≡ n → r.1 ≡ p → r ≡ refusal_of n p
refusal-is r e f = λ i. record { 0 = (sym (reason-again r.0) ∙ ap reason_of e) i; 1 = f i }

pub refusal-only : (r u : Refusal) → number_of r.0 ≡ number_of u.0 → r.1 ≡ u.1 → r ≡ u
refusal-only r u e f = λ i. record { 0 = (sym (reason-again r.0) ∙ ap reason_of e ∙ reason-again u.0) i; 1 = f i }
