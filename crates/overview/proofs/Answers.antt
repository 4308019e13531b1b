-- An answer is one by what it means, and `?` hands up the callee's refusal.
-- Assumes nothing.
use Rattle.std.proofs.Common.{Result, Ok, Err}
use Rattle.std.specs.Prelude.{IsErr, IsErrAnd}
use Rattle.std.proofs.lemmas.Result.{err_from_is_err_and}
use mathlib.Core.Path.{◌≡◌, refl, sym, ap, ◌∙◌}
use Rattle.rules.specs.Reasons.{number_of, reason_of, refusal_of}
use Rattle.rules.specs.declared.Reason.{Reason}
use Rattle.rules.specs.declared.Reason.TheVariants as Reason
use Rattle.rules.specs.declared.Refusal.{Refusal}
use Rattle.recordings.specs.Answers.{Answer, value, refusal, meaning}

pub handed : {T : Type 0} {x : Refusal} (r : Result T Refusal) → IsErr r × IsErrAnd r (λ y. y ≡ x) → r ≡ Err x
handed r e = let p = err_from_is_err_and r e.1 in p.1 ∙ ap Err p.2

reason-again : (k : Reason) → reason_of (number_of k) ≡ k
reason-again Reason.Short = refl
reason-again Reason.Identifier = refl
reason-again Reason.Version = refl
reason-again Reason.Form = refl
reason-again Reason.Order = refl
reason-again Reason.Script = refl
reason-again Reason.Count = refl
reason-again Reason.Spaces = refl
reason-again Reason.Code = refl
reason-again Reason.Length = refl
reason-again Reason.Multiplier = refl
reason-again Reason.Serial = refl
reason-again Reason.Value = refl
reason-again Reason.Disagreement = refl
reason-again Reason.Padding = refl
reason-again Reason.Behind = refl
reason-again Reason.Room = refl
reason-again Reason.Maker = refl
reason-again Reason.Range = refl

-- an answer of the code, from what it means
abbrev again : {A : Type 0} → Answer A → Result A Refusal
again (value x) = Ok x
again (refusal n p) = Err (refusal_of n p)

back : {A : Type 0} (a : Result A Refusal) → again (meaning a) ≡ a
back (Ok x) = refl
back (Err r) = ap Err (λ i. record { 0 = reason-again r.0 i; 1 = r.1 })

pub meaning-one : {A : Type 0} {x : Answer A} (a b : Result A Refusal) → meaning a ≡ x → meaning b ≡ x → a ≡ b
meaning-one a b x y = sym (back a) ∙ (ap again (x ∙ sym y) ∙ back b)
