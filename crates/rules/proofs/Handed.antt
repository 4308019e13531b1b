-- What `?` hands up is the callee's refusal. Assumes nothing.
use Rattle.std.proofs.Common.{Result, Ok, Err, Option, None, ap, ◌≡◌, ◌∙◌}
use Rattle.std.specs.Prelude.{IsErr, IsErrAnd}
use Rattle.std.specs.Option.{ok_or}
use Rattle.std.proofs.lemmas.Result.{err_from_is_err_and}
use Rattle.rules.specs.declared.Refusal.{Refusal}

pub handed : {T : Type 0} {x : Refusal} (r : Result T Refusal) → IsErr r × IsErrAnd r (λ y. y ≡ x) → r ≡ Err x
handed r e = let p = err_from_is_err_and r e.1 in p.1 ∙ ap Err p.2

-- and of an option that is turned into a refusal, that refusal
pub lacked : {A T : Type 0} {x e : Refusal} {o : Option A} (r : Result T Refusal) → o ≡ None → Err x ≡ ok_or o e → IsErr r × IsErrAnd r (λ y. y ≡ x) → r ≡ Err e
lacked {A} {T} {x} {e} r none is h = handed r h ∙ ap Err (ap (λ (y : Result A Refusal). elim y [ Ok a ↦ e | Err z ↦ z ]) (rw none at is))
