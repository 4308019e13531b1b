-- The code has one answer to what it means. Assumes nothing.
use Rattle.std.proofs.Common.{Result, Ok, Err}
use mathlib.Core.Path.{◌≡◌, refl, sym, ap}
use Rattle.walk.proofs.Unique.{one}
use Rattle.rules.specs.declared.Refusal.{Refusal}
use Rattle.rules.specs.Reasons.{refusal_of}
use Rattle.rules.proofs.Reasons.{refusal-is}
use Rattle.recordings.specs.Answers.{Answer, value, refusal, meaning}

abbrev again : {A : Type 0} → Answer A → Result A Refusal
again (value x) = Ok x
again (refusal n p) = Err (refusal_of n p)

back : {A : Type 0} (a : Result A Refusal) → again (meaning a) ≡ a
back (Ok x) = refl
back (Err r) = ap Err (sym (refusal-is r refl refl))

pub meaning-one : {A : Type 0} {x : Answer A} (a b : Result A Refusal) → meaning a ≡ x → meaning b ≡ x → a ≡ b
meaning-one a b h k = one meaning again back h k
