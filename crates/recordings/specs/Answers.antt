-- What a question is answered: values, or a refusal and its position.
-- Assumes nothing.
use Rattle.std.specs.Prelude.{Result, Ok, Err, List, [], ◌∷◌, ℕ, zero, suc}
use Rattle.rules.specs.declared.Refusal.{Refusal}
use Rattle.rules.specs.Reasons.{number_of}

pub data Answer (A : Type 0) : Type 0 where
  value : A → Answer A
  refusal : ℕ → ℕ → Answer A

-- what the code's answer says
abbrev pub meaning : {A : Type 0} → Result A Refusal → Answer A
meaning (Ok x) = value x
meaning (Err r) = refusal (number_of r.0) r.1

-- one question after the other: the first refusal is handed up
infixl 10 ◌>>=◌
abbrev pub ◌>>=◌ : {A B : Type 0} → Answer A → (A → Answer B) → Answer B
◌>>=◌ (value a) k = k a
◌>>=◌ (refusal n p) k = refusal n p

-- a question outside its range
abbrev pub outside : {A : Type 0} → Answer A
outside = refusal 19 0

-- one of a list, asked for from 0; and from 1
unfoldable pub indexed : {A : Type 0} → List A → ℕ → Answer A
indexed [] i = outside
indexed (a ∷ l) zero = value a
indexed (a ∷ l) (suc i) = indexed l i

unfoldable pub numbered : {A : Type 0} → List A → ℕ → Answer A
numbered l zero = outside
numbered l (suc i) = indexed l i
