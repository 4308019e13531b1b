-- Two answers that agree: one question after the other, and one of a list and of its image.
-- Assumes nothing.
use mathlib.Core.Path.{◌≡◌, refl, ap, ◌∙◌}
use mathlib.Core.List.{List, [], ◌∷◌, map}
use Prim.Native.Nat.{ℕ, zero, suc}
use Rattle.recordings.specs.Answers.{Answer, value, ◌>>=◌, indexed, numbered}
use Rattle.recordings.proofs.Chosen.{refusal-value}
use Rattle.questions.specs.Tied as Tied
use Rattle.questions.specs.Tied.{Alike}
use Rattle.demands.specs.Demands.{Agree, values, refusals}

module _ {A B : Type 0} {T : A → B → Type 0} where
  -- a question after each, or after the second alone
  pub agree_then : {C D : Type 0} {U : C → D → Type 0} {x : Answer A} {y : Answer B} (f : A → Answer C) (g : B → Answer D) → Agree T x y → ((a : A) (b : B) → T a b → Agree U (f a) (g b)) → Agree U (x >>= f) (y >>= g)
  agree_then f g (values t) k = k _ _ t
  agree_then f g refusals k = refusals

  pub agree_on : {C : Type 0} {U : A → C → Type 0} {x : Answer A} {y : Answer B} (g : B → C) → Agree T x y → ((a : A) (b : B) → T a b → U a (g b)) → Agree U x (y >>= λ b. value (g b))
  agree_on g (values t) k = values (k _ _ t)
  agree_on g refusals k = refusals

  -- what is known where the first, or the second, is a value
  pub agree-first : {x : Answer A} {y : Answer B} → Agree T x y → {a : A} → x ≡ value a → (b : B) × (y ≡ value b) × T a b
  agree-first (values {a = c} {b} t) {a} e = let i : c ≡ a = cc in (b, refl, rw (← i) t)
  agree-first refusals e = refusal-value e

  pub agree-second : {x : Answer A} {y : Answer B} → Agree T x y → {b : B} → y ≡ value b → (a : A) × (x ≡ value a) × T a b
  agree-second (values {a} {b = c} t) {b} e = let i : c ≡ b = cc in (a, refl, rw (← i) t)
  agree-second refusals e = refusal-value e

  -- what a question answers and the reading has, the other way round
  pub agree-alike : {x : Answer B} {y : Answer A} → Alike (λ b a. T a b) x y → Agree T y x
  agree-alike (Tied.values t) = values t
  agree-alike Tied.refusals = refusals

-- of equal values the answers are equal
pub agree-equal : {A : Type 0} {x y : Answer A} → Agree (λ (a b : A). b ≡ a) x y → y ≡ x
agree-equal (values t) = ap value t
agree-equal refusals = refl

pub alike-equal : {A B : Type 0} {f : B → A} {x : Answer A} {y : Answer B} → Alike (λ a b. a ≡ f b) x y → x ≡ (y >>= λ b. value (f b))
alike-equal (Tied.values t) = ap value t
alike-equal Tied.refusals = refl

-- the element b of a list's image is that of the list's element a
pub record Image {A B : Type 0} (f : A → B) (x : Answer A) (b : B) (a : A) : Type 0 where
  pub is : x ≡ value a
  pub maps : b ≡ f a

module _ {A B : Type 0} (f : A → B) where
  indexed-image : (l : List A) (i : ℕ) → Agree (Image f (indexed l i)) (indexed (map f l) i) (indexed l i)
  unfolding indexed
  indexed-image [] i = refusals
  indexed-image (a ∷ l) zero = values (record { is = refl; maps = refl })
  indexed-image (a ∷ l) (suc i) = indexed-image l i

  pub numbered-image : (l : List A) (n : ℕ) → Agree (Image f (numbered l n)) (numbered (map f l) n) (numbered l n)
  unfolding numbered
  numbered-image l zero = refusals
  numbered-image l (suc i) = indexed-image l i

  pub image-value : (l : List A) (n : ℕ) {a : A} → numbered l n ≡ value a → numbered (map f l) n ≡ value (f a)
  image-value l n e = let x = agree-second (numbered-image l n) e in x.1 ∙ ap value x.2.maps
