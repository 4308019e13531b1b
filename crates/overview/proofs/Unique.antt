-- Only one answer meets the contract of the overview and of its range, and only one buffer that of the range, for every file and whatever is asked; so for C.
-- Assumes nothing.
use Rattle.std.proofs.Common.{Option, Result}
use mathlib.Core.Path.{◌≡◌, sym, ◌∙◌}
use mathlib.Core.List.{List}
use Prim.Native.Nat.{ℕ}
use lib.IntN.{ℤ}
use Rattle.rules.specs.declared.Refusal.{Refusal}
use Rattle.overview.specs.Flat.{OverviewAnswers, RangeAnswers}
use Rattle.overview.specs.Overview.{OverviewAnswer, RangeAnswer}
use Rattle.overview.specs.declared.Counted.{Counted}
use Rattle.overview.specs.declared.Envelope.{Envelope}
use Rattle.overview.specs.declared.Overviewed.{Overviewed}
use Rattle.overview.proofs.Answers.{meaning-one}

pub overview-unique : (s : List ℕ) (i k e : ℕ) (a b : Result (Option Envelope) Refusal) → OverviewAnswer s i k e a → OverviewAnswer s i k e b → a ≡ b
overview-unique s i k e a b x y = meaning-one a b x y

module _ (s : List ℕ) (i k first n : ℕ) (out out₁ out₂ : List ℤ) where
  pub range_unique : (a b : Result ℕ Refusal) → RangeAnswer s i k first n out out₁ a → RangeAnswer s i k first n out out₂ b → (a ≡ b) × (out₁ ≡ out₂)
  range_unique a b x y = (meaning-one a b x.answer y.answer, x.buffer ∙ sym y.buffer)

  pub psg-overview-range-unique : (a b : Counted) → RangeAnswers s i k first n out out₁ a → RangeAnswers s i k first n out out₂ b → (a ≡ b) × (out₁ ≡ out₂)
  psg-overview-range-unique a b x y = (x.answer ∙ sym y.answer, x.buffer ∙ sym y.buffer)

pub psg-overview-unique : (s : List ℕ) (i k e : ℕ) (a b : Overviewed) → OverviewAnswers s i k e a → OverviewAnswers s i k e b → a ≡ b
psg-overview-unique s i k e a b x y = x ∙ sym y
