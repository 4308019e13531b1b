-- Two constructors of one type are never equal: from such an equation anything follows. A law for each pair, all from `zero_one`.
-- A law is named by the two sides of its equation. The pair of a type that a higher crate declares stands there.
-- Assumes nothing.
use mathlib.Core.Path.{◌≡◌}
use mathlib.Core.Bool.{true, false}
use mathlib.Core.List.{List}
use mathlib.Core.Option.{Option, none, some}
use Prim.Native.Nat.{ℕ}
use native.Mathlib.Omega.{arith}
use Rattle.walk.specs.See.{Verdict, stops, goes}
use Rattle.walk.specs.Walk.{Event, Outcome, refused, passed}

pub zero_one : {X : Type 0} → ◌≡◌ {A = ℕ} 0 1 → X
zero_one h = absurd (omega arith)

pub false-true : {X : Type 0} → false ≡ true → X
false-true h = zero_one (cc)

module _ {A X : Type 0} where
  pub none-some : {a : A} → ◌≡◌ {A = Option A} none (some a) → X
  none-some h = zero_one (cc)

  pub stops-goes : {n p e : ℕ} {a : A} → ◌≡◌ {A = Verdict A} (stops n p) (goes a e) → X
  stops-goes h = zero_one (cc)

  pub refused-passed : {n p : ℕ} {a : A} {r : List ℕ} {t : List Event} → ◌≡◌ {A = Outcome A} (refused n p) (passed a r t) → X
  refused-passed h = zero_one (cc)
