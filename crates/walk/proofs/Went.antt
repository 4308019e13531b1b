-- What a walk that went on came to: its tests passed, and so did what stands before its end.
-- Assumes nothing.
use mathlib.Core.Path.{◌≡◌, refl, sym, ◌∙◌}
use mathlib.Core.Bool.{Bool, true, false}
use mathlib.Core.List.{List}
use Prim.Native.Nat.{ℕ}
use Rattle.words.specs.declared.Order.{Order}
use Rattle.walk.specs.See.{Verdict, stops, goes, gate, see, onward, Goes}
use Rattle.walk.specs.Walk.{Walk, ◌>>=◌, ◌>>◌}
use Rattle.walk.proofs.Apart.{stops-goes}
use Rattle.walk.proofs.Seen.{see-bind}

-- one verdict: the same answer, at the same place
pub goes_same : {A : Type 0} {a x : A} {d e : ℕ} → ◌≡◌ {A = Verdict A} (goes a d) (goes x e) → (a ≡ x) × (d ≡ e)
goes_same h = (cc, cc)

-- a test that a walk passed
pub gate-went : {A : Type 0} (c : Bool) (v : Verdict A) (n p : ℕ) {a : A} {e : ℕ} → gate c v n p ≡ goes a e → (c ≡ true) × (v ≡ goes a e)
unfolding gate
gate-went true v n p h = (refl, h)
gate-went false v n p h = stops-goes h

-- one verdict after the other: the first went on
pub onward-went : {A B : Type 0} (v : Verdict A) (k : A → ℕ → Verdict B) {x : B} {e : ℕ} → onward v k ≡ goes x e → Goes v (λ a m. k a m ≡ goes x e)
onward-went (stops n p) k h = stops-goes h
onward-went (goes a m) k h = record { value = a; end = m; is = refl; kept = h }

-- and one walk after the other
pub went-first : {A B : Type 0} (o : Order) (b : ℕ) (s : List ℕ) (at : ℕ) (w : Walk A) (k : A → Walk B) {x : B} {e : ℕ} → see o b s at (w >>= k) ≡ goes x e → Goes (see o b s at w) (λ a m. see o b s m (k a) ≡ goes x e)
went-first o b s at w k h = onward-went (see o b s at w) (λ a m. see o b s m (k a)) (sym (see-bind o b s at w k) ∙ h)

-- the same, with what is found bound by a λ
pub by-onward : {A B X : Type 0} (v : Verdict A) (k : A → ℕ → Verdict B) {x : B} {e : ℕ} → onward v k ≡ goes x e → ((a : A) (m : ℕ) → v ≡ goes a m → k a m ≡ goes x e → X) → X
by-onward v k h f = let y = onward-went v k h in f y.value y.end y.is y.kept

module _ {A B X : Type 0} (o : Order) (b : ℕ) (s : List ℕ) (at : ℕ) where
  pub by_went : (w : Walk A) (k : A → Walk B) {x : B} {e : ℕ} → see o b s at (w >>= k) ≡ goes x e → ((a : A) (m : ℕ) → see o b s at w ≡ goes a m → see o b s m (k a) ≡ goes x e → X) → X
  by_went w k h f = let y = went-first o b s at w k h in f y.value y.end y.is y.kept

  pub by-then : (w : Walk A) (v : Walk B) {x : B} {e : ℕ} → see o b s at (w >> v) ≡ goes x e → ((a : A) (m : ℕ) → see o b s at w ≡ goes a m → see o b s m v ≡ goes x e → X) → X
  unfolding ◌>>◌
  by-then w v h f = by_went w (λ _. v) h f
