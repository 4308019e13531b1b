-- What a walk says: of one walk after the other.
-- Assumes nothing.
use mathlib.Core.Path.{◌≡◌, refl}
use mathlib.Core.Bool.{Bool, true}
use mathlib.Core.List.{List, [], append_assoc, append-nil}
use Prim.Native.Nat.{ℕ}
use Rattle.words.specs.declared.Order.{Order}
use Rattle.walk.specs.Walk.{Walk, give, ◌>>=◌, ◌>>◌, require}
use Rattle.walk.specs.See.{goes, see}
use Rattle.walk.specs.Tell.{tell}
use Rattle.walk.specs.Trace.{trace}
use Rattle.walk.proofs.Went.{gate-went, went-first}
use Rattle.walk.proofs.Told.{tell-bind, tell-give}
use Rattle.walk.proofs.Tracing.{trace-bind, trace-give}
use Rattle.children.specs.Children.{Said, said, ◌then◌}

pub then-assoc : (x y z : Said) → (x then y) then z ≡ x then (y then z)
unfolding ◌then◌
then-assoc x y z = rw (append_assoc, append_assoc)

abbrev pub nothing : Said
nothing = record { rows = []; events = [] }

pub then-nothing : (x : Said) → x then nothing ≡ x
unfolding ◌then◌
then-nothing x = rw (append-nil, append-nil)

pub nothing_then : (x : Said) → nothing then x ≡ x
unfolding ◌then◌
nothing_then x = refl

module _ {A B : Type 0} (o : Order) (b : ℕ) (s : List ℕ) (at : ℕ) where
  pub said-bind : (w : Walk A) (k : A → Walk B) {a : A} {e : ℕ} → see o b s at w ≡ goes a e → said o b s at (w >>= k) ≡ said o b s at w then said o b s e (k a)
  unfolding said ◌then◌
  said-bind w k h = rw (tell-bind o b s at w k h, trace-bind o b s at w k h)

  pub said-then : (w : Walk A) (v : Walk B) {a : A} {e : ℕ} → see o b s at w ≡ goes a e → said o b s at (w >> v) ≡ said o b s at w then said o b s e v
  unfolding ◌>>◌
  said-then w v h = said-bind w (λ _. v) h

  -- the same of a walk that went on, with what is found bound by a λ
  pub by_said : {X : Type 0} (w : Walk A) (k : A → Walk B) {x : B} {e : ℕ} → see o b s at (w >>= k) ≡ goes x e →
      ((a : A) (m : ℕ) → see o b s at w ≡ goes a m → see o b s m (k a) ≡ goes x e → said o b s at (w >>= k) ≡ said o b s at w then said o b s m (k a) → X) → X
  by_said w k h f = let y = went-first o b s at w k h in f y.value y.end y.is y.kept (said-bind w k y.is)

  pub said-give : (w : Walk A) (f : A → B) → said o b s at (w >>= λ a. give (f a)) ≡ said o b s at w
  unfolding said
  said-give w f = rw (tell-give o b s at w f, trace-give o b s at w f)

module _ {A : Type 0} (o : Order) (b : ℕ) (s : List ℕ) (at : ℕ) where
  pub said-gave : (a : A) → said o b s at (give a) ≡ nothing
  unfolding said tell trace
  said-gave a = refl

  -- a test that was passed says nothing
  pub said-require : (c : Bool) (n p : ℕ) (v : Walk A) {a : A} {e : ℕ} → see o b s at (require c n p >> v) ≡ goes a e →
      (c ≡ true) × (see o b s at v ≡ goes a e) × (said o b s at (require c n p >> v) ≡ said o b s at v)
  unfolding said see tell trace ◌>>=◌ ◌>>◌
  said-require c n p v g = let g₁ = gate-went _ _ _ _ g in (g₁.0, g₁.1, rw g₁.0)
