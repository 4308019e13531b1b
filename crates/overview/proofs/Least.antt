-- The smallest and the largest of some numbers are among them, and none of them is smaller or larger. One law for both, over a test of two numbers.
-- Assumes nothing.
use Rattle.std.proofs.Common.{Some, None}
use mathlib.Core.Path.{◌≡◌, refl, sym, ◌∙◌}
use mathlib.Core.Bool.{Bool, true, false}
use mathlib.Core.List.Memᴰ
use mathlib.Core.List.{List, [], ◌∷◌, Memᴰ}
use mathlib.Core.Logic.{◌⊎◌, inl, inr}
use Prim.Native.Nat.{ℕ}
use native.Mathlib.Omega.{arith}
use borrow.Author.Tests.{le-ltb}
use lib.IntN.{ℤ, pos, negsuc}
use lib.ListN.{length}
use lib.Signed.{lt_z}
use Rattle.walk.specs.Walk.{pick}
use Rattle.overview.specs.Overview.{lower, higher, foremost, envelope_of}
use Rattle.overview.specs.Promises.{Foremost, EnvelopeIs}
use Rattle.overview.specs.declared.Envelope.{Envelope}
use Rattle.overview.proofs.Foremost.{Ordered, smaller, larger}

-- no number is smaller than itself
self : (a : ℤ) → lt_z a a ≡ false
self (pos n) = le-ltb n n (omega arith)
self (negsuc n) = le-ltb n n (omega arith)

module _ (before : ℤ → ℤ → Bool) (o : Ordered before) (itself : (a : ℤ) → before a a ≡ false) where
  -- of two numbers the one that comes before the other
  abbrev first : ℤ → ℤ → ℤ
  first a b = pick (before b a) b a

  among : (a : ℤ) (bs : List ℤ) → Memᴰ (foremost first a bs) (a ∷ bs)
  unfolding foremost
  among a [] = Memᴰ.head refl
  among a (b ∷ bs) = go (before b a) (among (first a b) bs)
    where
      wider : {z : ℤ} → (z ≡ a) ⊎ Memᴰ z bs → Memᴰ z (a ∷ b ∷ bs)
      wider (inl e) = Memᴰ.head e
      wider (inr m) = Memᴰ.tail (Memᴰ.tail m)

      go : (c : Bool) {z : ℤ} → Memᴰ z (pick c b a ∷ bs) → Memᴰ z (a ∷ b ∷ bs)
      go true m = Memᴰ.tail m
      go false m = wider (Memᴰ.cases_cons m)

  -- what does not come before a does not come before the foremost of a and others
  stays : (y a : ℤ) (bs : List ℤ) → before y a ≡ false → before y (foremost first a bs) ≡ false
  unfolding foremost
  stays y a [] h = h
  stays y a (b ∷ bs) h = stays y (first a b) bs (go (before b a) refl (before y b) refl)
    where
      go : (c : Bool) → before b a ≡ c → (d : Bool) → before y b ≡ d → before y (pick c b a) ≡ false
      go true e true f = f ∙ (sym (o.trans y b a f e) ∙ h)
      go true e false f = f
      go false e d f = h

  none_before : (a : ℤ) (bs : List ℤ) (y : ℤ) → Memᴰ y bs → before y (foremost first a bs) ≡ false
  unfolding foremost
  none_before a [] y m = absurd (Memᴰ.not-nil m)
  none_before a (b ∷ bs) y m = go (Memᴰ.cases_cons m) (none_before (first a b) bs y)
    where
      chosen : (c : Bool) → before b a ≡ c → before b (pick c b a) ≡ false
      chosen true e = itself b
      chosen false e = e

      go : (y ≡ b) ⊎ Memᴰ y bs → (Memᴰ y bs → before y (foremost first (first a b) bs) ≡ false) → before y (foremost first (first a b) bs) ≡ false
      go (inl e) next = stays y (first a b) bs (rw e (chosen (before b a) refl))
      go (inr m) next = next m

  is-foremost : (a : ℤ) (bs : List ℤ) → Foremost before (a ∷ bs) (foremost first a bs)
  is-foremost a bs = record { among = among a bs; first = λ y m. go y (Memᴰ.cases_cons m) }
    where
      go : (y : ℤ) → (y ≡ a) ⊎ Memᴰ y bs → before y (foremost first a bs) ≡ false
      go y (inl e) = stays y a bs (rw e (itself a))
      go y (inr m) = none_before a bs y m

pub envelope-is : (zs : List ℤ) (x : Envelope) → envelope_of zs ≡ Some x → EnvelopeIs zs x
envelope-is [] x e = let z : ◌≡◌ {A = ℕ} 0 1 = cc in absurd (omega arith)
envelope-is (z ∷ zs) x e =
    let y : Envelope = record { smallest = foremost lower z zs; largest = foremost higher z zs; count = length (z ∷ zs) } in
    let i : y ≡ x = cc in
    rw (← i) (record { smallest = is-foremost lt_z smaller self z zs; largest = is-foremost (λ a b. lt_z b a) larger self z zs; count = refl })

pub none-there : (zs : List ℤ) → envelope_of zs ≡ None → zs ≡ []
none-there [] e = refl
none-there (z ∷ zs) e = let z : ◌≡◌ {A = ℕ} 0 1 = cc in absurd (omega arith)
