-- The smallest and the largest of numbers: of some and some more, and of two parts put together. One law for both, over a test of two numbers.
-- Assumes nothing.
use mathlib.Core.Path.{◌≡◌, refl, sym, ap, ◌∙◌, subst}
use mathlib.Core.Bool.{Bool, true, false}
use mathlib.Core.List.{List, [], ◌∷◌, ◌++◌}
use Prim.Native.Nat.{ℕ}
use native.Mathlib.Omega.{arith}
use borrow.Author.Tests.{lt-ltb, le-ltb, ltb-true, ltb-false}
use lib.Dec.{T, ltb}
use lib.IntN.{ℤ, pos, negsuc}
use lib.Signed.{lt_z}
use mir.Facts.{to_z-of_z, sfits_widen}
use mir.Syntax.{w32, w64}
use mir.Val.{SFits, to_z, of_z}
use Rattle.walk.specs.Walk.{pick}
use Rattle.overview.specs.Overview.{lower, higher, foremost}
use Rattle.overview.specs.Steps.{widened, extremes_of, both_of}
use Rattle.overview.specs.declared.extremes.Extremes.{Extremes}

-- one number before another, and one that is not: each goes on from the next
pub record Ordered (before : ℤ → ℤ → Bool) : Type 0 where
  pub trans : (a b c : ℤ) → before a b ≡ true → before b c ≡ true → before a c ≡ true
  pub untrans : (a b c : ℤ) → before a b ≡ false → before b c ≡ false → before a c ≡ false

below : (a b c : ℕ) → ltb a b ≡ true → ltb b c ≡ true → ltb a c ≡ true
below a b c h k = lt-ltb a c (omega (arith, ltb-true a b h, ltb-true b c k))

unbelow : (a b c : ℕ) → ltb a b ≡ false → ltb b c ≡ false → ltb a c ≡ false
unbelow a b c h k = le-ltb a c (omega (arith, ltb-false a b h, ltb-false b c k))

never : {A : Type 0} → false ≡ true → A
never h = absurd (subst T (sym h) tt)

smaller-trans : (a b c : ℤ) → lt_z a b ≡ true → lt_z b c ≡ true → lt_z a c ≡ true
smaller-trans (pos a) (pos b) (pos c) h k = below a b c h k
smaller-trans (pos a) (pos b) (negsuc c) h k = k
smaller-trans (pos a) (negsuc b) c h k = never h
smaller-trans (negsuc a) (pos b) (pos c) h k = refl
smaller-trans (negsuc a) (pos b) (negsuc c) h k = never k
smaller-trans (negsuc a) (negsuc b) (pos c) h k = refl
smaller-trans (negsuc a) (negsuc b) (negsuc c) h k = below c b a k h

smaller-untrans : (a b c : ℤ) → lt_z a b ≡ false → lt_z b c ≡ false → lt_z a c ≡ false
smaller-untrans (pos a) (pos b) (pos c) h k = unbelow a b c h k
smaller-untrans (pos a) (pos b) (negsuc c) h k = refl
smaller-untrans (pos a) (negsuc b) (pos c) h k = never (sym k)
smaller-untrans (pos a) (negsuc b) (negsuc c) h k = refl
smaller-untrans (negsuc a) (pos b) c h k = never (sym h)
smaller-untrans (negsuc a) (negsuc b) (pos c) h k = never (sym k)
smaller-untrans (negsuc a) (negsuc b) (negsuc c) h k = unbelow c b a k h

pub smaller : Ordered lt_z
smaller = record { trans = smaller-trans; untrans = smaller-untrans }

pub larger : Ordered (λ a b. lt_z b a)
larger = record { trans = λ a b c h k. smaller-trans c b a k h; untrans = λ a b c h k. smaller-untrans c b a k h }

module _ (before : ℤ → ℤ → Bool) (o : Ordered before) where
  -- of two numbers the one that comes before the other
  abbrev first : ℤ → ℤ → ℤ
  first a b = pick (before b a) b a

  first-assoc : (a b c : ℤ) → first a (first b c) ≡ first (first a b) c
  first-assoc a b c = go (before c b) (before b a) refl refl
    where
      go : (x y : Bool) → before c b ≡ x → before b a ≡ y → first a (first b c) ≡ first (first a b) c
      go true true e f = rw (e, f, e, o.trans c b a e f)
      go true false e f = rw (e, f)
      go false true e f = rw (e, f, e)
      go false false e f = rw (e, f, o.untrans c b a e f)

  -- of a number, and of others by themselves
  pub foremost-both : (a b : ℤ) (bs : List ℤ) → first a (foremost first b bs) ≡ foremost first a (b ∷ bs)
  unfolding foremost
  foremost-both a b [] = refl
  foremost-both a b (c ∷ bs) = foremost-both a (first b c) bs ∙ ap (λ (z : ℤ). foremost first z bs) (first-assoc a b c)

-- some, and some more
pub foremost-append : (f : ℤ → ℤ → ℤ) (a : ℤ) (xs ys : List ℤ) → foremost f a (xs ++ ys) ≡ foremost f (foremost f a xs) ys
unfolding foremost
foremost-append f a [] ys = refl
foremost-append f a (x ∷ xs) ys = foremost-append f (f a x) xs ys

pub widened-append : (x : Extremes) (xs ys : List ℤ) → widened x (xs ++ ys) ≡ widened (widened x xs) ys
widened-append x xs ys = λ n. record { smallest = foremost-append lower x.smallest xs ys n; largest = foremost-append higher x.largest xs ys n }

pub widened-both : (x : Extremes) (z : ℤ) (zs : List ℤ) → both_of x (extremes_of (z ∷ zs)) ≡ widened x (z ∷ zs)
widened-both x z zs = λ n. record { smallest = foremost-both lt_z smaller x.smallest z zs n; largest = foremost-both (λ a b. lt_z b a) larger x.largest z zs n }

-- a number of 32 bits is the same in 64
pub recast : {y z : ℤ} → SFits w32 z → y ≡ to_z w32 (of_z w32 z) → to_z w64 (of_z w64 y) ≡ z
recast h e = ap (λ (x : ℤ). to_z w64 (of_z w64 x)) (e ∙ to_z-of_z h) ∙ to_z-of_z {w = w64} (sfits_widen (tt {0}) h)
