-- Bytes that are no number, as they stand in either order.
-- Assumes nothing.
use mathlib.Core.Path.{◌≡◌, refl}
use mathlib.Core.Bool.{Bool, true, false}
use mathlib.Core.List.{List, [], ◌∷◌, map}
use Prim.Native.Nat.{ℕ, ◌<◌}
use native.Mathlib.Omega.{arith}
use lib.Dec.{eqb}
use borrow.Author.Tests.{eqb-true}
use lib.ListN.{length, length-map}
use Rattle.words.specs.Numbers.{Bytes}
use Rattle.words.specs.declared.Order.{Order}
use Rattle.words.specs.declared.Order.TheVariants.{Little, Big}
use Rattle.walk.specs.Walk.{Kind, Letter, Text, Padding, swap, laid}

swap-lt : (b : ℕ) → b < 256 → swap b < 256
unfolding swap
swap-lt b h = elim (eqb b 76) as (λ x. elim x [ true ↦ 66 | false ↦ elim (eqb b 66) [ true ↦ 76 | false ↦ b ] ] < 256)
    [ true ↦ omega arith | false ↦ elim (eqb b 66) as (λ y. elim y [ true ↦ 76 | false ↦ b ] < 256) [ true ↦ omega arith | false ↦ h ] ]

bytes-swap : (s : List ℕ) → Bytes s → Bytes (map swap s)
bytes-swap [] h = tt
bytes-swap (b ∷ s) h = (swap-lt b h.0, bytes-swap s h.1)

swap-swap : (b : ℕ) → swap (swap b) ≡ b
unfolding swap
swap-swap b = go (eqb b 76) (eqb b 66) refl refl
  where
    go : (x y : Bool) → eqb b 76 ≡ x → eqb b 66 ≡ y → swap (swap b) ≡ b
    go true y e f = rw (eqb-true b 76 e)
    go false true e f = rw (eqb-true b 66 f)
    go false false e f = simp (swap, e, f)

pub swaps-swaps : (s : List ℕ) → map swap (map swap s) ≡ s
swaps-swaps [] = refl
swaps-swaps (b ∷ s) = cc (swap-swap b, swaps-swaps s)

pub bytes-laid : (o : Order) (k : Kind) (s : List ℕ) → Bytes s → Bytes (laid o k s)
unfolding laid
bytes-laid Little k s h = h
bytes-laid Big Letter s h = bytes-swap s h
bytes-laid Big Text s h = h
bytes-laid Big Padding s h = h

pub laid-laid : (o : Order) (k : Kind) (s : List ℕ) → laid o k (laid o k s) ≡ s
unfolding laid
laid-laid Little k s = refl
laid-laid Big Letter s = swaps-swaps s
laid-laid Big Text s = refl
laid-laid Big Padding s = refl

pub length-laid : (o : Order) (k : Kind) (s : List ℕ) → length (laid o k s) ≡ length s
unfolding laid
length-laid Little k s = refl
length-laid Big Letter s = length-map s swap
length-laid Big Text s = refl
length-laid Big Padding s = refl

-- a text and padding stand as they are
pub laid-text : (o : Order) (s : List ℕ) → laid o Text s ≡ s
unfolding laid
laid-text Little s = refl
laid-text Big s = refl

pub laid-padding : (o : Order) (s : List ℕ) → laid o Padding s ≡ s
unfolding laid
laid-padding Little s = refl
laid-padding Big s = refl
