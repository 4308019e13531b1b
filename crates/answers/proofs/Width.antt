-- The 32 bits of a float, and of a whole number.
-- Assumes nothing.
use mathlib.Core.Path.{◌≡◌, refl, sym, ap, ◌∙◌}
use mathlib.Core.Bool.{Bool, true, false, not, cond}
use Prim.Native.Nat.{ℕ, zero, suc, ◌-◌, ◌≤◌}
use native.Mathlib.Omega.{arith}
use borrow.Author.Tests.{le-leb, le-ltb}
use lib.Dec.{T}
use lib.Ieee.{Float, nan, inf, fin, to_bits, is_nan, ne}
use lib.Ieee.Compare.{differs_from_itself, nan_differs}
use lib.IntN.{ℤ, pos, negsuc, nat_abs, ◌-ℤ◌}
use lib.Signed.{le_z, non_neg}
use mir.Syntax.{w32}
use mir.Val.{Fits, SFits, to_z, of_z}
use mir.Facts.{to_z-of_z}
use Rattle.words.specs.Floats.{bits_of}
use Rattle.words.specs.Values.{unsigned}
use Rattle.walk.proofs.Apart.{false-true}

-- A float

-- only a NaN differs from itself
pub nan-bits : (v : Float) → ne v v ≡ true → 2143289344 ≡ bits_of v
unfolding to_bits
nan-bits v e = rw (differs_from_itself v (rw e tt))

pub no_nan : (v : Float) → ne v v ≡ false → T (not (is_nan v))
unfolding is_nan
no_nan nan e = false-true (sym e ∙ nan_differs)
no_nan (inf s) e = tt
no_nan (fin s m d) e = tt

-- A whole number, as a local holds it

abbrev held : ℤ → ℤ
held z = to_z w32 (of_z w32 z)

-- -1 - z, as the code computes it
abbrev pub below : ℤ → ℤ
below z = negsuc 0 -ℤ held z

-- what is known of one that is not negative
pub record Plain (z : ℤ) : Type 0 where
  pub test : T (non_neg (held z))
  pub fits : Fits w32 (nat_abs (held z))
  pub word : nat_abs (held z) ≡ unsigned 4 z

plainly : (z : ℤ) → held z ≡ z → SFits w32 z → le_z (pos 0) z ≡ true → Plain z
unfolding unsigned
plainly (pos n) e f t = record { test = rw e tt; fits = rw e (record { fits = omega (arith, f.sfits) }); word = rw e }
plainly (negsuc k) e f t = false-true t

pub plain : (z : ℤ) → SFits w32 z → le_z (pos 0) (held z) ≡ true → Plain z
plain z f t = plainly z (to_z-of_z f) f (rw (to_z-of_z f) at t)

-- and of a negative one
pub record Under (z : ℤ) : Type 0 where
  pub small : SFits w32 (below z)
  pub test : T (non_neg (held (below z)))
  pub fits : Fits w32 (nat_abs (held (below z)))
  pub within : nat_abs (held (below z)) ≤ 4294967295
  pub word : 4294967295 - nat_abs (held (below z)) ≡ unsigned 4 z

above : (k : ℕ) → negsuc 0 -ℤ negsuc k ≡ pos k
above zero = refl
above (suc k) = ap (λ (b : Bool). cond b (negsuc (1 - suc (suc (suc k)))) (pos (suc (suc k) - 1))) (le-ltb (suc (suc k)) 1 (omega arith)) ∙ ap pos (omega arith)

underly : (z : ℤ) → held z ≡ z → SFits w32 z → le_z (pos 0) z ≡ false → Under z
unfolding unsigned
underly (pos n) e f t = false-true (sym t ∙ le-leb 0 n (omega arith))
underly (negsuc k) e f t =
    let b : below (negsuc k) ≡ pos k = ap (λ (y : ℤ). negsuc 0 -ℤ y) e ∙ above k in
    let s : SFits w32 (below (negsuc k)) = rw b (record { sfits = f.sfits }) in
    let h : held (below (negsuc k)) ≡ pos k = to_z-of_z s ∙ b in
    record { small = s; test = rw h tt; fits = rw h (record { fits = omega (arith, f.sfits) }); within = rw h (omega (arith, f.sfits)); word = rw h (omega (arith, f.sfits)) }

pub under : (z : ℤ) → SFits w32 z → le_z (pos 0) (held z) ≡ false → Under z
under z f t = underly z (to_z-of_z f) f (rw (to_z-of_z f) at t)
