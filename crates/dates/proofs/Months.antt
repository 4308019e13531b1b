-- The days of a month by arithmetic are those of the document's list, at every month but February: one test that the checker computes, and the law
-- that turns it into the rule.
-- Assumes nothing.
use mathlib.Core.Path.{◌≡◌, refl}
use mathlib.Core.Bool.{Bool, true, false, ◌&&◌, ◌||◌}
use Prim.Native.Nat.{ℕ, zero, suc, ◌+◌, ◌-◌, ◌%◌, ◌≤◌, ◌<◌}
use native.Mathlib.Omega.{arith}
use native.Mathlib.Decide.{ℕ_discrete}
use borrow.Author.Tests.{ne_eqb, eqb-true, leb-true}
use lib.Dec.{leb, eqb}
use lib.ListN.{get_or}
use Rattle.walk.specs.Walk.{pick}
use Rattle.rules.specs.Rules.{month_days, between, dated}
use Rattle.rules.proofs.Renew.{and-true}

-- 31 and 30 by turns, anew every seven months
abbrev pub by_turns : ℕ → ℕ
by_turns m = 31 - (m + 6) % 7 % 2

-- the test f passes at each number below n
abbrev below : (ℕ → Bool) → ℕ → Bool
below f zero = true
below f (suc n) = f n && below f n

each : (f : ℕ → Bool) (n : ℕ) → below f n ≡ true → (k : ℕ) → k < n → f k ≡ true
each f zero t k l = absurd (omega arith)
each f (suc n) t k l =
    let (here, before) = and-true (f n) (below f n) t in
    elim (ℕ_discrete k n) [
      | yes e ↦ rw e here
      | no d ↦ each f n before k (omega (arith, d))
    ]

right : ℕ → Bool
right m = eqb m 2 || eqb (by_turns m) (get_or month_days (m - 1) 0)

pub months : (m : ℕ) → m ≤ 12 → (m ≡ 2 → ⊥) → by_turns m ≡ get_or month_days (m - 1) 0
unfolding month_days right
months m l d = eqb-true (by_turns m) (get_or month_days (m - 1) 0) (rw (ne_eqb m 2 d) at (each right 13 refl m (omega arith)))

-- a month that passed its test is at most 12
pub dated-most : (y high n : ℕ) → dated y high n ≡ true → n ≤ high
unfolding dated between
dated-most y high n e = go (eqb y 0) e
  where
    go : (z : Bool) → pick z (eqb n 0) (between 1 high n) ≡ true → n ≤ high
    go true e = let z = eqb-true n 0 e in omega (arith, z)
    go false e = leb-true n high (and-true (leb 1 n) (leb n high) e).1
