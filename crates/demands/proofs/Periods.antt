-- Request 2 in its own words: which channels have a sample in T seconds. By a rate in Hz each has one; by a period just those whose period is no
-- longer than T; so 14 at T is given exactly where a channel with a period above 0 would have none.
-- Assumes nothing.
use mathlib.Core.Path.{◌≡◌, refl, sym, ◌∙◌}
use mathlib.Core.Bool.{Bool, true, false}
use Prim.Native.Nat.{ℕ, ◌*◌, ◌/◌, ◌%◌, ◌≤◌, ◌<◌}
use native.Mathlib.Nat.{div-lt_iff_lt-mul, mul-le-mul_right}
use native.Mathlib.Omega.{arith}
use borrow.Author.Tests.{eq-eqb, ne_eqb, eqb-false, le-leb, lt-leb, leb-true, leb-false}
use lib.Dec.{leb, eqb}
use Rattle.rules.specs.Rules.{Channel, samples_of, sampled}

pub hertz-sampled : (t : ℕ) (c : Channel) → 1 ≤ t → c.flags % 2 ≡ 0 → sampled t c ≡ true
unfolding samples_of
hertz-sampled t c l h = go (eqb c.rate 0) refl
  where
    go : (x : Bool) → eqb c.rate 0 ≡ x → sampled t c ≡ true
    go true e = simp e
    go false e =
        let r = eqb-false c.rate 0 e in
        let m : 1 * t ≤ c.rate * t = mul-le-mul_right t (omega (arith, r)) in
        simp (e, eq-eqb _ _ h) (le-leb 1 (c.rate * t) (omega (arith, m)))

pub period-sampled : (t : ℕ) (c : Channel) → (c.rate ≡ 0 → ⊥) → (c.flags % 2 ≡ 0 → ⊥) → sampled t c ≡ leb c.rate (t * 1_000_000)
unfolding samples_of
period-sampled t c r h = simp (ne_eqb _ _ r, ne_eqb _ _ h) (go (leb c.rate (t * 1_000_000)) refl)
  where
    some : 0 < c.rate
    some = omega (arith, r)

    one : (x : Bool) → leb 1 (t * 1_000_000 / c.rate) ≡ x → c.rate ≤ t * 1_000_000 → 1 ≤ t * 1_000_000 / c.rate
    one true e l = leb-true 1 (t * 1_000_000 / c.rate) e
    one false e l = let m = (div-lt_iff_lt-mul some).0 (leb-false 1 (t * 1_000_000 / c.rate) e) in absurd (omega (arith, l, m))

    go : (x : Bool) → leb c.rate (t * 1_000_000) ≡ x → leb 1 (t * 1_000_000 / c.rate) ≡ leb c.rate (t * 1_000_000)
    go true e =
        let l = leb-true c.rate (t * 1_000_000) e in
        le-leb 1 (t * 1_000_000 / c.rate) (one (leb 1 (t * 1_000_000 / c.rate)) refl l) ∙ sym e
    go false e =
        let l = leb-false c.rate (t * 1_000_000) e in
        lt-leb 1 (t * 1_000_000 / c.rate) ((div-lt_iff_lt-mul some).1 (omega arith)) ∙ sym e
