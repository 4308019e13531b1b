-- The size and the multiplier of a record of n bytes: multiplier 0 where n fits, else the smallest that serves.
-- Assumes nothing.
use mathlib.Core.Path.{◌≡◌, refl, sym, ap, ◌∙◌}
use mathlib.Core.Bool.{Bool, true, false}
use Prim.Native.Nat.{ℕ, zero, suc, ◌+◌, ◌*◌, ◌-◌, ◌/◌, ◌≤◌, ◌<◌, max}
use native.Mathlib.Nat.{div-lt_iff_lt-mul, div-add-mod', mod-lt, mul-le-mul_right}
use native.Mathlib.Omega.{arith}
use lib.Dec.{leb}
use borrow.Author.Tests.{leb-true, leb-false, le-leb, lt-leb}
use Rattle.rules.specs.Canonical.{multiplier_for, size_for}
use Rattle.rules.specs.CanonicalForm.{most, shares, SizedAs}
use Rattle.rules.specs.Rules.{length_of}

pub record Sized (n : ℕ) : Type 0 where
  pub small : size_for n ≤ most
  pub serves : n ≤ length_of (size_for n) (multiplier_for n)
  pub close : length_of (size_for n) (multiplier_for n) - n < max 1 (multiplier_for n)
  pub low : (k : ℕ) → n ≤ k * most → multiplier_for n ≤ k

-- by a positive number, rounded up
module _ (n m : ℕ) (h : 0 < m) where
  shares-low : n ≤ shares n m * m
  shares-low = omega (arith, div-add-mod' (n + (m - 1)) m, mod-lt (n + (m - 1)) h)

  shares-close : shares n m * m < n + m
  shares-close = omega (arith, div-add-mod' (n + (m - 1)) m, mod-lt (n + (m - 1)) h)

  shares-le : (k : ℕ) → n ≤ k * m → shares n m ≤ k
  shares-le k l =
      let q : (n + (m - 1)) / m < suc k = (div-lt_iff_lt-mul h).1 (omega arith) in
      omega arith

pub length-times : (s m : ℕ) → 0 < m → length_of s m ≡ s * m
unfolding length_of
length-times s zero h = absurd (omega arith)
length-times s (suc m) h = refl

pub length-once : (s : ℕ) → length_of s 0 ≡ s
unfolding length_of
length-once s = refl

-- the multiplier is 0 where n fits, and else the smallest m for which n divided by m, rounded up, fits
pub none-where-it-fits : (n : ℕ) → n ≤ most → multiplier_for n ≡ 0
unfolding multiplier_for
none-where-it-fits n l = rw (multiplier_for, le-leb n most l)

pub smallest : (n m : ℕ) → 0 < m → shares n m ≤ most → most < n → multiplier_for n ≤ m
unfolding multiplier_for
smallest n m h k l =
    let q : shares n m * m ≤ most * m = mul-le-mul_right m k in
    rw (multiplier_for, lt-leb n most l) (shares-le n most (omega arith) m (omega (arith, shares-low n m h)))

fits-once : (n : ℕ) → n ≤ most → Sized n
unfolding multiplier_for size_for length_of
fits-once n h =
    let m : multiplier_for n ≡ 0 = rw (multiplier_for, le-leb n most h) in
    let s : size_for n ≡ n = rw (size_for, le-leb n most h) in
    record { small = rw s h; serves = rw (m, s) (omega arith); close = rw (m, s) (omega arith); low = λ _ _. rw m (omega arith) }

-- of more than fits
module _ (n : ℕ) (h : most < n) where
  many_is : multiplier_for n ≡ shares n most
  unfolding multiplier_for
  many_is = rw (multiplier_for, lt-leb n most h)

  size_is : size_for n ≡ shares n (multiplier_for n)
  unfolding size_for
  size_is = rw (size_for, lt-leb n most h)

  enough : n ≤ multiplier_for n * most
  enough = rw many_is (shares-low n most (omega arith))

  positive : 0 < multiplier_for n
  positive = omega (arith, enough)

fits_more : (n : ℕ) → most < n → Sized n
fits_more n h =
    let m = many_is n h in
    let s = size_is n h in
    let a = enough n h in
    let z = positive n h in
    let l : length_of (size_for n) (multiplier_for n) ≡ shares n (multiplier_for n) * multiplier_for n = length-times (size_for n) (multiplier_for n) z ∙ rw s in
    let b : shares n (multiplier_for n) * multiplier_for n < n + multiplier_for n = shares-close n (multiplier_for n) z in
    let c : n ≤ shares n (multiplier_for n) * multiplier_for n = shares-low n (multiplier_for n) z in
    record {
      small = rw s (shares-le n (multiplier_for n) z most (omega arith));
      serves = omega arith;
      close = rw l (omega arith);
      low = λ k l. rw m (shares-le n most (omega arith) k l);
    }

pub sized : (n : ℕ) → Sized n
sized n = go (leb n most) refl
  where
    go : (x : Bool) → leb n most ≡ x → Sized n
    go true e = fits-once n (leb-true n most e)
    go false e = fits_more n (leb-false n most e)

-- the longest record that a multiplier up to k serves; multiplier 0 serves what fits
abbrev pub longest : ℕ → ℕ
longest k = max 1 k * most

pub served : (n k : ℕ) → n ≤ longest k → multiplier_for n ≤ k
served n zero h = let e = none-where-it-fits n (omega arith) in omega (arith, e)
served n (suc k) h = (sized n).low (suc k) (omega arith)

-- a record that a multiplier of k serves has less than k bytes of padding
pub pad-under : (n k : ℕ) → 1 ≤ k → n ≤ k * most → length_of (size_for n) (multiplier_for n) < n + k
pad-under n k l h = omega (arith, (sized n).close, (sized n).low k h)

-- They are what document 01 gives a record of total length n, and nothing else is

pub sized-as : (n : ℕ) → SizedAs n (size_for n) (multiplier_for n)
unfolding size_for
sized-as n = record {
  once = none-where-it-fits n;
  whole = λ l. rw (size_for, le-leb n most l);
  times = positive n;
  quotient = size_is n;
  small = λ _. (sized n).small;
  smallest = λ l m k q. omega (arith, smallest n m k q l);
}

pub sized-unique : (n : ℕ) {s m s' m' : ℕ} → SizedAs n s m → SizedAs n s' m' → (s ≡ s') × (m ≡ m')
sized-unique n {s} {m} {s'} {m'} a b = go (leb n most) refl
  where
    go : (x : Bool) → leb n most ≡ x → (s ≡ s') × (m ≡ m')
    go true e = let l : n ≤ most = leb-true n most e in (a.whole l ∙ sym (b.whole l), a.once l ∙ sym (b.once l))
    go false e =
        let l : most < n = leb-false n most e in
        let x : m ≤ m' = omega (arith, a.smallest l m' (b.times l) (rw (b.quotient l) at (b.small l))) in
        let y : m' ≤ m = omega (arith, b.smallest l m (a.times l) (rw (a.quotient l) at (a.small l))) in
        let z : m ≡ m' = omega arith in
        (a.quotient l ∙ (ap (shares n) z ∙ sym (b.quotient l)), z)
