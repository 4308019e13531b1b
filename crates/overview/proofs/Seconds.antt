-- Seconds, and the epochs and frames that start in them.
-- Assumes nothing.
use mathlib.Core.Path.{◌≡◌, refl}
use mathlib.Core.Bool.{Bool, true, false}
use Prim.Native.Nat.{ℕ, ◌+◌, ◌-◌, ◌*◌, ◌/◌, ◌^◌, ◌≤◌, ◌<◌}
use native.Mathlib.Nat.{mul-le-mul_left}
use native.Mathlib.Omega.{arith}
use borrow.Author.Tests.{le-ltb, lt-ltb, ltb-false}
use lib.Dec.{ltb}
use Rattle.walk.specs.Walk.{pick}
use Rattle.samples.specs.declared.Track.{Track}
use Rattle.overview.specs.Steps.{started_by}

-- F times T, the seconds of all frames: the product of two numbers of 32 bits
pub seconds-low : (t : Track) → t.frames < 2 ^ 32 → t.seconds < 2 ^ 32 → t.frames * t.seconds ≤ 18446744065119617025
seconds-low t f s = let k : t.seconds ≤ 4294967295 = omega (arith, s) in omega (arith, f, mul-le-mul_left t.frames k)

-- How many frames start before a second: no more than there are

module _ (t : Track) (x : ℕ) where
  abbrev by : ℕ
  by = (x + (t.seconds - 1)) / t.seconds

  pub started-few : started_by t x ≤ t.frames
  unfolding started_by
  started-few = go (ltb t.frames by) refl
    where
      go : (c : Bool) → ltb t.frames by ≡ c → pick c t.frames by ≤ t.frames
      go true e = omega arith
      go false e = omega (arith, ltb-false t.frames by e)

  -- as the code finds it
  pub started-all : (n : ℕ) → n ≡ by → t.frames < n → t.frames ≡ started_by t x
  unfolding started_by
  started-all n e l = rw (lt-ltb t.frames by (omega (arith, e)))

  pub started-some : (n : ℕ) → n ≡ by → n ≤ t.frames → n ≡ started_by t x
  unfolding started_by
  started-some n e l = rw (le-ltb t.frames by (omega (arith, e))) e
