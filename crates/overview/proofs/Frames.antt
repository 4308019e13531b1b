-- The frames of an epoch: those that start in it are the ones from the first that does not start before it up to the first that does not start before its end.
-- Assumes nothing.
use mathlib.Core.Path.{◌≡◌, refl, ap, ◌∙◌}
use mathlib.Core.Bool.{Bool, true, false}
use mathlib.Core.List.{List, [], ◌∷◌, ◌++◌}
use Prim.Native.Nat.{ℕ, zero, suc, ◌+◌, ◌-◌, ◌*◌, ◌/◌, ◌≤◌, ◌<◌}
use native.Mathlib.Nat.{suc-mul, le-div_iff_mul-le, div-lt_iff_lt-mul}
use native.Mathlib.Omega.{arith}
use borrow.Author.Tests.{le-leb, lt-leb, lt-ltb, le-ltb, ltb-true, ltb-false}
use lib.Dec.{ltb}
use lib.IntN.{ℤ}
use lib.ListN.{length}
use Rattle.walk.specs.Walk.{pick}
use Rattle.rules.specs.Reading.{FrameReading}
use Rattle.recordings.specs.Answers.{value, indexed, numbered}
use Rattle.samples.specs.declared.Track.{Track}
use Rattle.overview.specs.Overview.{starts, wholes, samples_in}
use Rattle.overview.specs.Steps.{frame_numbers, frames_numbers, started_by, epoch_numbers}
use Rattle.overview.proofs.Seconds.{started-few}

-- Frames that started before a second

module _ (t : Track) (some : 1 ≤ t.seconds) (x : ℕ) where
  -- rounded up, and not more than there are
  abbrev by : ℕ
  by = (x + (t.seconds - 1)) / t.seconds

  started-before : (m : ℕ) → m < started_by t x → m * t.seconds < x
  unfolding started_by
  started-before m = go (ltb t.frames by) refl
    where
      early : suc m ≤ by → m * t.seconds < x
      early h = omega (arith, suc-mul m t.seconds, (le-div_iff_mul-le {k = t.seconds} {x = suc m} {y = x + (t.seconds - 1)} some).0 h)

      go : (c : Bool) → ltb t.frames by ≡ c → m < pick c t.frames by → m * t.seconds < x
      go true e h = early (omega (arith, ltb-true t.frames by e))
      go false e h = early (omega arith)

  started-after : (m : ℕ) → m < t.frames → started_by t x ≤ m → x ≤ m * t.seconds
  unfolding started_by
  started-after m l = go (ltb t.frames by) refl
    where
      go : (c : Bool) → ltb t.frames by ≡ c → pick c t.frames by ≤ m → x ≤ m * t.seconds
      go true e h = absurd (omega arith)
      go false e h =
          let k : by < suc m = omega arith in
          omega (arith, suc-mul m t.seconds, (div-lt_iff_lt-mul {k = t.seconds} {x = x + (t.seconds - 1)} {y = suc m} some).0 k)

-- Frames of the epoch e: of the frames behind n others, which are all that there are

module _ (s : List ℕ) (t : Track) (some : 1 ≤ t.seconds) (e k : ℕ) where
  abbrev from : ℕ
  from = started_by t (30 * e)

  abbrev to : ℕ
  to = started_by t (30 * e + 30)

  forward : from ≤ to
  forward = go (ltb to from) refl
    where
      go : (c : Bool) → ltb to from ≡ c → from ≤ to
      go true h =
          let l : to < from = ltb-true to from h in
          let few : from ≤ t.frames = started-few t (30 * e) in
          absurd (omega (arith, started-before t some (30 * e) to l, started-after t some (30 * e + 30) to (omega arith) (omega arith)))
      go false h = ltb-false to from h

  not_yet : (m : ℕ) → m < from → starts t.seconds e m ≡ false
  not_yet m h = rw (lt-leb (30 * e) (m * t.seconds) (started-before t some (30 * e) m h))

  during : (m : ℕ) → from ≤ m → m < to → starts t.seconds e m ≡ true
  during m h l =
      let few : to ≤ t.frames = started-few t (30 * e + 30) in
      rw (
        le-leb (30 * e) (m * t.seconds) (started-after t some (30 * e) m (omega arith) h),
        lt-ltb (m * t.seconds) (30 * e + 30) (started-before t some (30 * e + 30) m l),
      )

  no_more : (m : ℕ) → to ≤ m → m < t.frames → starts t.seconds e m ≡ false
  no_more m h l =
      let x : 30 * e + 30 ≤ m * t.seconds = started-after t some (30 * e + 30) m l h in
      rw (le-leb (30 * e) (m * t.seconds) (omega arith), le-ltb (m * t.seconds) (30 * e + 30) x)

  -- what the reading has of each is what the bytes have
  abbrev Shows : ℕ → List FrameReading → Type 0
  Shows n fs = (m : ℕ) (f : FrameReading) → indexed fs m ≡ value f → wholes (numbered f.channels k) ≡ frame_numbers s t (n + m)

  shows_first : (n : ℕ) (f : FrameReading) (fs : List FrameReading) → Shows n (f ∷ fs) → wholes (numbered f.channels k) ≡ frame_numbers s t n
  unfolding indexed
  shows_first n f fs h = let z : n + 0 ≡ n = omega arith in h 0 f refl ∙ ap (frame_numbers s t) z

  shows-rest : (n : ℕ) (f : FrameReading) (fs : List FrameReading) → Shows n (f ∷ fs) → Shows (suc n) fs
  unfolding indexed
  shows-rest n f fs h m g i = let z : n + suc m ≡ suc n + m = omega arith in h (suc m) g i ∙ ap (frame_numbers s t) z

  beyond : (fs : List FrameReading) (n : ℕ) → to ≤ n → n + length fs ≡ t.frames → samples_in t.seconds e k n fs ≡ []
  unfolding samples_in
  beyond [] n h l = refl
  beyond (f ∷ fs) n h l = rw (no_more n h (omega arith)) (beyond fs (suc n) (omega arith) (omega arith))

  inside : (fs : List FrameReading) (n c : ℕ) → from ≤ n → n + c ≡ to → n + length fs ≡ t.frames → Shows n fs →
      samples_in t.seconds e k n fs ≡ frames_numbers s t n c
  unfolding samples_in frames_numbers
  inside fs n zero h i l g = beyond fs n (omega arith) l
  inside [] n (suc c) h i l g = absurd (omega (arith, started-few t (30 * e + 30)))
  inside (f ∷ fs) n (suc c) h i l g =
      rw (during n h (omega arith), shows_first n f fs g)
      (ap (λ (zs : List ℤ). frame_numbers s t n ++ zs) (inside fs (suc n) c (omega arith) (omega arith) (omega arith) (shows-rest n f fs g)))

  -- the frame behind n others does not start before the epoch
  reached : (fs : List FrameReading) (n : ℕ) → n ≤ from → from ≤ n → n + length fs ≡ t.frames → Shows n fs → samples_in t.seconds e k n fs ≡ epoch_numbers s t e
  reached fs n h b l g =
      let i : n ≡ from = omega arith in
      inside fs n (to - from) b (omega (arith, forward)) l g ∙ ap (λ (m : ℕ). frames_numbers s t m (to - from)) i

  before : (fs : List FrameReading) (n : ℕ) → n ≤ from → n + length fs ≡ t.frames → Shows n fs → samples_in t.seconds e k n fs ≡ epoch_numbers s t e
  unfolding samples_in
  before [] n h l g = reached [] n h (omega (arith, started-few t (30 * e))) l g
  before (f ∷ fs) n h l g = go (ltb n from) refl (λ b. before fs (suc n) b (omega arith) (shows-rest n f fs g))
    where
      go : (c : Bool) → ltb n from ≡ c → (n < from → samples_in t.seconds e k (suc n) fs ≡ epoch_numbers s t e) →
          samples_in t.seconds e k n (f ∷ fs) ≡ epoch_numbers s t e
      go true b next = rw (not_yet n (ltb-true n from b)) (next (ltb-true n from b))
      go false b next = reached (f ∷ fs) n h (ltb-false n from b) l g

  pub epoch-samples : (fs : List FrameReading) → length fs ≡ t.frames →
      ((m : ℕ) (f : FrameReading) → indexed fs m ≡ value f → wholes (numbered f.channels k) ≡ frame_numbers s t m) →
      samples_in t.seconds e k 0 fs ≡ epoch_numbers s t e
  epoch-samples fs l g =
      before fs 0 (omega arith) (omega arith)
      (λ m f i. let z : m ≡ 0 + m = omega arith in g m f i ∙ ap (frame_numbers s t) z)
