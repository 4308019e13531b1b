-- The numbers of an epoch: none, or as many as its frames have, and the smallest and the largest of them.
-- Assumes nothing.
use Rattle.std.proofs.Common.{Some, None}
use mathlib.Core.Path.{◌≡◌, refl, sym, ap, ◌∙◌}
use mathlib.Core.List.{List, [], ◌∷◌}
use Prim.Native.Nat.{ℕ, zero, suc, ◌+◌, ◌-◌, ◌*◌, ◌^◌, ◌≤◌, ◌<◌}
use native.Mathlib.Nat.{zero-mul, mul-zero, mul-suc, mul-le-mul_left, mul-le-mul_right}
use native.Mathlib.Omega.{arith}
use lib.IntN.{ℤ}
use lib.ListN.{length, length-append}
use Rattle.words.specs.Numbers.{bytes_at}
use Rattle.samples.specs.declared.Track.{Track}
use Rattle.overview.specs.Overview.{envelope_of}
use Rattle.overview.specs.Steps.{extremes_of, frames_numbers, started_by, epoch_numbers, EpochIs}
use Rattle.overview.specs.declared.Envelope.{Envelope}
use Rattle.overview.specs.declared.extremes.Extremes.{Extremes}
use Rattle.overview.proofs.Framed.{wholes-many}
use Rattle.overview.proofs.Seconds.{started-few}

module _ (s : List ℕ) (t : Track) where
  pub frames-many : (n m : ℕ) → length (frames_numbers s t n m) ≡ t.first.count * m
  unfolding frames_numbers
  frames-many n zero = sym (mul-zero t.first.count)
  frames-many n (suc m) =
      let w = wholes-many t.order t.first.width t.first.count (bytes_at (t.first.width * t.first.count) s (t.first.position + t.step * n)) 0 in
      rw (length-append, w, frames-many (suc n) m) (omega (arith, mul-suc t.first.count m))

-- an envelope by its numbers, and one of none
envelope-some : (zs : List ℤ) → 1 ≤ length zs →
    envelope_of zs ≡ Some (record { smallest = (extremes_of zs).smallest; largest = (extremes_of zs).largest; count = length zs })
envelope-some [] h = absurd (omega arith)
envelope-some (z ∷ zs) h = refl

envelope-none : (zs : List ℤ) → length zs ≡ 0 → envelope_of zs ≡ None
envelope-none [] h = refl
envelope-none (z ∷ zs) h = absurd (omega (arith, h))

-- how many an epoch can have
pub count_low : (a b : ℕ) → a < 2147483648 → b < 2 ^ 32 → a * b < 9223372036854775808
count_low a b h l =
    let k : b ≤ 4294967295 = omega arith in
    omega (arith, mul-le-mul_left a k)

module _ (s : List ℕ) (t : Track) (e : ℕ) where
  abbrev first : ℕ
  first = started_by t (30 * e)

  abbrev end : ℕ
  end = started_by t (30 * e + 30)

  -- none where a frame has none, or no frame starts
  epoch-none : t.first.count * (end - first) ≡ 0 → EpochIs s t e None
  epoch-none h = record { is = sym (envelope-none (epoch_numbers s t e) (frames-many s t first (end - first) ∙ h)); small = omega arith }

  pub no_samples : t.first.count ≡ 0 → EpochIs s t e None
  no_samples h = epoch-none (ap (λ (n : ℕ). n * (end - first)) h ∙ zero-mul (end - first))

  pub no_frames : end ≤ first → EpochIs s t e None
  no_frames h = let z : end - first ≡ 0 = omega arith in epoch-none (ap (λ (n : ℕ). t.first.count * n) z ∙ mul-zero t.first.count)

  -- else those of the frames from f on, up to the one behind l others
  pub epoch-some : (f l : ℕ) → f ≡ first → l ≡ end → 1 ≤ t.first.count → f < l → t.first.count < 2147483648 → t.frames < 2 ^ 32 →
      (x : Extremes) → x ≡ extremes_of (frames_numbers s t f (l - f)) → (r : Envelope) →
      r.smallest ≡ x.smallest → r.largest ≡ x.largest → r.count ≡ t.first.count * (l - f) → EpochIs s t e (Some r)
  epoch-some f l ef el c h few all x is r a b d =
      let m = frames-many s t f (l - f) in
      let k : 1 ≤ l - f = omega arith in
      let n : 1 * 1 ≤ t.first.count * (l - f) = omega (arith, mul-le-mul_right (l - f) c, k) in
      let g = envelope-some (frames_numbers s t f (l - f)) (omega (arith, m, n)) in
      record {
        is =
            rw (← ef, ← el)
            (ap Some (λ i. record {
              smallest = (a ∙ ap (λ (y : Extremes). y.smallest) is) i;
              largest = (b ∙ ap (λ (y : Extremes). y.largest) is) i;
              count = (d ∙ sym m) i;
            }) ∙ sym g);
        small = rw d (count_low t.first.count (l - f) few (omega (arith, el, started-few t (30 * e + 30))));
      }
