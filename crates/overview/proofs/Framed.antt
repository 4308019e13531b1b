-- The numbers of a frame, as a part of the file; and those of frames, one after the other.
-- Assumes nothing.
use mathlib.Core.Path.{◌≡◌, refl, sym, ap, ◌∙◌}
use mathlib.Core.List.{List, [], ◌∷◌, ◌++◌, append_assoc, append-nil}
use Prim.Native.Nat.{ℕ, zero, suc, ◌+◌, ◌-◌, ◌*◌, ◌≤◌, ◌<◌}
use native.Mathlib.Nat.{mul-suc}
use native.Mathlib.Omega.{arith}
use lib.IntN.{ℤ}
use lib.ListN.{length, take, drop, length-append, length-drop}
use lib.Seq.{length-take-le}
use Rattle.words.specs.Numbers.{bytes_at}
use Rattle.words.specs.declared.Order.{Order}
use Rattle.samples.specs.declared.Track.{Track}
use Rattle.decode.specs.Wide.{Wide}
use Rattle.overview.specs.Overview.{foremost}
use Rattle.overview.specs.Steps.{wholes_at, NumbersOf, widened, extremes_of, both_of, ExtremesAre, PairOf, PairAre}
use Rattle.overview.specs.Steps.{frame_numbers, frames_numbers, FrameThere, FramesThere}
use Rattle.overview.specs.declared.extremes.Extremes.{Extremes}
use Rattle.overview.proofs.Foremost.{widened-append, widened-both}

-- one or more of something
one_more : (n : ℕ) → 1 ≤ n → (m : ℕ) × (n ≡ suc m)
one_more zero h = absurd (omega arith)
one_more (suc m) h = (m, refl)

-- a part of n bytes from a on
part-long : (s : List ℕ) (a n : ℕ) → a + n ≤ length s → length (take n (drop a s)) ≡ n
part-long s a n l = length-take-le n (drop a s) (rw length-drop (omega arith))

-- the samples of the frame behind j others lie inside the file, from byte a on
pub record Inside (s : List ℕ) (t : Track) (j a : ℕ) : Type 0 where
  pub some : 1 ≤ t.first.count
  pub at : a ≡ t.first.position + t.step * j
  pub inside : a + t.first.width * t.first.count ≤ length s

pub frame-inside : {s : List ℕ} {t : Track} {j : ℕ} → FrameThere (length s) t j → Inside s t j (t.first.position + t.step * j)
frame-inside {s} {t} {j} h = record { some = h.samples; at = refl; inside = h.tracked.inside j h.there }

module _ {s : List ℕ} {t : Track} {j : ℕ} (h : FramesThere (length s) t j (j + 2)) where
  pub first-inside : Inside s t j (t.first.position + t.step * j)
  first-inside = record { some = h.samples; at = refl; inside = h.tracked.inside j (omega (arith, h.last)) }

  pub next-inside : Inside s t (suc j) (t.first.position + t.step * j + t.step)
  next-inside = record {
    some = h.samples;
    at = omega (arith, mul-suc t.step j);
    inside = omega (arith, mul-suc t.step j, h.tracked.inside (suc j) (omega (arith, h.last)));
  }

module _ {s : List ℕ} {t : Track} {j a : ℕ} (i : Inside s t j a) where
  abbrev w : ℕ
  w = t.first.width

  -- the part of the file, as the code cuts it
  abbrev part : List ℕ
  part = take (a + w * t.first.count - a) (drop a s)

  is : part ≡ take (w * t.first.count) (drop (t.first.position + t.step * j) s)
  is = let e : a + w * t.first.count - a ≡ w * t.first.count = omega arith in rw (e, i.at) refl

  long : length part ≡ w * t.first.count
  long = let e : a + w * t.first.count - a ≡ w * t.first.count = omega arith in rw e (part-long s a (w * t.first.count) i.inside)

  pub framed-numbers : Wide w → NumbersOf w part
  framed-numbers h = let m = one_more t.first.count i.some in record { wide = h; more = m.0; long = long ∙ ap (λ (n : ℕ). w * n) m.1 }

  framed-wholes : (m : ℕ) → t.first.count ≡ suc m → wholes_at t.order w (suc m) part 0 ≡ frame_numbers s t j
  unfolding bytes_at
  framed-wholes m e = ap (λ (n : ℕ). wholes_at t.order w n part 0) (sym e) ∙ ap (λ (q : List ℕ). wholes_at t.order w t.first.count q 0) is

  pub framed_is : (r : Extremes) → ExtremesAre t.order w part r → r ≡ extremes_of (frame_numbers s t j)
  framed_is r h =
      let m = one_more t.first.count i.some in
      h m.0 (long ∙ ap (λ (n : ℕ). w * n) m.1) ∙ ap extremes_of (framed-wholes m.0 m.1)

-- as many as there are
pub wholes-many : (o : Order) (w n : ℕ) (s : List ℕ) (p : ℕ) → length (wholes_at o w n s p) ≡ n
unfolding wholes_at
wholes-many o w zero s p = refl
wholes-many o w (suc n) s p = ap suc (wholes-many o w n s (p + w))

-- of some numbers, and more
extremes-append : (xs ys : List ℤ) → 1 ≤ length xs → extremes_of (xs ++ ys) ≡ widened (extremes_of xs) ys
extremes-append [] ys h = absurd (omega arith)
extremes-append (x ∷ xs) ys h = widened-append (record { smallest = x; largest = x }) xs ys

extremes-both : (x : Extremes) (xs : List ℤ) → 1 ≤ length xs → both_of x (extremes_of xs) ≡ widened x xs
extremes-both x [] h = absurd (omega arith)
extremes-both x (y ∷ ys) h = widened-both x y ys

-- x is that of the frames passed: with those that are left, up to the one behind `end` others, it comes to what all come to
pub record Framing (s : List ℕ) (t : Track) (n end : ℕ) (x : Extremes) (j : ℕ) : Type 0 where
  pub first : n < j
  pub last : j ≤ end
  pub same : widened x (frames_numbers s t j (end - j)) ≡ extremes_of (frames_numbers s t n (end - n))

module _ (s : List ℕ) (t : Track) (some : 1 ≤ t.first.count) where
  frame-some : (j : ℕ) → 1 ≤ length (frame_numbers s t j)
  frame-some j =
      let bytes = bytes_at (t.first.width * t.first.count) s (t.first.position + t.step * j) in
      omega (arith, some, wholes-many t.order t.first.width t.first.count bytes 0)

  -- a frame, and the next
  pub frames-one : (j : ℕ) → frames_numbers s t j 1 ≡ frame_numbers s t j
  unfolding frames_numbers
  frames-one j = append-nil (frame_numbers s t j)

  pub frames-two : (j : ℕ) → extremes_of (frames_numbers s t j 2) ≡ both_of (extremes_of (frame_numbers s t j)) (extremes_of (frame_numbers s t (suc j)))
  unfolding frames_numbers
  frames-two j =
      rw (append-nil (frame_numbers s t (suc j)))
      (extremes-append (frame_numbers s t j) (frame_numbers s t (suc j)) (frame-some j)
      ∙ sym (extremes-both (extremes_of (frame_numbers s t j)) (frame_numbers s t (suc j)) (frame-some (suc j))))

  frames-some : (m j : ℕ) → 1 ≤ m → 1 ≤ length (frames_numbers s t j m)
  unfolding frames_numbers
  frames-some zero j h = absurd (omega arith)
  frames-some (suc m) j h = rw length-append (omega (arith, frame-some j))

  module _ (end : ℕ) where
    -- some frames, and those behind them
    frames-split : (m j : ℕ) → j + m ≤ end → frames_numbers s t j (end - j) ≡ frames_numbers s t j m ++ frames_numbers s t (j + m) (end - (j + m))
    unfolding frames_numbers
    frames-split zero j l = let e : j + 0 ≡ j = omega arith in rw e refl
    frames-split (suc m) j l =
        let e : end - j ≡ suc (end - suc j) = omega arith in
        let d : j + suc m ≡ suc j + m = omega arith in
        rw (e, d, append_assoc (frame_numbers s t j)) (ap (λ (zs : List ℤ). frame_numbers s t j ++ zs) (frames-split m (suc j) (omega arith)))

    pub framing-first : (n : ℕ) → n < end → (x : Extremes) → x ≡ extremes_of (frame_numbers s t n) →
        Framing s t n end x (n + 1)
    framing-first n l x e = record {
      first = omega arith;
      last = omega arith;
      same =
          rw (e, frames-split 1 n (omega arith), frames-one n)
          (sym (extremes-append (frame_numbers s t n) (frames_numbers s t (n + 1) (end - (n + 1))) (frame-some n)));
    }

    module _ {n : ℕ} {x : Extremes} {j : ℕ} (f : Framing s t n end x j) where
      pub framing-more : (m : ℕ) → 1 ≤ m → j + m ≤ end → (y r : Extremes) → y ≡ extremes_of (frames_numbers s t j m) → r ≡ both_of x y →
          Framing s t n end r (j + m)
      framing-more m k l y r e h =
          let g : r ≡ widened x (frames_numbers s t j m) = h ∙ (ap (both_of x) e ∙ extremes-both x (frames_numbers s t j m) (frames-some m j k)) in
          record {
            first = omega (arith, f.first);
            last = omega arith;
            same =
                rw g
                (sym (widened-append x (frames_numbers s t j m) (frames_numbers s t (j + m) (end - (j + m))))
                ∙ (ap (widened x) (sym (frames-split m j l)) ∙ f.same));
          }

      pub framing-all : end ≤ j → x ≡ extremes_of (frames_numbers s t n (end - n))
      unfolding frames_numbers foremost
      framing-all l = let e : end - j ≡ 0 = omega arith in rw e at f.same

-- a frame and the next, as two parts of the file
module _ {s : List ℕ} {t : Track} {j a b : ℕ} (x : Inside s t j a) (y : Inside s t (suc j) b) where
  pub framed-pair : Wide t.first.width → PairOf t.first.width (part x) (part y)
  framed-pair h = record { numbers = framed-numbers x h; alike = long y ∙ sym (long x) }

  pub framed-both : (r : Extremes) → PairAre t.order t.first.width (part x) (part y) r → r ≡ extremes_of (frames_numbers s t j 2)
  framed-both r h =
      let m = one_more t.first.count x.some in
      let f = framed-wholes x m.0 m.1 in
      let g = framed-wholes y m.0 m.1 in
      h m.0 (long x ∙ ap (λ (n : ℕ). t.first.width * n) m.1)
      ∙ ((λ i. both_of (extremes_of (f i)) (extremes_of (g i))) ∙ sym (frames-two s t x.some j))
