-- The frames of a canonical 140: what one of them is from what the code wrote, and all of them behind the 140's first numbers.
-- Assumes nothing.
use mathlib.Core.Path.{◌≡◌, refl, sym, ap, ◌∙◌}
use mathlib.Core.Bool.{Bool, false, ◌&&◌}
use mathlib.Core.List.{List, [], ◌∷◌, ◌++◌, append_assoc, append-nil}
use Prim.Native.Nat.{ℕ, zero, suc, ◌+◌, ◌*◌, ◌-◌, ◌≤◌, ◌<◌}
use native.Mathlib.Nat.{zero-mul, suc-mul, mul-suc, mul_comm, sub-zero}
use native.Mathlib.Numerals.{add-one}
use native.Mathlib.Omega.{arith}
use borrow.Author.Tests.{leb-true, eqb-true}
use lib.Dec.{eqb}
use lib.ListN.{length, take, drop, replicate, length-drop}
use lib.Seq.{take_all, length-take-le}
use Rattle.words.specs.Numbers.{bytes_in, number_at, numbers_at}
use Rattle.words.specs.declared.Order.{Order}
use Rattle.words.specs.declared.Order.TheVariants.{Little, Big}
use Rattle.words.proofs.Fronts.{put, front-more, front-all}
use Rattle.walk.specs.See.{goes, see}
use Rattle.walk.specs.Walk.{laid, Event, numeral, render, Walk, give, ◌>>=◌, ◌>>◌}
use Rattle.walk.proofs.Seen.{part-number, part-numbers, stays-goes, and_left}
use Rattle.walk.proofs.Tracing.{render-append}
use Rattle.walk.proofs.Went.{gate-went, went-first, goes_same}
use Rattle.rules.specs.Canonical.{blanks, zeroes, numerals, row_of, plain_head, record_of}
use Rattle.rules.specs.Canonical.{sample_events, frame_written, frame_size, frame_events, frames_bytes, frames_head, frames_written}
use Rattle.rules.specs.declared.Label.{Label}
use Rattle.rules.specs.Rules.{most_of, Head, head, span, admit, coded, between, pad_ok, padding, series, Basic}
use Rattle.rules.specs.Rules.{Channel, width, samples_in, sample_bytes, number_list, samples, Frame, frame_body, frame, Frames, frames_body}
use Rattle.rules.specs.declared.Channels.{Channels}
use Rattle.rules.proofs.Room.{stays-frame}
use Rattle.records.specs.Says.{ChannelsStand}
use Rattle.descriptions.proofs.Parts.{bind_goes}
use Rattle.records.proofs.Opened.{admit-went, require-went, head-went}
use Rattle.bodies.specs.Copy.{copy, filling}
use Rattle.bodies.specs.declared.Way.{Way}
use Rattle.measures.specs.Measures.{FramesSay, FrameIn}
use Rattle.measures.proofs.Canonic.{frame-bare}
use Rattle.rewrite.specs.FramesAnew.{FrameAnew, FramesAnew}

-- numbers of a width one after the other, and channels' samples, as they stand in the bytes s from byte k on
module _ (o : Order) where
  abbrev samples_at : ℕ → List Channel → List ℕ → ℕ → List (List ℕ)
  samples_at t [] s k = []
  samples_at t (c ∷ cs) s k = numbers_at o (width c.format) (samples_in t c) s k ∷ samples_at t cs s (k + samples_in t c * width c.format)

  module _ (b : ℕ) (s : List ℕ) where
    -- the walk gives them
    sees-numbers : (w n k : ℕ) → see o b s (b + k) (number_list w n) ≡ goes (numbers_at o w n s k) (b + (k + n * w))
    unfolding number_list see ◌>>=◌
    sees-numbers w zero k = ap (λ (x : ℕ). goes [] (b + x)) (omega (arith, zero-mul w))
    sees-numbers w (suc n) k =
        let i : b + k - b ≡ k = omega arith in
        let j : b + k + w ≡ b + (k + w) = omega arith in
        let l : k + w + n * w ≡ k + suc n * w = omega (arith, suc-mul n w) in
        let v : ℕ → Walk (List ℕ) = λ x. number_list w n >>= λ l. give (number_at o w s x ∷ l) in
        ap (λ (x : ℕ). see o b s (b + k + w) (v x)) i
        ∙ (ap (λ (x : ℕ). see o b s x (v k)) j
        ∙ (bind_goes o b s (b + (k + w)) (number_list w n) (λ l. give (number_at o w s k ∷ l)) (sees-numbers w n (k + w)) ∙ ap
        (λ (x : ℕ). goes (numbers_at o w (suc n) s k) (b + x)) l))

    sees-samples : (t : ℕ) (cs : List Channel) (k : ℕ) → see o b s (b + k) (samples t cs) ≡ goes (samples_at t cs s k) (b + (k + sample_bytes t cs))
    unfolding samples sample_bytes see
    sees-samples t [] k = ap (λ (x : ℕ). goes [] (b + x)) (omega arith)
    sees-samples t (c ∷ cs) k =
        let w : ℕ = width c.format in
        let n : ℕ = samples_in t c in
        bind_goes o b s (b + k) (number_list w n) (λ l. samples t cs >>= λ r. give (l ∷ r)) (sees-numbers w n k)
        ∙ (bind_goes o b s (b + (k + n * w)) (samples t cs) (λ r. give (numbers_at o w n s k ∷ r)) (sees-samples t cs (k + n * w))
        ∙ ap (λ (x : ℕ). goes (samples_at t (c ∷ cs) s k) (b + x)) (omega arith))

  -- a part of s has them where the whole has them
  module _ (s : List ℕ) (a m : ℕ) where
    part-samples : (t : ℕ) (cs : List Channel) (k : ℕ) → k + sample_bytes t cs ≤ m → samples_at t cs (take m (drop a s)) k ≡ samples_at t cs s (a + k)
    unfolding sample_bytes
    part-samples t [] k h = refl
    part-samples t (c ∷ cs) k h =
        let w : ℕ = width c.format in
        let n : ℕ = samples_in t c in
        let i : a + (k + n * w) ≡ a + k + n * w = omega arith in
        rw (part-numbers o s a m w n k (omega arith), part-samples t cs (k + n * w) (omega arith), i)

-- a record's bytes, and those of events with padding behind them

pub render-record : (o : Order) (h : Head) (t : List Event) → render o (record_of h t) ≡ render o (numerals h) ++ render o t
unfolding record_of render
render-record o h t = render-append o (numerals h) (row_of h ∷ t)

render-zeroes : (o : Order) (n : ℕ) → render o (zeroes n ∷ []) ≡ replicate n 0
unfolding render laid
render-zeroes Little n = append-nil (replicate n 0)
render-zeroes Big n = append-nil (replicate n 0)

pub padded-events : (o : Order) (t : List Event) (n : ℕ) → render o (t ++ (zeroes n ∷ [])) ≡ render o t ++ replicate n 0
padded-events o t n = render-append o t (zeroes n ∷ []) ∙ rw (render-zeroes o n)

-- One frame

module _ (w : Way) (t : ℕ) (ch : List Channel) (s : List ℕ) (f : Frame) (clear : w.keep ≡ false) (whole : length s ≡ 24 + sample_bytes t ch)
    (stands : FrameIn w.from t ch s f) where
  body-written : copy w 16 (take (length s - 16) (drop 16 s)) 16 (filling t ch) ≡ render w.to (frame_written ch f)
  unfolding frame_written
  body-written =
      let l : take (length s - 16) (drop 16 s) ≡ drop 16 s = take_all (length s - 16) (drop 16 s) (rw length-drop (omega arith)) in
      rw (clear, frame-bare w.from 0 t ch s (take (length s - 16) (drop 16 s)) f l (omega arith) stands)
      (sym (padded-events w.to (numeral 2 f.hour ∷ numeral 2 f.minute ∷ numeral 2 f.second ∷ blanks 2 ∷ sample_events ch f.channels) 0 ∙ append-nil _))

  -- the code wrote the head, and then what fills the frame
  pub frame-written : (d ys zs : List ℕ) (i : ℕ) → let d₁ = put 0 16 d ys in let d₂ = put 16 (length d₁ - 16) d₁ zs in
      length d ≡ length s → length d₁ ≡ length d → length d₂ ≡ length d₁ →
      ys ≡ render w.to (numerals (plain_head (length s) 145 i)) → ((b : ℕ) → zs ≡ copy w b (take (length s - 16) (drop 16 s)) b (filling t ch)) →
      d₂ ≡ render w.to (record_of (plain_head (length s) 145 i) (frame_written ch f))
  frame-written d ys zs i k l₁ l₂ e₁ e₂ =
      front-all (put 0 16 d ys) zs ys 16 (length (put 0 16 d ys) - 16) (omega arith) l₂ (front-more d ys [] 0 16 (omega arith) l₁ refl)
      ∙ rw (render-record w.to (plain_head (length s) 145 i) (frame_written ch f), ← e₁, ← body-written, e₂ 16)

-- The frames of a body of a 140

-- frames that stand in s from byte p on, each `size` bytes behind the one before it and `filled` bytes long without its padding
abbrev pub FramesIn : Order → ℕ → List Channel → ℕ → ℕ → List ℕ → ℕ → List Frame → Type 0
FramesIn o t ch filled size s p [] = Unit {0}
FramesIn o t ch filled size s p (f ∷ fs) = FrameIn o t ch (take filled (drop p s)) f × FramesIn o t ch filled size s (p + size) fs

-- what a walk gives behind padding
gives-padded : {A : Type 0} (o : Order) (b : ℕ) (s : List ℕ) (at n : ℕ) (a : A) {x : A} {e : ℕ} → see o b s at (padding n >> give a) ≡ goes x e → x ≡ a
unfolding see ◌>>◌
gives-padded o b s at n a g = sym (goes_same (went-first o b s at (padding n) (λ _. give a) g).kept).0

module _ (o : Order) (label : Label) (b : ℕ) (s : List ℕ) (t : ℕ) (ch : List Channel) where
  -- what the walk over a frame's body gives
  record BodyIn (q : ℕ) (f : Frame) : Type 0 where
    hour : f.hour ≡ number_at o 2 s q
    minute : f.minute ≡ number_at o 2 s (q + 2)
    second : f.second ≡ number_at o 2 s (q + 4)
    channels : f.channels ≡ samples_at o t ch s (q + 8)

  body-in : (size q : ℕ) {f : Frame} {e : ℕ} → see o b s (b + q) (frame_body size t ch) ≡ goes f e → BodyIn q f
  unfolding frame_body see ◌>>=◌ ◌>>◌
  body-in size q {f} {e} g =
      let z₀ : b + q - b ≡ q = omega arith in
      let z₁ : b + q + 2 - b ≡ q + 2 = omega arith in
      let z₂ : b + q + 2 + 2 - b ≡ q + 4 = omega arith in
      let z₃ : b + q + 2 + 2 + 2 + 2 ≡ b + (q + 8) = omega arith in
      let n : ℕ = size - (24 + sample_bytes t ch) in
      let made : List (List ℕ) → Frame = λ ss. record {
        hour = number_at o 2 s q;
        minute = number_at o 2 s (q + 2);
        second =
            number_at o 2 s (q + 4);
        channels = ss;
      } in
      let g₁ = gate-went _ _ _ _ (rw (z₀, z₁, z₂, z₃) at g) in
      let g₂ = gate-went _ _ _ _ g₁.1 in
      let g₃ = gate-went _ _ _ _ g₂.1 in
      let x = sym (bind_goes o b s (b + (q + 8)) (samples t ch) (λ ss. padding n >> give (made ss)) (sees-samples o b s t ch (q + 8))) ∙ g₃.1 in
      let i : f ≡ made (samples_at o t ch s (q + 8)) = gives-padded o b s (b + (q + 8 + sample_bytes t ch)) n (made (samples_at o t ch s (q + 8))) x in
      record {
        hour = ap (λ (z : Frame). z.hour) i;
        minute = ap (λ (z : Frame). z.minute) i;
        second = ap (λ (z : Frame). z.second) i;
        channels =
            ap (λ (z : Frame). z.channels) i;
      }

  module _ (filled size : ℕ) (is : filled ≡ 24 + sample_bytes t ch) (fits : filled ≤ size) where
    frame-in : (p room i : ℕ) {f : Frame} {e : ℕ} → p + room ≤ length s → see o b s (b + p) (frame label size t ch room i) ≡ goes f e →
        FrameIn o t ch (take filled (drop p s)) f
    unfolding frame
    frame-in p room i l g =
        let ok : Head → ℕ → Bool = λ h n. eqb n size && pad_ok h (n - (24 + sample_bytes t ch)) in
        let x = went-first o b s (b + p) (head room) (λ h. coded h 145 >> (admit room (most_of label) (ok h) (eqb i) h >> frame_body size t ch)) g in
        let h : Head = x.value in
        let c = require-went o b s x.end (eqb h.code 145) 9 12 (admit room (most_of label) (ok h) (eqb i) h >> frame_body size t ch) x.kept in
        let d = admit-went o b s x.end room (most_of label) (ok h) (eqb i) h (frame_body size t ch) c.1 in
        let j : x.end ≡ b + (p + 16) = head-went o b s (b + p) room x.is ∙ omega arith in
        let y = body-in size (p + 16) (rw j at d.rest) in
        let z : span h ≡ size = eqb-true (span h) size (and_left (eqb (span h) size) _ d.length) in
        let n : length (take filled (drop p s)) ≡ filled = length-take-le filled (drop p s) (rw length-drop (omega (arith, d.inside))) in
        let a : p + 16 + 8 ≡ p + 24 = omega arith in
        record {
          hour = y.hour ∙ sym (part-number o s p filled 2 16 (omega arith));
          minute = y.minute ∙ ap (λ (q : ℕ). number_at o 2 s q) (omega arith) ∙ sym (part-number o s p filled 2 18 (omega arith));
          second = y.second ∙ ap (λ (q : ℕ). number_at o 2 s q) (omega arith) ∙ sym (part-number o s p filled 2 20 (omega arith));
          samples = λ c. sees-samples o c (take filled (drop p s)) t ch 24 ∙ rw (n, part-samples o s p filled t ch 24 (omega arith), y.channels, a, is);
        }

    frames-in : (n i room p : ℕ) {fs : List Frame} {e : ℕ} → p + room ≤ length s →
        see o b s (b + p) (series n i size room (frame label size t ch)) ≡ goes fs e → (length fs ≡ n) × FramesIn o t ch filled size s p fs
    unfolding series see
    frames-in zero i room p l g = rw (← (goes_same g).0) (refl, tt)
    frames-in (suc n) i room p l g =
        let v : Walk (List Frame) = series n (suc i) size (room - size) (frame label size t ch) in
        let x = went-first o b s (b + p) (frame label size t ch room i) (λ a. v >>= λ r. give (a ∷ r)) g in
        let z : (x.end ≡ b + p + size) × (x.end ≤ b + p + room) =
        stays-goes o b s (b + p + room) (omega arith) (frame label size t ch room i) (b + p) _ (omega arith)
        (stays-frame label size t ch (omega arith) i (b + p) room) x.is in
        let y = went-first o b s x.end v (λ r. give (x.value ∷ r)) x.kept in
        let j : x.end ≡ b + (p + size) = omega (arith, z.0) in
        let r = frames-in n (suc i) (room - size) (p + size) (omega (arith, z.0, z.1)) (ap (λ (q : ℕ). see o b s q v) (sym j) ∙ y.is) in
        rw (← (goes_same y.kept).0) (ap suc r.0, (frame-in p room i l x.is, r.1))

  -- the body of a 140 whose three numbers are known, in a part that it fills
  frames-stand : (filled size count : ℕ) (c : Basic) (hd : Head) (f : Frames) (e : ℕ) → filled ≡ 24 + sample_bytes t ch → FramesSay o s t size count →
      span hd ≡ 16 + length s →
      see o b s b (frames_body label c ch hd) ≡ goes f e → (length f.frames ≡ count) × FramesIn o t ch filled size s 16 f.frames
  unfolding frames_body between see ◌>>=◌ ◌>>◌
  frames-stand filled size count c hd f e i says whole g =
      let z₀ : b - b ≡ 0 = omega arith in
      let z₁ : b + 4 - b ≡ 4 = omega arith in
      let z₂ : b + 4 + 4 - b ≡ 8 = omega arith in
      let z₃ : b + 4 + 4 + 4 + 4 ≡ b + 16 = omega arith in
      let v : Walk (List Frame) = series count 1 size (span hd - 32) (frame label size t ch) in
      let made : List Frame → Frames = λ fs. record {
        seconds = t;
        frames = fs;
        size = size;
        padded =
            count * (size - (24 + sample_bytes t ch)) + (span hd - (32 + count * size));
      } in
      let g₁ = gate-went _ _ _ _ (rw (z₀, z₁, z₂, z₃, says.seconds, says.size, says.count) at g) in
      let g₂ = gate-went _ _ _ _ g₁.1 in
      let g₃ = gate-went _ _ _ _ g₂.1 in
      let g₄ = gate-went _ _ _ _ g₃.1 in
      let g₅ = gate-went _ _ _ _ g₄.1 in
      let x = went-first o b s (b + 16) v (λ fs. padding (span hd - (32 + count * size)) >> give (made fs)) g₅.1 in
      let l : 24 + sample_bytes t ch ≤ size = leb-true _ _ (and_left _ _ (and_left _ _ g₃.0)) in
      let k : 32 + count * size ≤ span hd = leb-true _ _ (and_left _ _ g₅.0) in
      rw (gives-padded o b s x.end (span hd - (32 + count * size)) (made x.value) x.kept)
      (frames-in filled size i (omega arith) count 1 (span hd - 32) 16 {fs = x.value} {e = x.end} (omega arith) x.is)

-- The frames that are written, and those that are still to write

-- what a canonical 140 has behind its head and before its padding
abbrev pub opened : ℕ → List Channel → List Frame → List Event
opened t ch fs = numeral 4 t ∷ numeral 4 (frame_size t ch) ∷ numeral 4 (length fs) ∷ blanks 4 ∷ frame_events t ch 1 fs

events-more : (o : Order) (t : ℕ) (ch : List Channel) (i : ℕ) (f : Frame) (fs : List Frame) →
    render o (frame_events t ch i (f ∷ fs)) ≡ render o (record_of (plain_head (frame_size t ch) 145 i) (frame_written ch f)) ++ render o
    (frame_events t ch (i + 1) fs)
unfolding frame_events
events-more o t ch i f fs = render-append o (record_of (plain_head (frame_size t ch) 145 i) (frame_written ch f)) (frame_events t ch (suc i) fs) ∙ rw add-one

-- there is room for one more of so many
room-more : (from size count i n : ℕ) → i < count → from + size * (count - i) ≤ n → (from + size ≤ n) × (from + size + size * (count - (i + 1)) ≤ n)
room-more from size count i n f l =
    let e : count - i ≡ suc (count - (i + 1)) = omega arith in
    let a : size * (count - i) ≡ size * (count - (i + 1)) + size = ap (λ (x : ℕ). size * x) e ∙ mul-suc size (count - (i + 1)) in
    (omega arith, omega arith)

module _ (w : Way) (file : List ℕ) (cs : Channels) (t filled size count : ℕ) (s : List ℕ) where
  -- i frames are written, before byte k of d; the others stand in s from byte `from` on
  pub record Rest (ch : List Channel) (fs : List Frame) (d : List ℕ) (from k i : ℕ) : Type 0 where
    pub rest : List Frame
    pub many : i + length rest ≡ count
    pub stands : FramesIn w.from t ch filled size s from rest
    pub is : take k d ++ render w.to (frame_events t ch (i + 1) rest) ≡ render w.to (opened t ch fs)

  -- what the code knows, whatever the bytes are; n is the buffer's length
  pub record Framing (n : ℕ) (d : List ℕ) (from k i : ℕ) : Type 0 where
    pub source : from + size * (count - i) ≤ length s
    pub target : k + filled * (count - i) ≤ n
    pub place : k ≡ 16 + filled * i
    pub long : length d ≡ n
    pub left : (ch : List Channel) (fs : List Frame) → w.keep ≡ false → ChannelsStand w.from file cs ch → filled ≡ 24 + sample_bytes t ch →
        length fs ≡ count → FramesIn w.from t ch filled size s 16 fs → Rest ch fs d from k i

  opens : (ch : List Channel) (fs : List Frame) (y₁ y₂ y₃ y₄ front : List ℕ) → filled ≡ 24 + sample_bytes t ch → length fs ≡ count →
      front ≡ ((y₁ ++ y₂) ++ y₃) ++ y₄ →
      y₁ ≡ bytes_in w.to 4 t → y₂ ≡ bytes_in w.to 4 filled → y₃ ≡ bytes_in w.to 4 count → y₄ ≡ replicate 4 0 →
      front ++ render w.to (frame_events t ch 1 fs) ≡ render w.to (opened t ch fs)
  unfolding render
  opens ch fs y₁ y₂ y₃ y₄ front is n x e₁ e₂ e₃ e₄ = rw (x, e₁, e₂, e₃, e₄, ← is, n) (simp append_assoc)

  pub framing-start : (d y₁ y₂ y₃ y₄ : List ℕ) → let d₁ = put 0 4 d y₁ in let d₂ = put 4 4 d₁ y₂ in let d₃ = put 8 4 d₂ y₃ in let d₄ = put 12 4 d₃ y₄ in
      16 + size * count ≤ length s → 16 + filled * count ≤ length d → length d₁ ≡ length d → length d₂ ≡ length d₁ → length d₃ ≡ length d₂ →
      length d₄ ≡ length d₃ →
      y₁ ≡ bytes_in w.to 4 t → y₂ ≡ bytes_in w.to 4 filled → y₃ ≡ bytes_in w.to 4 count → y₄ ≡ replicate (length (take 4 (drop 12 d₃))) 0 →
      Framing (length d₄) d₄ 16 16 0
  framing-start d y₁ y₂ y₃ y₄ f g l₁ l₂ l₃ l₄ e₁ e₂ e₃ e₄ =
      let d₁ = put 0 4 d y₁ in
      let d₂ = put 4 4 d₁ y₂ in
      let d₃ = put 8 4 d₂ y₃ in
      let z : length (take 4 (drop 12 d₃)) ≡ 4 = length-take-le 4 (drop 12 d₃) (rw length-drop (omega arith)) in
      let x : take 16 (put 12 4 d₃ y₄) ≡ ((y₁ ++ y₂) ++ y₃) ++ y₄ =
      front-more d₃ y₄ ((y₁ ++ y₂) ++ y₃) 12 4 (omega arith) l₄
      (front-more d₂ y₃ (y₁ ++ y₂) 8 4 (omega arith) l₃ (front-more d₁ y₂ y₁ 4 4 (omega arith) l₂ (front-more d y₁ [] 0 4 (omega arith) l₁ refl))) in
      record {
        source = rw sub-zero f;
        target = rw (sub-zero, l₄, l₃, l₂, l₁) g;
        place = omega arith;
        long = refl;
        left = λ ch fs _ _ is n stands. record {
          rest = fs;
          many = omega arith;
          stands = stands;
          is =
              opens ch fs y₁ y₂ y₃ y₄ (take 16 (put 12 4 d₃ y₄)) is n x e₁ e₂ e₃ (e₄ ∙ ap (λ (x : ℕ). replicate x 0) z);
        };
      }

  module _ {n : ℕ} {d : List ℕ} {from k i : ℕ} (q : Framing n d from k i) where
    -- m and m' are the lengths of the parts that are lent
    pub framing-more : (m m' : ℕ) (ys : List ℕ) → i < count → filled ≤ size → m ≡ filled → m' ≡ filled → length (put k m' d ys) ≡ length d →
        FrameAnew w file (take m (drop from s)) ys cs t (i + 1) →
        Framing n (put k m' d ys) (from + size) (k + filled) (i + 1)
    framing-more m m' ys f g e e' l writes =
        let a = room-more from size count i (length s) f q.source in
        let b = room-more k filled count i n f q.target in
        let z : length (take filled (drop from s)) ≡ filled = length-take-le filled (drop from s) (rw length-drop (omega (arith, a.0))) in
        let p : take (k + filled) (put k m' d ys) ≡ take k d ++ ys =
        rw e' (front-more d ys (take k d) k filled (omega (arith, b.0, q.long)) (rw e' at l) refl) in
        record {
          source = a.1;
          target = b.1;
          place = omega (arith, q.place, ap (λ (x : ℕ). filled * x) (add-one i) ∙ mul-suc filled i);
          long = l ∙ q.long;
          left = λ ch fs clear here is c' stands.
              let x = q.left ch fs clear here is c' stands in
              one ch fs (put k m' d ys) ys x.rest x.many x.stands x.is p (λ r h. rw (e, z, is) at (writes clear ch r here (rw (e, z) is) (rw e h)));
        }
      where
        one : (ch : List Channel) (fs : List Frame) (d' ys : List ℕ) (rest : List Frame) → i + length rest ≡ count →
            FramesIn w.from t ch filled size s from rest →
            take k d ++ render w.to (frame_events t ch (i + 1) rest) ≡ render w.to (opened t ch fs) → take (k + filled) d' ≡ take k d ++ ys →
            ((f : Frame) → FrameIn w.from t ch (take filled (drop from s)) f →
            ys ≡ render w.to (record_of (plain_head (frame_size t ch) 145 (i + 1)) (frame_written ch f))) → Rest ch fs d' (from + size) (k + filled) (i + 1)
        one ch fs d' ys [] c h x p v = absurd (omega arith)
        one ch fs d' ys (r ∷ rs) c h x p v =
            record { rest = rs; many = omega arith; stands = h.1; is = rw (p, append_assoc, v r h.0, ← events-more w.to t ch (i + 1) r rs) x }

    all_there : (ch : List Channel) (all : List ℕ) (rest : List Frame) → i + length rest ≡ count → count ≤ i →
        take k d ++ render w.to (frame_events t ch (i + 1) rest) ≡ all → (i ≡ count) × (take k d ≡ all)
    unfolding frame_events render
    all_there ch all [] c g x = (omega arith, sym (append-nil (take k d)) ∙ x)
    all_there ch all (r ∷ rs) c g x = absurd (omega arith)

    pub framing-end : (d₀ zs : List ℕ) → count ≤ i → length (put k (length d - k) d zs) ≡ length d →
        zs ≡ replicate (length (take (length d - k) (drop k d))) 0 →
        length d₀ ≡ n → FramesAnew w file s d₀ (put k (length d - k) d zs) cs t filled size count
    unfolding frames_written
    framing-end d₀ zs g l h long clear b c ch hd f e here is says whole went z =
        let y = frames-stand w.from w.label b s t ch filled size count c hd f e is says whole went in
        let x = q.left ch f.frames clear here is y.0 y.1 in
        let u = all_there ch (render w.to (opened t ch f.frames)) x.rest x.many g x.is in
        let v : length f.frames * frame_size t ch ≡ filled * i = rw (y.0, ← is, u.0) (mul_comm count filled) in
        let j : length (take (length d - k) (drop k d)) ≡ span (frames_head t ch f.frames) - frames_bytes t ch f.frames =
        length-take-le (length d - k) (drop k d) (rw length-drop (omega arith)) ∙ omega (arith, v, z, long, q.place, q.long) in
        front-all d zs (render w.to (opened t ch f.frames)) k (length d - k) (omega (arith, q.target, q.long)) l u.1
        ∙ (rw (h, j) (sym (padded-events w.to (opened t ch f.frames) (span (frames_head t ch f.frames) - frames_bytes t ch f.frames))))
