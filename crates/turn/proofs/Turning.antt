-- What is written of a 145 and of a 140, from what each of the code's steps wrote; and bytes written front to back.
-- Assumes nothing.
use mathlib.Core.Path.{◌≡◌, subst, refl, sym, ap, ◌∙◌}
use mathlib.Core.Bool.{Bool, false, ◌&&◌, ◌||◌}
use mathlib.Core.List.{List, ◌∷◌, ◌++◌, append_assoc}
use Prim.Native.Nat.{ℕ, suc, ◌+◌, ◌-◌, ◌*◌, ◌≤◌, ◌<◌}
use native.Mathlib.Nat.{zero-add, sub-zero, mul_comm}
use native.Mathlib.Numerals.{add-one}
use native.Mathlib.Omega.{arith}
use borrow.Author.Tests.{leb-true}
use lib.Dec.{leb, eqb}
use lib.ListN.{length, take, drop, length-append, length-drop}
use lib.Seq.{length-take-le}
use Rattle.words.specs.Numbers.{bytes_at, number_at}
use Rattle.words.specs.Runs.{pasted}
use Rattle.words.specs.declared.Order.{Order}
use Rattle.words.proofs.Runs.{part-pasted, more-written, all-written, length-pasted}
use Rattle.walk.specs.Walk.{Event, row, Walk, give, refuse, check, number, read, skip, list, ◌>>=◌, ◌>>◌, require, reserve}
use Rattle.walk.specs.See.{goes, see, Goes, Stays, numbered}
use Rattle.walk.specs.Trace.{trace, written}
use Rattle.walk.proofs.Seen.{went, when-then, stays-weaken, stays-goes, stays-require, body-length, and_left}
use Rattle.walk.proofs.Tracing.{trace-bind, trace-give, written-append, written_none, written_row}
use Rattle.walk.proofs.Went.{gate-went, went-first, goes_same}
use Rattle.rules.specs.declared.Label.{Label}
use Rattle.rules.specs.Rules.{most_of, Head, head, coded, admit, span, padding, series, Basic, Channel}
use Rattle.rules.specs.Rules.{sample_bytes, number_list, samples, Frame, frame, frame_body, Frames, frames, frames_body, pad_ok}
use Rattle.rules.specs.declared.Channels.{Channels}
use Rattle.rules.proofs.Room.{stays-series, stays-frame, stays-frame_body, stays-frames_body}
use Rattle.records.specs.Says.{ChannelsStand}
use Rattle.records.proofs.Facts.{between_in, both_false}
use Rattle.records.proofs.Steps.{ends-samples}
use Rattle.children.specs.Children.{Said, Reads}
use Rattle.signals.proofs.FramesBody.{size_fits}
use Rattle.records.proofs.Opened.{admit-went, require-went}
use Rattle.bodies.specs.Copy.{copy, filling, Pastes}
use Rattle.bodies.specs.declared.Way.{Way}
use Rattle.bodies.proofs.Copying.{copy-give, copy-part, length-copy, pastes-join}
use Rattle.transcripts.specs.Transcript.{anew}
use Rattle.transcripts.proofs.Transcribing.{behind, padding-stands}
use Rattle.turn.specs.Steps.{FramesSent}

-- bytes written front to back: the first of them, and a part behind what stands
pub filled-first : (d₀ ys : List ℕ) (m : ℕ) → length ys ≡ m → ys ++ drop m d₀ ≡ pasted d₀ 0 ys
unfolding pasted
filled-first d₀ ys m h = rw (zero-add, h)

pub filled_more : (d₀ d xs ys : List ℕ) (at m : ℕ) → d ≡ pasted d₀ 0 xs → at ≡ length xs → length ys ≡ m →
    take at d ++ (ys ++ drop m (drop at d)) ≡ pasted d₀ 0 (xs ++ ys)
filled_more d₀ d xs ys at m e h l = part-pasted d ys at m l ∙ more-written d₀ d xs ys at e h

-- and the last part
pub filled-last : (d₀ d xs ys : List ℕ) (at : ℕ) → d ≡ pasted d₀ 0 xs → at ≡ length xs → at + length ys ≡ length d₀ →
    take at d ++ (ys ++ drop (length d - at) (drop at d)) ≡ xs ++ ys
filled-last d₀ d xs ys at e h l =
    let m : length d ≡ length d₀ = ap length e ∙ length-pasted d₀ 0 xs (omega arith) in
    all-written d₀ _ (xs ++ ys) (filled_more d₀ d xs ys at (length d - at) e h (omega arith)) (omega (arith, length-append xs ys))

written-four : (keep : Bool) (o : Order) (t u v x : List Event) →
    written keep o (t ++ (u ++ (v ++ x))) ≡ written keep o t ++ (written keep o u ++ (written keep o v ++ written keep o x))
written-four keep o t u v x = written-append keep o t (u ++ (v ++ x)) ∙ rw (written-append keep o u (v ++ x), written-append keep o v x)

module _ {A : Type 0} (w : Way) (b : ℕ) (s : List ℕ) (at : ℕ) where
  -- a test writes nothing
  pub copy-require : (c : Bool) (n p : ℕ) (v : Walk A) → copy w b s at (require c n p >> v) ≡ copy w b s at v
  unfolding trace ◌>>=◌ ◌>>◌
  copy-require c n p v = refl

  -- padding stands as it is
  pub copy-padding : (n : ℕ) (a : A) → copy w b s at (padding n >> give a) ≡ bytes_at n s (at - b)
  unfolding ◌>>◌
  copy-padding n a = copy-give w b s at (padding n) (λ _. a) ∙ padding-stands w b s at n

  -- a record: its head, and its body
  pub copy-record : (room code most : ℕ) (fits : Head → ℕ → Bool) (serial : ℕ → Bool) (body : Walk A) →
      copy w b s at (head room >>= λ h. coded h code >> (admit room most (fits h) serial h >> body)) ≡ copy w b s at (number_list 4 4) ++ copy w b s (at + 16)
      body
  unfolding head admit number_list trace ◌>>=◌ ◌>>◌
  copy-record room code most fits serial body =
      let z : at + 4 + 4 + 4 + 4 ≡ at + 16 = omega arith in
      written-append w.keep w.to (trace w.from b s at (number_list 4 4)) (row _ _ _ _ ∷ trace w.from b s (at + 4 + 4 + 4 + 4) body)
      ∙ ap (λ (l : List ℕ). written w.keep w.to (trace w.from b s at (number_list 4 4)) ++ l)
      (written_row w.keep w.to _ _ _ _ (trace w.from b s (at + 4 + 4 + 4 + 4) body))
      ∙ rw z

-- the first of two walks stays where both do
stays-first : {A B : Type 0} (v : Walk A) (k : A → Walk B) (L at : ℕ) (Q : B → ℕ → Type 0) → Stays L at (v >>= k) Q → Stays L at v (λ _ _. Unit {0})
unfolding ◌>>=◌
stays-first (give a) k L at Q h = tt
stays-first (refuse n p) k L at Q h = h
stays-first (check c n p v) k L at Q h = when-then (numbered n) (λ j e. stays-first v k L at Q (j e)) h
stays-first (number n f) k L at Q h = (h.0, λ v. stays-first (f v) k L (at + n) Q (h.1 v))
stays-first (read κ n f) k L at Q h = (h.0, λ v e. stays-first (f v) k L (at + n) Q (h.1 v e))
stays-first (skip n v) k L at Q h = (h.0, stays-first v k L (at + n) Q h.1)
stays-first (list p l c m v) k L at Q h = stays-first v k L at Q h

-- a frame's clock and its samples: where they end, that they stay there, and what a frame's body has behind them
module _ (t : ℕ) (cs : List Channel) where
  see-filling : (o : Order) (b : ℕ) (s : List ℕ) (at : ℕ) → Goes (see o b s at (filling t cs)) (λ _ e. e ≡ at + 8 + sample_bytes t cs)
  unfolding filling number_list see ◌>>=◌ ◌>>◌
  see-filling o b s at =
      let g = went (λ _. tt) (see o b s (at + 2 + 2 + 2 + 2) (samples t cs)) (ends-samples o b s t cs (at + 2 + 2 + 2 + 2)) in
      record { value = g.value; end = g.end; is = g.is; kept = omega (arith, g.kept.1) }

  stays-filling : (at : ℕ) → Stays (at + (8 + sample_bytes t cs)) at (filling t cs) (λ _ _. Unit {0})
  unfolding filling number_list frame_body ◌>>=◌ ◌>>◌
  stays-filling at =
      let z : 24 + sample_bytes t cs - 16 ≡ 8 + sample_bytes t cs = omega arith in
      let h = stays-frame_body (24 + sample_bytes t cs) t cs at (omega arith) in
      let h₁ = h.1 0 refl in
      let h₂ = h₁.1 0 refl in
      let h₃ = h₂.1 0 refl in
      subst (λ (n : ℕ). Stays (at + n) at (filling t cs) (λ _ _. Unit {0})) z
      (h.0, λ _. (h₁.0, λ _. (h₂.0, λ _. (h₃.0, stays-first (samples t cs) _ (at + (24 + sample_bytes t cs - 16)) (at + 2 + 2 + 2 + 2) _ h₃.1))))

  copy-frame_body : (w : Way) (b : ℕ) (s : List ℕ) (at size : ℕ) →
      copy w b s at (frame_body size t cs) ≡ copy w b s at (filling t cs) ++ bytes_at (size - (24 + sample_bytes t cs)) s (at + 8 + sample_bytes t cs - b)
  unfolding filling number_list frame_body trace ◌>>=◌ ◌>>◌
  copy-frame_body w b s at size =
      let n : ℕ = size - (24 + sample_bytes t cs) in
      let g = went (λ _. tt) (see w.from b s (at + 2 + 2 + 2 + 2) (samples t cs)) (ends-samples w.from b s t cs (at + 2 + 2 + 2 + 2)) in
      let k : List (List ℕ) → Walk Frame = λ ss. padding n >> give
      (record {
        hour = number_at w.from 2 s (at - b);
        minute = number_at w.from 2 s (at + 2 - b);
        second =
            number_at w.from 2 s (at + 2 + 2 - b);
        channels = ss;
      }) in
      let e : g.end ≡ at + 8 + sample_bytes t cs = omega (arith, g.kept.1) in
      let u : List Event = trace w.from b s g.end (k g.value) in
      rw (trace-bind w.from b s (at + 2 + 2 + 2 + 2) (samples t cs) k g.is)
      (written-append w.keep w.to (trace w.from b s at (filling t cs)) u
      ∙ ap (λ (l : List ℕ). written w.keep w.to (trace w.from b s at (filling t cs)) ++ l)
      (copy-padding w b s g.end n _ ∙ ap (λ (x : ℕ). bytes_at n s (x - b)) e))

  copy-frame : (w : Way) (b : ℕ) (s : List ℕ) (at size room i : ℕ) →
      copy w b s at (frame w.label size t cs room i) ≡ copy w b
      s at (number_list 4 4) ++ (copy w b s (at + 16) (filling t cs) ++ bytes_at (size - (24 + sample_bytes t cs)) s (at + 24 + sample_bytes t cs - b))
  unfolding frame
  copy-frame w b s at size room i =
      let z : at + 16 + 8 ≡ at + 24 = omega arith in
      copy-record w b s at room 145 (most_of w.label) (λ h n. eqb n size && pad_ok h (n - (24 + sample_bytes t cs))) (eqb i)
      (frame_body size t cs) ∙ rw (copy-frame_body w b s (at + 16) size, z)

-- a part of s, which stands at c, read to its end: the bytes are those of the whole there, and so many
pub read-part : {A : Type 0} (w : Way) (b c a m : ℕ) (s : List ℕ) (v : Walk A) → c ≡ b + a → a + m ≤ length s → Stays (c + m) c v (λ _ _. Unit {0}) →
    {x : A} {e : ℕ} → see w.from b s c v ≡ goes x e → e ≡ c + m →
    (copy w c (take m (drop a s)) c v ≡ copy w b s c v) × (length (copy w b s c v) ≡ m)
read-part w b c a m s v i l h g e =
    let j = length-copy w b s (c + m) (omega arith) v c (λ _ _. Unit {0}) (omega arith) h g in
    (copy-part w b c a m s i l v c (λ _ _. Unit {0}) (omega arith) h g, omega (arith, j))

-- the four numbers of a head
read_head : (w : Way) (b : ℕ) (s : List ℕ) → 16 ≤ length s →
    (copy w b (take 16 s) b (number_list 4 4) ≡ copy w b s b (number_list 4 4)) × (length (copy w b s b (number_list 4 4)) ≡ 16)
unfolding number_list see ◌>>=◌
read_head w b s l = read-part w b b 0 16 s (number_list 4 4) (omega arith) l (omega arith, λ _. (omega arith, λ _. (omega arith, λ _. (omega arith, λ _. tt))))
    refl (omega arith)

-- a 145 into d: the code wrote its head, what fills it, and the bytes behind that
pub frame-copied : (w : Way) (b : ℕ) (s d : List ℕ) (t filled room i : ℕ) (cs : List Channel) (d₁ d₂ ys₁ ys₂ ys₃ : List ℕ) → 24 ≤ filled → filled ≤ length s →
    length d ≡ length s → filled ≡ 24 + sample_bytes t cs →
    ys₁ ≡ copy w b (take 16 s) b (number_list 4 4) → d₁ ≡ ys₁ ++ drop 16 d →
    ys₂ ≡ copy w (b + 16) (take (filled - 16) (drop 16 s)) (b + 16) (filling t cs) → d₂ ≡ take 16 d₁ ++ (ys₂ ++ drop (filled - 16) (drop 16 d₁)) →
    ys₃ ≡ take (length s - filled) (drop filled s) →
    take filled d₂ ++ (ys₃ ++ drop (length d₂ - filled) (drop filled d₂)) ≡ copy w b s b (frame w.label (length s) t cs room i)
unfolding bytes_at
frame-copied w b s d t filled room i cs d₁ d₂ ys₁ ys₂ ys₃ h₁ h₂ h₃ e f₁ p₁ f₂ p₂ f₃ =
    let r₁ = read_head w b s (omega arith) in
    let g = see-filling t cs w.from b s (b + 16) in
    let z : filled - 16 ≡ 8 + sample_bytes t cs = omega arith in
    let r₂ = read-part w b (b + 16) 16 (filled - 16) s (filling t cs) refl (omega arith) (rw z (stays-filling t cs (b + 16))) g.is (omega (arith, g.kept)) in
    let x₁ : ys₁ ≡ copy w b s b (number_list 4 4) = f₁ ∙ r₁.0 in
    let x₂ : ys₂ ≡ copy w b s (b + 16) (filling t cs) = f₂ ∙ r₂.0 in
    let l₁ : length ys₁ ≡ 16 = ap length x₁ ∙ r₁.1 in
    let l₂ : length ys₂ ≡ filled - 16 = ap length x₂ ∙ r₂.1 in
    let l₃ : length ys₃ ≡ length s - filled = ap length f₃ ∙ length-take-le (length s - filled) (drop filled s) (rw length-drop (omega arith)) in
    let n₂ : length (ys₁ ++ ys₂) ≡ filled = length-append ys₁ ys₂ ∙ omega (arith, l₁, l₂) in
    let a₁ : d₁ ≡ pasted d 0 ys₁ = p₁ ∙ filled-first d ys₁ 16 l₁ in
    let a₂ : d₂ ≡ pasted d 0 (ys₁ ++ ys₂) = p₂ ∙ filled_more d d₁ ys₁ ys₂ 16 (filled - 16) a₁ (sym l₁) l₂ in
    let y : b + 24 + sample_bytes t cs - b ≡ filled = omega arith in
    filled-last d d₂ (ys₁ ++ ys₂) ys₃ filled a₂ (sym n₂) (omega (arith, l₃)) ∙ append_assoc ys₁ ys₂
    ys₃ ∙ rw (x₁, x₂, f₃, copy-frame t cs w b s b (length s) room i, y, ← e)

-- walks of one length, one after the other: the first of them, and the others
module _ {A : Type 0} (o : Order) (b : ℕ) (s : List ℕ) (step : ℕ) (v : ℕ → ℕ → Walk A)
    (stays : (i at room : ℕ) → Stays (at + room) at (v room i) (λ _ e. (e ≡ at + step) × (e ≤ at + room))) where
  record FirstOf (n i room at e : ℕ) : Type 0 where
    one : A
    others : List A
    first : see o b s at (v room i) ≡ goes one (at + step)
    inside : step ≤ room
    on : see o b s (at + step) (series n (suc i) step (room - step) v) ≡ goes others e
    events : trace o b s at (series (suc n) i step room v) ≡ trace o b s at (v room i) ++ trace o b s (at + step) (series n (suc i) step (room - step) v)

  first_of : (n i room at : ℕ) {l : List A} {e : ℕ} → b ≤ at → at + room ≤ b + length s → see o b s at (series (suc n) i step room v) ≡ goes l e →
      FirstOf n i room at e
  unfolding series see
  first_of n i room at {l} {e} g f h =
      let k : A → Walk (List A) = λ a. series n (suc i) step (room - step) v >>= λ r. give (a ∷ r) in
      let x = went-first o b s at (v room i) k h in
      let z : (x.end ≡ at + step) × (x.end ≤ at + room) = stays-goes o b s (at + room) f (v room i) at _ g (stays i at room) x.is in
      let y = went-first o b s x.end (series n (suc i) step (room - step) v) (λ r. give (x.value ∷ r)) x.kept in
      let q : y.end ≡ e = (goes_same y.kept).1 in
      record {
        one = x.value;
        others = y.value;
        first = x.is ∙ ap (λ (q : ℕ). goes x.value q) z.0;
        inside = omega (arith, z.0, z.1);
        on = ap (λ (p : ℕ). see o b s p (series n (suc i) step (room - step) v)) (sym z.0) ∙ (y.is ∙ ap (λ (p : ℕ). goes y.value p) q);
        events = trace-bind o b s at (v room i) k x.is ∙ rw (trace-give o b s x.end (series n (suc i) step (room - step) v) (λ r. x.value ∷ r), z.0);
      }

-- a frame stays in its own length, whatever room it is given
stays-sized : (label : Label) (size t : ℕ) (cs : List Channel) (room i at : ℕ) → 24 + sample_bytes t cs ≤ size →
    Stays (at + size) at (frame label size t cs room i) (λ _ _. Unit {0})
unfolding frame head admit ◌>>=◌ ◌>>◌
stays-sized label size t cs room i at h =
    let z : at + 4 + 4 + 4 + 4 + (size - 16) ≡ at + size = omega arith in
    λ _. (
      omega arith,
      λ _. (
        omega arith,
        λ _. (
          omega arith,
          λ _. (
            omega arith,
            λ _ _ _ _ _. stays-weaken (frame_body size t cs) _ (at + size) (at + 4 + 4 + 4 + 4) _ (λ _ _. Unit {0}) (omega arith) (λ _ _ _. tt)
                (stays-frame_body size t cs (at + 4 + 4 + 4 + 4) h),
          ),
        ),
      ),
    )

-- the body of a 140 that the walk accepted: its three numbers t, size and n, what they say, and what is written of it
pub record FramesTurned (w : Way) (b : ℕ) (s : List ℕ) (cs : List Channel) (t size n : ℕ) (all : List ℕ) : Type 0 where
  pub short : t ≤ 3600
  pub long : 24 + sample_bytes t cs ≤ size
  pub fits : 16 + size * n ≤ length s
  pub value : List Frame
  pub end : ℕ
  pub went : see w.from b s (b + 16) (series n 1 size (length s - 16) (frame w.label size t cs)) ≡ goes value end
  pub bytes : all ≡ copy w b s b (number_list 4 3) ++ (copy w b s (b + 12)
      (reserve 4) ++ (copy w b s (b + 16) (series n 1 size (length s - 16) (frame w.label size t cs)) ++ bytes_at (length s - (16 + size * n)) s
      (16 + size * n)))

module _ (w : Way) (b : ℕ) (s : List ℕ) (c : Basic) (cs : List Channel) (h : Head) (fills : span h ≡ 16 + length s) {f : Frames} {e : ℕ}
    (g : see w.from b s b (frames_body w.label c cs h) ≡ goes f e) where
  framed-as-read : FramesTurned w b s cs (number_at w.from 4 s (b - b)) (number_at w.from 4 s (b + 4 - b)) (number_at w.from 4 s (b + 4 + 4 - b))
      (copy w b s b (frames_body w.label c cs h))
  unfolding frames_body number_list see trace ◌>>=◌ ◌>>◌
  framed-as-read =
      let o : Order = w.from in
      let t : ℕ = number_at o 4 s (b - b) in
      let size : ℕ = number_at o 4 s (b + 4 - b) in
      let n : ℕ = number_at o 4 s (b + 4 + 4 - b) in
      let v : Walk (List Frame) = series n 1 size (span h - 32) (frame w.label size t cs) in
      let k : List Frame → Walk Frames = λ fs. padding (span h - (32 + n * size)) >> give
      (record { seconds = t; frames = fs; size = size; padded = n * (size - (24 + sample_bytes t cs)) + (span h - (32 + n * size)) }) in
      let g₁ = gate-went _ _ _ _ g in
      let g₂ = gate-went _ _ _ _ g₁.1 in
      let g₃ = gate-went _ _ _ _ g₂.1 in
      let g₄ = gate-went _ _ _ _ g₃.1 in
      let g₅ = gate-went _ _ _ _ g₄.1 in
      let x = went-first o b s (b + 4 + 4 + 4 + 4) v k g₅.1 in
      let m : 24 + sample_bytes t cs ≤ size = (size_fits (sample_bytes t cs) size g₃.0).0 in
      let q : 32 + n * size ≤ span h = leb-true _ _ (and_left _ _ g₅.0) in
      let z : b + 4 + 4 + 4 + 4 ≡ b + 16 = omega arith in
      let y : b + 4 + 4 + 4 ≡ b + 12 = omega arith in
      let r : span h - 32 ≡ length s - 16 = omega arith in
      let j : n * size ≡ size * n = mul_comm n size in
      let d : x.end ≡ b + 4 + 4 + 4 + 4 + n * size = stays-goes o b s (b + 16 + (span h - 32)) (omega arith) v (b + 4 + 4 + 4 + 4) _ (omega arith)
      (stays-series size (frame w.label size t cs) (stays-frame w.label size t cs m) n 1 (span h - 32) (b + 16 + (span h - 32)) (b + 4 + 4 + 4 + 4)
      (omega arith) (omega arith)) x.is in
      let i : x.end - b ≡ 16 + size * n = omega (arith, d, j) in
      let u : span h - (32 + n * size) ≡ length s - (16 + size * n) = omega (arith, j) in
      record {
        short = (between_in 1 3600 t g₁.0).1;
        long = m;
        fits = omega (arith, q, j);
        value = x.value;
        end = x.end;
        went = rw (← z, ← r) x.is;
        bytes =
            rw (trace-bind o b s (b + 4 + 4 + 4 + 4) v k x.is)
            (written-four w.keep w.to (trace o b s b (number_list 4 3)) (trace o b s (b + 4 + 4 + 4) (reserve 4)) (trace o b s (b + 4 + 4 + 4 + 4) v)
            (trace o b s x.end (k x.value))
            ∙ rw (copy-padding w b s x.end (span h - (32 + n * size)) _, i, z, y, r, u));
      }

  pub framed : (t size n : ℕ) → number_at w.from 4 s 0 ≡ t → number_at w.from 4 s 4 ≡ size → number_at w.from 4 s 8 ≡ n →
      FramesTurned w b s cs t size n (copy w b s b (frames_body w.label c cs h))
  framed t size n e₁ e₂ e₃ =
      let z₁ : b - b ≡ 0 = omega arith in
      let z₂ : b + 4 - b ≡ 4 = omega arith in
      let z₃ : b + 4 + 4 - b ≡ 8 = omega arith in
      rw (z₁, z₂, z₃, e₁, e₂, e₃) at framed-as-read

  -- as many bytes are written of it
  pub framed-length : 16 ≤ length s → length (copy w b s b (frames_body w.label c cs h)) ≡ length s
  framed-length l =
      let L : ℕ = b + (span h - 16) in
      let r = stays-frames_body w.label c cs h b (omega arith) in
      let i : e ≡ L = stays-goes w.from b s L (omega arith) (frames_body w.label c cs h) b _ (omega arith) r g in
      let j = length-copy w b s L (omega arith) (frames_body w.label c cs h) b _ (omega arith) r g in
      omega (arith, i, j)

-- the three numbers of a 140, and the reserve behind them
read-numbers : (w : Way) (b : ℕ) (s : List ℕ) → 12 ≤ length s →
    (copy w b (take 12 s) b (number_list 4 3) ≡ copy w b s b (number_list 4 3)) × (length (copy w b s b (number_list 4 3)) ≡ 12)
unfolding number_list see ◌>>=◌
read-numbers w b s l = read-part w b b 0 12 s (number_list 4 3) (omega arith) l (omega arith, λ _. (omega arith, λ _. (omega arith, λ _. tt))) refl
    (omega arith)

read-reserve : (w : Way) (b a n : ℕ) (s : List ℕ) → a + n ≤ length s →
    (copy w (b + a) (take n (drop a s)) (b + a) (reserve n) ≡ copy w b s (b + a) (reserve n)) × (length (copy w b s (b + a) (reserve n)) ≡ n)
unfolding see
read-reserve w b a n s l = read-part w b (b + a) a n s (reserve n) refl l (omega arith, tt) refl refl

-- the first i frames of a 140 are written, and the next stands at byte `at` of its body
pub record Framing (w : Way) (b : ℕ) (s d : List ℕ) (cs : List Channel) (t size n : ℕ) (all : List ℕ) (at i : ℕ) : Type 0 where
  pub long : 24 + sample_bytes t cs ≤ size
  pub value : List Frame
  pub end : ℕ
  pub on : see w.from b s (b + at) (series (n - i) (i + 1) size (length s - at) (frame w.label size t cs)) ≡ goes value end
  pub under : List ℕ
  pub same : length under ≡ length s
  pub done : List ℕ
  pub place : at ≡ length done
  pub wrote : d ≡ pasted under 0 done
  pub rest : all ≡ done ++ (copy w b s (b + at) (series (n - i) (i + 1) size (length s - at) (frame w.label size t cs)) ++ bytes_at
      (length s - (16 + size * n)) s (16 + size * n))

module _ {w : Way} {b : ℕ} {s : List ℕ} {cs : List Channel} {t size n : ℕ} {all : List ℕ} where
  -- the code's test r of the three numbers passes
  pub framed-fits : FramesTurned w b s cs t size n all → (bytes : ℕ) (r : Bool) → bytes ≡ sample_bytes t cs →
      r ≡ leb (24 + bytes) size && leb (16 + size * n) (length s) → r ≡ false → ⊥
  framed-fits x bytes r i j u = both_false (24 + bytes) size (16 + size * n) (length s) r j u (rw i x.long) x.fits

  pub framing-start : FramesTurned w b s cs t size n all → (d₀ d₁ ys₁ ys₂ : List ℕ) → length d₀ ≡ length s → ys₁ ≡ copy w b (take 12 s) b (number_list 4 3) →
      d₁ ≡ ys₁ ++ drop 12 d₀ → ys₂ ≡ copy w (b + 12) (take 4 (drop 12 s)) (b + 12) (reserve (length (take 4 (drop 12 s)))) →
      Framing w b s (take 12 d₁ ++ (ys₂ ++ drop 4 (drop 12 d₁))) cs t size n all 16 0
  framing-start x d₀ d₁ ys₁ ys₂ l₀ f₁ p₁ f₂ =
      let m : length (take 4 (drop 12 s)) ≡ 4 = length-take-le 4 (drop 12 s) (rw length-drop (omega (arith, x.fits))) in
      let r₁ = read-numbers w b s (omega (arith, x.fits)) in
      let r₂ = read-reserve w b 12 4 s (omega (arith, x.fits)) in
      let x₁ : ys₁ ≡ copy w b s b (number_list 4 3) = f₁ ∙ r₁.0 in
      let x₂ : ys₂ ≡ copy w b s (b + 12) (reserve 4) = rw m at f₂ ∙ r₂.0 in
      let l₁ : length ys₁ ≡ 12 = ap length x₁ ∙ r₁.1 in
      let l₂ : length ys₂ ≡ 4 = ap length x₂ ∙ r₂.1 in
      record {
        long = x.long;
        value = x.value;
        end = x.end;
        on = rw sub-zero x.went;
        under = d₀;
        same = l₀;
        done = ys₁ ++ ys₂;
        place = sym (length-append ys₁ ys₂ ∙ omega (arith, l₁, l₂));
        wrote = filled_more d₀ d₁ ys₁ ys₂ 12 4 (p₁ ∙ filled-first d₀ ys₁ 12 l₁) (sym l₁) l₂;
        rest = x.bytes ∙ rw (x₁, x₂, append_assoc, sub-zero);
      }

  module _ {d : List ℕ} {at i : ℕ} (x : Framing w b s d cs t size n all at i) where
    -- m, m': the lengths of the parts lent
    pub framing-more : (m m' : ℕ) (ys : List ℕ) → i < n → at + size ≤ length s → m ≡ size → m' ≡ size →
        ys ≡ copy w (b + at) (take m (drop at s)) (b + at) (frame w.label (length (take m (drop at s))) t cs (length s - at) (i + 1)) →
        Framing w b s (take at d ++ (ys ++ drop m' (drop at d))) cs t size n all (at + size) (i + 1)
    framing-more m m' ys l f e e' q =
        let o : Order = w.from in
        let v : Walk Frame = frame w.label size t cs (length s - at) (i + 1) in
        let a : n - i ≡ suc (n - (i + 1)) = omega arith in
        let g = first_of o b s size (frame w.label size t cs) (stays-frame w.label size t cs x.long) (n - (i + 1)) (i + 1) (length s - at) (b + at)
        (omega arith) (omega arith) (rw a at x.on) in
        let j : length (take size (drop at s)) ≡ size = length-take-le size (drop at s) (rw length-drop (omega arith)) in
        let r = read-part w b (b + at) at size s v refl f (stays-sized w.label size t cs (length s - at) (i + 1) (b + at) x.long) {x = g.one} g.first refl in
        let y : ys ≡ copy w b s (b + at) v = rw (e, j) at q ∙ r.0 in
        let k : length ys ≡ size = ap length y ∙ r.1 in
        let p : b + at + size ≡ b + (at + size) = omega arith in
        let u : length s - at - size ≡ length s - (at + size) = omega arith in
        let c : copy w b s (b + at) (series (suc (n - (i + 1))) (i + 1) size (length s - at) (frame w.label size t cs)) ≡ ys ++ copy w b s (b + (at + size))
        (series (n - (i + 1)) (i + 1 + 1) size (length s - (at + size)) (frame w.label size t cs)) =
        ap (written w.keep w.to) g.events ∙ (written-append w.keep w.to (trace o b s (b + at) v)
        (trace o b s (b + at + size) (series (n - (i + 1)) (suc (i + 1)) size (length s - at - size) (frame w.label size t cs))) ∙ rw
        (y, add-one (i + 1), p, u)) in
        record {
          long = x.long;
          value = g.others;
          end = x.end;
          on = rw (p, u, ← add-one (i + 1)) at g.on;
          under = x.under;
          same = x.same;
          done = x.done ++ ys;
          place = omega (arith, x.place, k, length-append x.done ys);
          wrote = filled_more x.under d x.done ys at m' x.wrote x.place (k ∙ sym e');
          rest = x.rest ∙ rw (a, c) (simp append_assoc);
        }

    pub framing-end : (ys : List ℕ) → n ≤ i → at ≡ 16 + size * n → at ≤ length s → ys ≡ take (length s - at) (drop at s) →
        take at d ++ (ys ++ drop (length d - at) (drop at d)) ≡ all
    unfolding bytes_at series trace
    framing-end ys l e f q =
        let a : n - i ≡ 0 = omega arith in
        let k : length ys ≡ length s - at = ap length q ∙ length-take-le (length s - at) (drop at s) (rw length-drop (omega arith)) in
        filled-last x.under d x.done ys at x.wrote x.place (omega (arith, k, x.same)) ∙ sym (x.rest ∙ rw (a, written_none, ← e, q))

-- a 140 at byte p, which ends at q: its body is a part of s
module _ (w : Way) (b : ℕ) (s : List ℕ) (p q : ℕ) (h : Head) (stop : q ≡ p + span h) (least : p + 16 ≤ q) (inside : q ≤ length s) (c : Basic) (own : Bool)
    (cs : List Channel) (back : ℕ) where
  abbrev from : ℕ
  from = b + p + 16

  abbrev body : List ℕ
  body = take (q - (p + 16)) (drop (p + 16) s)

  abbrev counted : Bool
  counted = own || eqb (length cs) c.channels

  -- it has room for its numbers
  pub frames-least : {l : Said} → Reads w.from b s p (frames w.label c own cs back (length s - p) h) l → 32 ≤ q - p
  unfolding frames
  frames-least r =
      let f = leb-true 32 (span h) (admit-went w.from b s (b + (p + 16)) (length s - p) (most_of w.label) (leb 32) (eqb 0) h
      (require counted 14 back >> frames_body w.label c cs h) r.is).length in
      omega arith

  pub frames-in : {l : Said} (r : Reads w.from b s p (frames w.label c own cs back (length s - p) h) l) →
      (span h ≡ 16 + length body) × (see w.from from body from (frames_body w.label c cs h) ≡ goes r.value r.end) ×
      (anew w l ≡ copy w b s (b + p) (head (length s - p)) ++ copy w from body from (frames_body w.label c cs h))
  unfolding frames
  frames-in r =
      let v : Walk Frames = require counted 14 back >> frames_body w.label c cs h in
      let z = behind w b s p q h stop least inside (most_of w.label) (leb 32) (eqb 0) v
      (λ e at. stays-require counted 14 back (frames_body w.label c cs h) _ at _ refl (λ _. stays-frames_body w.label c cs h at (leb-true 32 (span h) e)))
      r in
      let t = require-went w.from from body from counted 14 back (frames_body w.label c cs h) z.reads in (
        omega (arith, body-length p q s least inside),
        t.1,
        z.is ∙ ap (λ (l : List ℕ). copy w b s (b + p) (head (length s - p)) ++ l)
            (copy-require w from body from counted 14 back (frames_body w.label c cs h)),
      )

-- the code's part in it: a record that is too short, or its head and then its body
module _ (w : Way) (file : List ℕ) (at : Channels) (s : List ℕ) (p q : ℕ) (least : p + 16 ≤ q) (inside : q ≤ length s) (out : List ℕ) (k : ℕ) where
  pub frames-short : k ≤ length out → q - p < 32 → FramesSent w file at s p q out out k k
  frames-short fit short = record {
    inside = fit;
    wrote = λ b c own cs back h l stop subs r.
        absurd (omega (arith, short, frames-least w b s p q h stop least inside c own cs back r));
  }

  pub frames-sent : (out₁ out₂ : List ℕ) (k₁ k₂ : ℕ) → ((b room : ℕ) → Pastes out out₁ k k₁ (copy w b s (b + p) (head room))) → k₂ ≤ length out →
      ((b : ℕ) (c : Basic) (cs : List Channel) (h : Head) (f : Frames) (e : ℕ) → ChannelsStand w.from file at cs →
      span h ≡ 16 + length (take (q - (p + 16)) (drop (p + 16) s)) →
      see w.from b (take (q - (p + 16)) (drop (p + 16) s)) b (frames_body w.label c cs h) ≡ goes f e →
      Pastes out₁ out₂ k₁ k₂ (copy w b (take (q - (p + 16)) (drop (p + 16) s)) b (frames_body w.label c cs h))) → FramesSent w file at s p q out out₂ k k₂
  frames-sent out₁ out₂ k₁ k₂ headed fit body =
      record {
        inside = fit;
        wrote = λ b c own cs back h l stop subs r.
            let t = frames-in w b s p q h stop least inside c own cs back r in
            rw t.2 (pastes-join out out₁ out₂ k k₁ k₂ _ _ (headed b (length s - p)) (body (b + p + 16) c cs h r.value r.end subs t.0 t.1));
      }
