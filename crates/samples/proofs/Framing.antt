-- The frame asked for: in an accepted file it stands where the code looks for it, and its walk gives there what the reading holds.
-- Assumes nothing.
use Rattle.std.proofs.Common.{Ok}
use mathlib.Core.Path.{◌≡◌, refl, ap}
use mathlib.Core.Bool.{true, false}
use mathlib.Core.List.{List, [], ◌∷◌}
use Prim.Native.Nat.{ℕ, ◌+◌, ◌-◌, ◌*◌, ◌≤◌}
use native.Mathlib.Omega.{arith}
use lib.ListN.{length, get_or}
use Rattle.words.specs.Numbers.{Bytes}
use Rattle.words.specs.declared.Order.{Order}
use Rattle.walk.specs.Walk.{size}
use Rattle.walk.specs.See.{goes, see}
use Rattle.rules.specs.Rules as R
use Rattle.rules.specs.declared.Label.{Label}
use Rattle.rules.specs.Places.{bytes_before}
use Rattle.rules.proofs.Places.{Found, frame_found}
use Rattle.rules.proofs.Asked.{frame-at}
use Rattle.records.proofs.Facts.{between_in}
use Rattle.descriptions.specs.declared.Places.{Places}
use Rattle.recordings.specs.Answers.{value, refusal, ◌>>=◌, numbered}
use Rattle.recordings.specs.Found.{FoundIn}
use Rattle.recordings.specs.Recordings.{Chosen, recording_of, start_of}
use Rattle.recordings.proofs.Chosen.{numbered-in, numbered-out, numbered-one, One, answered, ChosenIn, chosen-in}
use Rattle.recordings.proofs.Standing.{found-seen, found-ends}
use Rattle.samples.specs.Asked.{FrameFoundAs}
use Rattle.samples.specs.Frames.{ChosenFrame, frame_of}

-- a number inside its range has its element
pub numbered-some : {A : Type 0} (l : List A) (n : ℕ) → R.between 1 (length l) n ≡ true → (a : A) × (numbered l n ≡ value a)
numbered-some [] n h = absurd (let x = between_in 1 0 n h in omega (arith, x.0, x.1))
numbered-some (a ∷ l) n h = (get_or (a ∷ l) (n - 1) a, numbered-in a (a ∷ l) n h)

-- where frame n of a recording stands, from 1
abbrev pub frame_at : Chosen → ℕ → ℕ
frame_at r n = start_of r + r.this.layout.at140 + (32 + r.this.layout.frame * (n - 1))

pub record FrameSeen (s : List ℕ) (r : Chosen) (n : ℕ) (f : R.Frame) : Type 0 where
  pub label : Label
  pub room : ℕ
  pub end : ℕ
  pub seen : see (R.order_of s) 0 s (frame_at r n) (R.frame label r.this.layout.frame r.this.recording.seconds r.this.recording.channels room n) ≡ goes f end
  pub inside : frame_at r n + (24 + R.sample_bytes r.this.recording.seconds r.this.recording.channels) ≤ length s

module _ (s : List ℕ) (b : Bytes s) (i : ℕ) (r : Chosen) (x : ChosenIn s i r) where
  pub this-one : get_or x.file.recordings r.index r.this ≡ r.this
  this-one = x.one.is r.this

  pub frame-place : (n : ℕ) → 32 + bytes_before r.index x.file.recordings + (r.this.layout.at140 + 16 + (16 + r.this.layout.frame * (n - 1))) ≡ frame_at r n
  frame-place n = let a : bytes_before r.index r.all ≡ bytes_before r.index x.file.recordings = ap (bytes_before r.index) x.all in omega arith

  frame-there : (n : ℕ) (f : R.Frame) → 1 ≤ n → One r.this.recording.frames (n - 1) f →
      (room : ℕ) × Found x.events (R.frame x.file.heading.label r.this.layout.frame r.this.recording.seconds r.this.recording.channels room n) f (frame_at r n)
  frame-there n f l o =
      let m : 1 + (n - 1) ≡ n = omega arith in
      rw (this-one, o.is f, m, frame-place n) at (frame-at s b x.judged r.this r.index x.one.inside f (n - 1) (rw this-one o.inside))

  pub frame-seen : (n : ℕ) (f : R.Frame) → 1 ≤ n → One r.this.recording.frames (n - 1) f → FrameSeen s r n f
  frame-seen n f l o =
      let g = frame-there n f l o in
      record {
        label = x.file.heading.label;
        room = g.0;
        end = frame_at r n + size g.1.events;
        seen = found-seen s b x.judged g.1;
        inside = omega (arith, found-ends s b x.judged g.1, (frame_found x.file.heading.label _ _ _ _ _ g.1.plays).bytes);
      }

-- a frame that is asked for and found, by the rules' value alone
pub record FrameOf (s : List ℕ) (i j : ℕ) (f : ChosenFrame) : Type 0 where
  pub asked : recording_of s i ≡ value f.of
  pub chosen : ChosenIn s i f.of
  pub first : 1 ≤ j
  pub one : One f.of.this.recording.frames (j - 1) f.frame
  pub place : f.at ≡ frame_at f.of j

pub frame-of : (s : List ℕ) → Bytes s → (i j : ℕ) {f : ChosenFrame} → frame_of s i j ≡ value f → FrameOf s i j f
frame-of s b i j {f} h =
    let a = answered (recording_of s i) (λ r. numbered r.this.recording.frames j >>= λ x. value (record { of = r; frame = x; at = frame_at r j })) h in
    let c = answered (numbered a.0.this.recording.frames j) (λ x. value (record { of = a.0; frame = x; at = frame_at a.0 j })) a.2 in
    let n = numbered-one a.0.this.recording.frames j c.1 in
    let e : record { of = a.0; frame = c.0; at = frame_at a.0 j } ≡ f = cc c.2 in
    rw (← e) (record { asked = a.1; chosen = chosen-in s b i a.0 a.1; first = n.0; one = n.1; place = refl })

-- what the code answers: the recording's refusal, 19, or the frame
pub frame_refused : (s : List ℕ) (i j : ℕ) {n p : ℕ} → recording_of s i ≡ refusal n p → frame_of s i j ≡ refusal n p
frame_refused s i j h = rw h

module _ {s : List ℕ} {i : ℕ} {o : Order} {q : Places} {r : Chosen} (h : FoundIn s i o q r) (j : ℕ) where
  pub frame-outside : R.between 1 q.total j ≡ false → frame_of s i j ≡ refusal 19 0
  frame-outside t = rw (h.is, numbered-out r.this.recording.frames j (rw h.frames at t))

  pub frame-found-at : R.between 1 q.total j ≡ true → FrameFoundAs s i j (Ok (o, q, (q.frames + 32 + q.frame * (j - 1))))
  frame-found-at t =
      let y = numbered-some r.this.recording.frames j (rw h.frames at t) in
      let n = numbered-one r.this.recording.frames j y.1 in
      let z = frame-seen s h.bytes i r (chosen-in s h.bytes i r h.is) j y.0 n.0 n.1 in
      let e₁ : q.frame ≡ r.this.layout.frame = ap (λ (p : Places). p.frame) h.same in
      let e₂ : q.seconds ≡ r.this.recording.seconds = ap (λ (p : Places). p.seconds) h.same in
      let e₃ : q.frames ≡ start_of r + r.this.layout.at140 = ap (λ (p : Places). p.frames) h.same in
      let e₄ : q.frames + 32 + q.frame * (j - 1) ≡ frame_at r j = rw e₁ (omega arith) in (
        record { of = r; frame = y.0; at = frame_at r j },
        record {
          is = rw (h.is, y.1);
          found = h;
          place = e₄;
          inside = rw (e₄, e₂) z.inside;
          label = z.label;
          room = z.room;
          seen = record { value = y.0; end = z.end; is = rw (h.order, e₄, e₁, e₂) z.seen; kept = refl };
        },
      )
