-- What the body of record 140 comes to: the tests of its fields, and then the frames and the padding behind them. Assumes nothing.
use Rattle.std.proofs.Common.{Ok, Err}
use mathlib.Core.Path.{◌≡◌, refl}
use mathlib.Core.Bool.{Bool, true, ◌&&◌}
use mathlib.Core.List.{List}
use Prim.Native.Nat.{ℕ, ◌+◌, ◌*◌, ◌-◌, ◌≤◌, ◌<◌}
use native.Mathlib.Nat.{mul-le-mul_right, add_assoc, sub_self}
use native.Mathlib.Omega.{arith}
use borrow.Author.Tests.{leb-true, ltb-true, eqb-true}
use lib.Dec.{leb, ltb}
use lib.ListN.{length}
use Rattle.words.specs.Numbers.{number_at}
use Rattle.words.specs.declared.Order.{Order}
use Rattle.walk.specs.Walk.{◌>>=◌, ◌>>◌}
use Rattle.walk.specs.See.{see, over, Yields}
use Rattle.walk.proofs.Seen.{over-stops, add-sub-add, back, and_left, and_right}
use Rattle.rules.specs.Rules as R
use Rattle.rules.specs.declared.Label.{Label}
use Rattle.rules.specs.Rules.{Basic, Channel, Head, between, limit, sample_bytes, series, frame, padding, span, admit, frames, frames_body}
use Rattle.rules.specs.declared.Channels.{Channels}
use Rattle.rules.specs.declared.Refusal.{Refusal}
use Rattle.records.specs.Says.{halts}
use Rattle.records.proofs.Facts.{between_in}
use Rattle.descriptions.proofs.Stands.{yields-weaken, yields-past}
use Rattle.signals.specs.FramesJudged.{frames_of}
use Rattle.signals.specs.Shaped.{field_tests, behind_fields, Shapes, ReadWith}
use Rattle.signals.specs.declared.frames.Shape.{Shape}

-- so many frames are no more than this
pub frames-short : (n size : ℕ) → n ≤ 1000000 → size < 2147483648 → n * size ≤ 2147483648000000
frames-short n size h k = omega (arith, mul-le-mul_right size h)

-- what the test of the frame length says
pub size_fits : (bytes size : ℕ) → between (24 + bytes) (24 + bytes + 127) size && ltb size limit ≡ true → (24 + bytes ≤ size) × (size < 2147483648)
size_fits bytes size h = ((between_in (24 + bytes) (24 + bytes + 127) size (and_left _ (ltb size limit) h)).0, ltb-true size 2147483648 (and_right (between (24 + bytes) (24 + bytes + 127) size) (ltb size limit) h))

-- what the three numbers of a 140 say that the walk accepted
pub record Fields (t size n : ℕ) (cs : List Channel) (counts : Basic) (f : R.Frames) (bytes : ℕ) : Type 0 where
  pub seconds : f.seconds ≡ t
  pub each : f.size ≡ size
  pub short : t ≤ 3600
  pub long : 24 + sample_bytes t cs ≤ size
  pub count : n ≡ counts.frames
  pub fits : 32 + n * size ≤ bytes

-- they are the first of its body
abbrev FieldsAt : Order → ℕ → List ℕ → ℕ → List Channel → Basic → Head → R.Frames → Type 0
FieldsAt o b s at cs c h f = Fields (number_at o 4 s (at - b)) (number_at o 4 s (at + 4 - b)) (number_at o 4 s (at + 4 + 4 - b)) cs c f (span h)

pub yields-frames_body : (o : Order) (label : Label) (b : ℕ) (s : List ℕ) (at : ℕ) (c : Basic) (cs : List Channel) (h : Head) → Yields o b s at (frames_body label c cs h) (λ f _. FieldsAt o b s at cs c h f)
unfolding frames_body ◌>>=◌ ◌>>◌
yields-frames_body o label b s at c cs h g₁ _ g₃ g₄ g₅ =
    let t : ℕ = number_at o 4 s (at - b) in
    let size : ℕ = number_at o 4 s (at + 4 - b) in
    let n : ℕ = number_at o 4 s (at + 4 + 4 - b) in
    yields-past o b s (series n 1 size (span h - 32) (frame label size t cs)) _ (at + 4 + 4 + 4 + 4) _
    (λ fs e. yields-past o b s (padding (span h - (32 + n * size))) _ e _
    (λ _ _. record { seconds = refl; each = refl; short = (between_in 1 3600 t g₁).1; long = (size_fits (sample_bytes t cs) size g₃).0; count = eqb-true n c.frames g₄; fits = leb-true _ _ (and_left _ _ g₅) }))

-- of the rest of a 140: it has room for them
pub yields-frames : (o : Order) (label : Label) (b : ℕ) (s : List ℕ) (at : ℕ) (c : Basic) (own : Bool) (cs : List Channel) (back room : ℕ) (h : Head) → Yields o b s at (frames label c own cs back room h) (λ f _. (32 ≤ room) × FieldsAt o b s at cs c h f)
unfolding frames admit ◌>>=◌ ◌>>◌
yields-frames o label b s at c own cs back room h _ g _ _ =
    let r = and_right (ltb h.size limit) (leb 32 (span h) && leb (span h) room) g in
    let l : 32 ≤ room = omega (arith, leb-true 32 (span h) (and_left _ (leb (span h) room) r), leb-true (span h) room (and_right (leb 32 (span h)) _ r)) in
    yields-weaken o b s (frames_body label c cs h) at _ _ (λ f e q. (l, q)) (yields-frames_body o label b s at c cs h)

module _ (o : Order) (label : Label) (at : ℕ) (s : List ℕ) (ch : List Channel) where
  frames-open : (b : Basic) (h : Head) → see o (at + 16) s (at + 16) (frames_body label b ch h) ≡
      field_tests at (span h) b.frames h.multiplier ch (number_at o 4 s 0) (number_at o 4 s 4) (number_at o 4 s 8) (see o (at + 16) s (at + 32) (behind_fields label (number_at o 4 s 0) (number_at o 4 s 4) (number_at o 4 s 8) (span h) ch))
  unfolding frames_body field_tests behind_fields see ◌>>=◌ ◌>>◌
  frames-open b h = simp (add_assoc, add-sub-add, sub_self, back)

  -- the body of a 140 whose fields are tested
  module _ {file : List ℕ} {cs : Channels} {total multiplier : ℕ} {b : Basic} {h : Head} (w : ReadWith o file cs s total multiplier b ch h) where
    pub body-stop : {r : Refusal} → Shapes o at s total multiplier ch (Err r) → over frames_of (see o (at + 16) s (at + 16) (frames_body label b ch h)) ≡ halts r
    body-stop x = rw (frames-open b h, w.frames, w.bytes, w.times, x.tests, over-stops)

    pub body-on : {f : Shape} → Shapes o at s total multiplier ch (Ok f) →
        over frames_of (see o (at + 16) s (at + 16) (frames_body label b ch h)) ≡ over frames_of (see o (at + 16) s (at + 32) (behind_fields label f.seconds f.size total (16 + length s) ch))
    body-on x = rw (frames-open b h, w.frames, w.bytes, w.times, x.tests, ← x.fields.seconds, ← x.fields.size, ← x.fields.count)
