-- What the walks of the rules list: a record is one row, and behind it a 120, 320, 350 and 140 list one row for each record that they hold.
-- Assumes nothing.
use mathlib.Core.Path.{◌≡◌, refl, sym, ◌∙◌}
use mathlib.Core.Bool.{Bool, true, false, ◌&&◌, ◌||◌}
use mathlib.Core.List.{List, [], ◌∷◌, append-nil}
use Prim.Native.Nat.{ℕ, zero, suc, ◌+◌, ◌*◌, ◌-◌, ◌≤◌}
use native.Mathlib.Omega.{arith}
use borrow.Author.Tests.{leb-true, eqb-true}
use lib.Dec.{leb, eqb}
use lib.ListN.{length}
use Rattle.words.specs.Numbers.{number_at}
use Rattle.words.specs.declared.Order.{Order}
use Rattle.walk.specs.See.{stops, goes, see, Goes, Stays}
use Rattle.walk.specs.Tell.{tell}
use Rattle.walk.specs.Walk.{Row, Walk, give, ◌>>=◌, ◌>>◌, require}
use Rattle.walk.proofs.Seen.{stays-goes, and_left}
use Rattle.walk.proofs.Went.{gate-went, went-first}
use Rattle.walk.proofs.Told.{tell-bind, tell-give, Silent, silent, silent-then}
use Rattle.rules.specs.declared.Label.{Label}
use Rattle.rules.specs.Rules.{most_of, Head, head, admit, span, coded, fixed, padding, series, Channel, channel, channel_body, channels_body, channels, Basic, Sub, Group, Item, Frame, items_body, items, sample_bytes, frame_body, frame, frames, frames_body, Frames, pad_ok, between}
use Rattle.rules.proofs.Room.{stays-channel, stays-frame}
use Rattle.rules.proofs.Silent.{silent-padding, silent-frame_body, silent-channel_body, silent-items_body}
use Rattle.records.proofs.Facts.{both_true, both_false}
use Rattle.records.proofs.Opened.{opened, admit-went, require-went, not-admitted}
use Rattle.rows.specs.Listing.{series_rows}

-- a record of a length and a serial that its head has to have, whose body lists nothing, is one row
pub one-row : {A : Type 0} (o : Order) (b : ℕ) (s : List ℕ) (code most step i : ℕ) (fits : Head → ℕ → Bool) (serial : ℕ → Bool) (body : Walk A) →
    ((h : Head) → fits h (span h) ≡ true → span h ≡ step) → ((n : ℕ) → serial n ≡ true → n ≡ i) → Silent body → (at room : ℕ) {a : A} {e : ℕ} →
    see o b s at (head room >>= λ h. coded h code >> (admit room most (fits h) serial h >> body)) ≡ goes a e →
    tell o b s at (head room >>= λ h. coded h code >> (admit room most (fits h) serial h >> body)) ≡ record { start = at; size = step; code = code; serial = i } ∷ []
one-row o b s code most step i fits serial body sized numbered quiet at room g =
    let v = opened o b s at room code most fits serial (λ _. body) g in
    v.rows ∙ rw (silent o b s (at + 16) body quiet, sized v.top v.given.length, numbered v.top.serial v.given.number, eqb-true v.top.code code v.kind)

-- records of one length, one after the other
module _ {A : Type 0} (o : Order) (b : ℕ) (s : List ℕ) (step code : ℕ) (w : ℕ → ℕ → Walk A)
    (lists : (at room i : ℕ) (a : A) (e : ℕ) → see o b s at (w room i) ≡ goes a e → tell o b s at (w room i) ≡ record { start = at; size = step; code = code; serial = i } ∷ [])
    (stays : (i at room : ℕ) → Stays (at + room) at (w room i) (λ _ e. (e ≡ at + step) × (e ≤ at + room))) where
  series-lists : (n i room at : ℕ) {l : List A} {e : ℕ} → b ≤ at → at + room ≤ b + length s → see o b s at (series n i step room w) ≡ goes l e → tell o b s at (series n i step room w) ≡ series_rows n i at step code
  unfolding series series_rows tell
  series-lists zero i room at g f h = refl
  series-lists (suc n) i room at g f h =
      let k : A → Walk (List A) = λ a. series n (suc i) step (room - step) w >>= λ l. give (a ∷ l) in
      let x = went-first o b s at (w room i) k h in
      let z : (x.end ≡ at + step) × (x.end ≤ at + room) = stays-goes o b s (at + room) f (w room i) at _ g (stays i at room) x.is in
      let y = went-first o b s x.end (series n (suc i) step (room - step) w) (λ l. give (x.value ∷ l)) x.kept in
      let r = series-lists n (suc i) (room - step) x.end (omega (arith, z.0)) (omega (arith, z.0, z.1)) y.is in
      tell-bind o b s at (w room i) k x.is ∙ rw (lists at room i x.value x.end x.is, tell-give o b s x.end (series n (suc i) step (room - step) w) (λ l. x.value ∷ l), r, z.0)

-- a sub, and a 145, is one row
channel-lists : (o : Order) (b : ℕ) (s : List ℕ) (k : Sub) (at room i : ℕ) (a : Channel) (e : ℕ) → see o b s at (channel k room i) ≡ goes a e → tell o b s at (channel k room i) ≡ record { start = at; size = 256; code = k.code; serial = i } ∷ []
unfolding fixed
channel-lists o b s k at room i a e g = one-row o b s k.code 0 256 i (λ _. eqb 256) (eqb i) (channel_body k) (λ h z. sym (eqb-true 256 (span h) z)) (λ n z. sym (eqb-true i n z)) (silent-channel_body k) at room g

frame-lists : (o : Order) (label : Label) (b : ℕ) (s : List ℕ) (size t : ℕ) (cs : List Channel) (at room i : ℕ) (a : Frame) (e : ℕ) → see o b s at (frame label size t cs room i) ≡ goes a e → tell o b s at (frame label size t cs room i) ≡ record { start = at; size = size; code = 145; serial = i } ∷ []
unfolding frame
frame-lists o label b s size t cs at room i a e g =
    one-row o b s 145 (most_of label) size i (λ h n. eqb n size && pad_ok h (n - (24 + sample_bytes t cs))) (eqb i) (frame_body size t cs) (λ h k. eqb-true (span h) size (and_left (eqb (span h) size) _ k)) (λ n k. sym (eqb-true i n k)) (silent-frame_body size t cs) at room g

-- a 130 or a 200 is one row
pub items-lists : (o : Order) (b : ℕ) (s : List ℕ) (ok : ℕ → Bool) (at room : ℕ) (h : Head) {l : List Item} {e : ℕ} → see o b s at (items ok room h) ≡ goes l e →
    tell o b s at (items ok room h) ≡ record { start = at - 16; size = span h; code = h.code; serial = 0 } ∷ []
unfolding items
items-lists o b s ok at room h g =
    let d = admit-went o b s at room 0 (leb 24) (eqb 0) h (items_body ok (span h)) g in
    d.rows ∙ rw (silent o b s at (items_body ok (span h)) (silent-items_body ok (span h)), eqb-true 0 h.serial d.number)

module _ (o : Order) (b : ℕ) (s : List ℕ) (p : ℕ) where
  pub channels_body-lists : (c : Group) (n : ℕ) {l : List Channel} {e : ℕ} → see o b s (b + p) (channels_body c n) ≡ goes l e →
      (n ≡ 32 + 256 * number_at o 4 s p) ×
      (see o b s (b + p + 4 + 4 + 8) (series (number_at o 4 s p) 1 256 (n - 32) (channel c.sub)) ≡ goes l e) ×
      (tell o b s (b + p) (channels_body c n) ≡ tell o b s (b + p + 4 + 4 + 8) (series (number_at o 4 s p) 1 256 (n - 32) (channel c.sub)))
  unfolding channels_body see tell ◌>>=◌ ◌>>◌
  channels_body-lists c n g =
      let z : b + p - b ≡ p = omega arith in
      let g₁ = gate-went _ _ _ _ (rw z at g) in
      let g₂ = gate-went _ _ _ _ g₁.1 in
      let g₃ = gate-went _ _ _ _ g₂.1 in
      let g₄ = gate-went _ _ _ _ g₃.1 in
      (eqb-true n _ g₃.0, g₄.1, rw (z, g₁.0, g₂.0, g₃.0, g₄.0))

  -- a 120, 320 or 350 is one row, and one for each sub that its first number counts
  pub channels-lists : (c : Group) (room : ℕ) (h : Head) {l : List Channel} {e : ℕ} → p + room ≤ length s + 16 → see o b s (b + p) (channels c room h) ≡ goes l e →
      (span h ≡ 32 + 256 * number_at o 4 s p) ×
      (tell o b s (b + p) (channels c room h) ≡ record { start = b + p - 16; size = span h; code = h.code; serial = 0 } ∷ series_rows (number_at o 4 s p) 1 (b + (p + 16)) 256 c.sub.code)
  unfolding channels
  channels-lists c room h f k =
      let d = admit-went o b s (b + p) room 0 (leb 32) (eqb 0) h (channels_body c (span h)) k in
      let x = channels_body-lists c (span h) d.rest in
      let z : b + p + 4 + 4 + 8 ≡ b + (p + 16) = omega arith in
      let r = series-lists o b s 256 c.sub.code (channel c.sub) (channel-lists o b s c.sub) (stays-channel c.sub) (number_at o 4 s p) 1 (span h - 32) (b + p + 4 + 4 + 8) (omega arith) (omega (arith, d.inside, x.0)) x.1 in
      (x.0, d.rows ∙ rw (x.2, r, z, eqb-true 0 h.serial d.number))

  -- the three numbers of a 140: seconds, the frames' length, and how many
  abbrev seconds : ℕ
  seconds = number_at o 4 s p

  abbrev size : ℕ
  size = number_at o 4 s (p + 4)

  abbrev count : ℕ
  count = number_at o 4 s (p + 8)

  abbrev framed : Label → List Channel → Head → Walk (List Frame)
  framed label cs h = series count 1 size (span h - 32) (frame label size seconds cs)

  record FramesListed (label : Label) (cs : List Channel) (h : Head) (rs : List Row) : Type 0 where
    long : 24 + sample_bytes seconds cs ≤ size
    fits : 32 + count * size ≤ span h
    went : Goes (see o b s (b + p + 4 + 4 + 4 + 4) (framed label cs h)) (λ _ _. Unit {0})
    rows : rs ≡ tell o b s (b + p + 4 + 4 + 4 + 4) (framed label cs h)

  frames_body-lists : (label : Label) (c : Basic) (cs : List Channel) (h : Head) {f : Frames} {e : ℕ} → see o b s (b + p) (frames_body label c cs h) ≡ goes f e → FramesListed label cs h (tell o b s (b + p) (frames_body label c cs h))
  unfolding frames_body between see tell ◌>>=◌ ◌>>◌
  frames_body-lists label c cs h g =
      let z₀ : b + p - b ≡ p = omega arith in
      let z₁ : b + p + 4 - b ≡ p + 4 = omega arith in
      let z₂ : b + p + 4 + 4 - b ≡ p + 8 = omega arith in
      let k : List Frame → Walk Frames = λ fs. padding (span h - (32 + count * size)) >> give (record { seconds = seconds; frames = fs; size = size; padded = count * (size - (24 + sample_bytes seconds cs)) + (span h - (32 + count * size)) }) in
      let g₁ = gate-went _ _ _ _ (rw (z₀, z₁, z₂) at g) in
      let g₂ = gate-went _ _ _ _ g₁.1 in
      let g₃ = gate-went _ _ _ _ g₂.1 in
      let g₄ = gate-went _ _ _ _ g₃.1 in
      let g₅ = gate-went _ _ _ _ g₄.1 in
      let x = went-first o b s (b + p + 4 + 4 + 4 + 4) (framed label cs h) k g₅.1 in
      record {
        long = leb-true _ _ (and_left _ _ (and_left _ _ g₃.0));
        fits = leb-true _ _ (and_left _ _ g₅.0);
        went = record { value = x.value; end = x.end; is = x.is; kept = tt };
        rows =
            rw (z₀, z₁, z₂, g₁.0, g₂.0, g₃.0, g₄.0, g₅.0)
            (tell-bind o b s (b + p + 4 + 4 + 4 + 4) (framed label cs h) k x.is ∙ rw (silent o b s x.end (k x.value) (silent-then (padding (span h - (32 + count * size))) _ (silent-padding (span h - (32 + count * size))) tt)) (append-nil _));
      }

  -- a 140 is one row, and one for each frame
  pub frames-lists : (label : Label) (c : Basic) (own : Bool) (cs : List Channel) (back room : ℕ) (h : Head) {f : Frames} {e : ℕ} → p + room ≤ length s + 16 → see o b s (b + p) (frames label c own cs back room h) ≡ goes f e →
      (24 ≤ size) × (32 + count * size ≤ span h) ×
      (tell o b s (b + p) (frames label c own cs back room h) ≡ record { start = b + p - 16; size = span h; code = h.code; serial = 0 } ∷ series_rows count 1 (b + (p + 16)) size 145)
  unfolding frames
  frames-lists label c own cs back room h f k =
      let d = admit-went o b s (b + p) room (most_of label) (leb 32) (eqb 0) h (require (own || eqb (length cs) c.channels) 14 back >> frames_body label c cs h) k in
      let t = require-went o b s (b + p) (own || eqb (length cs) c.channels) 14 back (frames_body label c cs h) d.rest in
      let x = frames_body-lists label c cs h t.1 in
      let z : b + p + 4 + 4 + 4 + 4 ≡ b + (p + 16) = omega arith in
      let r = series-lists o b s size 145 (frame label size seconds cs) (frame-lists o label b s size seconds cs) (stays-frame label size seconds cs x.long) count 1 (span h - 32) (b + p + 4 + 4 + 4 + 4) (omega arith) (omega (arith, d.inside, x.fits)) x.went.is in
      (omega (arith, x.long), x.fits, d.rows ∙ rw (t.2, x.rows, r, z, eqb-true 0 h.serial d.number))

-- a 140 whose head is not admitted
pub frames-refused : (o : Order) (label : Label) (b : ℕ) (s : List ℕ) (c : Basic) (own : Bool) (cs : List Channel) (back at room : ℕ) (h : Head) {m q : ℕ} {f : Frames} {e : ℕ} →
    see o b s at (admit room (most_of label) (leb 32) (eqb 0) h) ≡ stops m q → see o b s at (frames label c own cs back room h) ≡ goes f e → ⊥
unfolding frames
frames-refused o label b s c own cs back at room h k g = not-admitted o b s at room (most_of label) (leb 32) (eqb 0) h (require (own || eqb (length cs) c.channels) 14 back >> frames_body label c cs h) k g

-- the code's test of the frames' length and count, r, where it holds and where it does not
module _ (size count n : ℕ) (r : Bool) (is : r ≡ leb 24 size && leb (32 + size * count) n) where
  pub fits-true : r ≡ true → (24 ≤ size) × (32 + size * count ≤ n)
  fits-true = both_true 24 size (32 + size * count) n r is

  pub fits-false : r ≡ false → 24 ≤ size → 32 + size * count ≤ n → ⊥
  fits-false = both_false 24 size (32 + size * count) n r is
