-- The canonical form as document 01 says it: with a reading and an order it determines the file, and what is rewritten has it.
-- Assumes nothing.
use mathlib.Core.Path.{◌≡◌, refl, sym, ap, ◌∙◌}
use mathlib.Core.Bool.{true}
use mathlib.Core.List.{List, [], ◌∷◌, ◌++◌, append-nil}
use mathlib.Core.Option.{Option, none}
use Prim.Native.Nat.{ℕ, zero, suc, ◌+◌, ◌*◌, ◌-◌, ◌≤◌, ◌<◌}
use native.Mathlib.Omega.{arith}
use lib.Dec.{leb}
use borrow.Author.Tests.{leb-true}
use lib.ListN.{length, get_or, length-map}
use Rattle.words.specs.Numbers.{Bytes, number_at}
use Rattle.words.specs.declared.Order.{Order}
use Rattle.walk.specs.Plays.{Plays}
use Rattle.walk.specs.Walk.{Letter, Text, Event, numeral, piece, size, render, cleared, passed}
use Rattle.walk.proofs.Laws.{by_parts, plays-gave, size-cleared}
use Rattle.rules.specs.Canonical.{sized_head, blanks, zeroes, numerals, row_of, plain_head, record_of, frame_written, frame_size, frame_events, frames_bytes, frames_head, maker_events, content, recording_head, recording_events, digits, header_events, anew, canonical, rewritten, Canonical}
use Rattle.rules.specs.CanonicalForm.{most, SizedAs, size_at, multiplier_at, length_at, signals_at, makers_length, signals_total, recording_total, RecordingForm, RecordingsForm, CanonicalForm}
use Rattle.rules.specs.Reading.{Reading, reading}
use Rattle.rules.specs.Rules.{most_of, spelled, versioned, formed, series, Head, span, length_of, Label, Channel, sample_bytes, Frame, frame, Maker, Recording, Held, Placed, recording, recordings, between, Heading, file_header, File, Contents, contents, file, order_of, judge}
use Rattle.rules.proofs.Cases.{most-low}
use Rattle.rules.proofs.Asked.{recording-found}
use Rattle.rules.proofs.Canon.{readings, recording_written, PlayedAnew, EachAnew, recordings-ok, file-ok, file-plays}
use Rattle.rules.proofs.Chosen.{Opens, frame_filled, frame-chosen, front, shaped, Chosen, recording-chosen, shaped-anew, content-total}
use Rattle.rules.proofs.Digits.{header_with, header-chosen, digits-only, leading}
use Rattle.rules.proofs.Here.{Here, here-as, here-first, here-then, here-byte, here-size, here-multiplier}
use Rattle.rules.proofs.Named.{spells, versions, forms}
use Rattle.rules.proofs.Places.{frame_found}
use Rattle.rules.proofs.Renew.{and-true, All, record-size, MakerOk, makers-size, FrameOk, frame-body-size}
use Rattle.rules.proofs.Renewed.{RecordingOk, recording-ok}
use Rattle.rules.proofs.Reserve.{of-recording, reserve-zero}
use Rattle.rules.proofs.Rewrite.{reading-words, rewrite-canonical, rewrite-bytes, canonical-unique, rewrite-itself, rewrite-same}
use Rattle.rules.proofs.Sized.{sized, longest, served, sized-as, sized-unique}
use Rattle.rules.proofs.Turn.{accepted, is-render, judge-render}
use Rattle.rules.proofs.Written.{parts, ends, gave-none, plain-is}

-- The frames

module _ (o : Order) (s : List ℕ) (t : ℕ) (cs : List Channel) where
  -- frames with multiplier 0 that end with their samples are known
  frames-known : (label : Label) (n : ℕ) → n ≡ frame_size t cs → (m i room p : ℕ) {u : List Event} {fs : List Frame} → Plays u (series m i n room (frame label n t cs)) fs → Here o s p (cleared u) →
      ((k : ℕ) → k < m → number_at o 4 s (p + k * n + 12) ≡ 0) → cleared u ≡ frame_events t cs i fs
  unfolding series frame_events record_of frame_written
  frames-known label n e zero i room p q w z = rw (plays-gave q) (gave-none q)
  frames-known label n e (suc m) i room p q w z =
      by_parts (frame label n t cs room i) _ q λ f u v e₁ f₀ q.
      by_parts (series m (suc i) n (room - n) (frame label n t cs)) _ q λ fs x y e₂ s₀ q.
      let c = frame-chosen label n t cs room i f₀ in
      let j = parts u v e₁ refl (ends x y e₂ refl (gave-none q)) in
      let w₁ : Here o s p (cleared u ++ cleared x) = here-as j w in
      let w₂ = here-as c.events (here-first (cleared u) (cleared x) w₁) in
      let d : p + zero * n + 12 ≡ p + 12 = omega arith in
      let g : c.head.multiplier ≡ 0 = sym (here-multiplier c.head _ w₂ (omega (arith, c.opens.low))) ∙ (ap (number_at o 4 s) (sym d) ∙ z zero (omega arith)) in
      let h : c.head ≡ plain_head (frame_size t cs) 145 i = plain-is c.head (frame_size t cs) 145 i (omega arith) (c.long ∙ e) c.opens.code c.opens.serial in
      let l : size (cleared u) ≡ n = size-cleared u ∙ omega (arith, (frame_found label n t cs room i f₀).bytes) in
      let r = frames-known label n e m (suc i) (room - n) (p + n) s₀ (here-then (cleared u) (cleared x) w₁ (ap (λ (b : ℕ). p + b) l)) (λ k b. let a : p + n + k * n + 12 ≡ p + suc k * n + 12 = omega arith in ap (number_at o 4 s) a ∙ z (suc k) (omega arith)) in
      let none : n - (24 + sample_bytes t cs) ≡ 0 = omega arith in
      let y : cleared u ≡ record_of (plain_head (frame_size t cs) 145 i) (frame_written cs f) = c.events ∙ (λ j. record_of (h j) (frame_filled cs f (none j))) in
      rw (plays-gave q) (j ∙ (λ k. y k ++ r k))

  -- the canonical frames have multiplier 0
  frames-plain : (fs : List Frame) → All (FrameOk t cs) fs → (i p : ℕ) → Here o s p (frame_events t cs i fs) → (k : ℕ) → k < length fs → number_at o 4 s (p + k * frame_size t cs + 12) ≡ 0
  unfolding frame_events record_of
  frames-plain [] a i p w k l = absurd (omega arith)
  frames-plain (f ∷ fs) a i p w zero l =
      let d : p + zero * frame_size t cs + 12 ≡ p + 12 = omega arith in
      ap (number_at o 4 s) d ∙ here-multiplier (plain_head (frame_size t cs) 145 i) _ w (omega arith)
  frames-plain (f ∷ fs) a i p w (suc k) l =
      let d : p + suc k * frame_size t cs + 12 ≡ p + frame_size t cs + k * frame_size t cs + 12 = omega arith in
      let h : size (record_of (plain_head (frame_size t cs) 145 i) (frame_written cs f)) ≡ frame_size t cs = record-size _ (frame_written cs f) ∙ omega (arith, frame-body-size t cs f a.0) in
      ap (number_at o 4 s) d ∙ frames-plain fs a.1 (suc i) (p + frame_size t cs) (here-then (record_of (plain_head (frame_size t cs) 145 i) (frame_written cs f)) (frame_events t cs (suc i) fs) w (ap (λ (b : ℕ). p + b) h)) k (omega arith)

-- A recording

makers-length : (label : Label) (ms : List Maker) → All (MakerOk label) ms → makers_length ms ≡ size (maker_events ms)
unfolding makers_length maker_events size
makers-length label [] k = refl
makers-length label (m ∷ ms) k = ap (λ (n : ℕ). span m.head + n) (makers-length label ms k.1) ∙ sym (makers-size m ms k.0)

-- what is read where the 10 and the 140 stand, and where the frames stand
record Stood (s : List ℕ) (at at140 : ℕ) (h g : Head) (frames : List Event) : Type 0 where
  size : size_at s at ≡ h.size
  multiplier : multiplier_at s at ≡ h.multiplier
  size140 : size_at s (at + at140) ≡ g.size
  multiplier140 : multiplier_at s (at + at140) ≡ g.multiplier
  here : Here (order_of s) s (at + at140 + 32) frames

stood : (label : Label) (s : List ℕ) (at : ℕ) (r : Recording) (h g : Head) (n : ℕ) (frames : List Event) (pad : ℕ) → Here (order_of s) s at (shaped label r h g n frames pad) →
    {i : ℕ} → Opens 10 i h → Opens 140 0 g → Stood s at (16 + size (front label r)) h g frames
unfolding record_of size
stood label s at r h g n frames pad w a b =
    let w₁ = here-then (record_of h (front label r)) _ w (ap (λ (m : ℕ). at + m) (record-size h (front label r))) in
    let w₂ = here-then (numerals g ++ (row_of g ∷ numeral 4 r.seconds ∷ numeral 4 n ∷ numeral 4 (length r.frames) ∷ blanks 4 ∷ [])) _ w₁ refl in
    record {
      size = here-size h _ w (omega (arith, a.small));
      multiplier = here-multiplier h _ w (omega (arith, a.low));
      size140 = here-size g _ w₁ (omega (arith, b.small));
      multiplier140 = here-multiplier g _ w₁ (omega (arith, b.low));
      here = here-first frames _ (here-first (frames ++ (zeroes (span g - (32 + length r.frames * n)) ∷ [])) _ w₂);
    }

-- a head with the size and the multiplier that document 01 gives a record of n bytes
sized-head : (n c i : ℕ) (h : Head) → Opens c i h → SizedAs n h.size h.multiplier → h ≡ sized_head n c i
sized-head n c i h k a = let z = sized-unique n a (sized-as n) in λ j. record { size = z.0 j; code = k.code j; serial = k.serial j; multiplier = z.1 j }

sized-opens : (label : Label) (n c i : ℕ) → n ≤ longest (most_of label) → Opens c i (sized_head n c i)
sized-opens label n c i l = record { low = omega (arith, served n (most_of label) l, most-low label); small = omega (arith, (sized n).small); code = refl; serial = refl }

sized-like : {n n' s s' m m' : ℕ} → n ≡ n' → s ≡ s' → m ≡ m' → SizedAs n s m → SizedAs n' s' m'
sized-like e f g k = rw (← e, ← f, ← g) k

pad-is : (l a b c p x : ℕ) → l ≡ a + b + c + 16 + p → x ≡ a + b + c + 16 → p ≡ l - x
pad-is l a b c p x h k = omega arith

module _ (label : Label) (s : List ℕ) (at i : ℕ) (held : Option Held) (x : Placed) (k : RecordingOk label held x.recording) where
  abbrev r : Recording
  r = x.recording

  abbrev g₀ : Head
  g₀ = frames_head r.seconds r.channels r.frames

  -- the total length of the 10
  total-is : x.layout.at140 ≡ 16 + size (front label r) → length_at s (signals_at at x) ≡ span g₀ → recording_total s at x ≡ 16 + size (content label r)
  total-is e f = (λ j. e j + f j + makers-length label r.makers₆ k.makers₆ j + 16) ∙ sym (content-total label r k.frames)

  recording-known : {t : List Event} → Chosen label i t x → Here (order_of s) s at (cleared t) → RecordingForm s at x → cleared t ≡ recording_written label i r
  recording-known c w f =
      let d : Stood s at x.layout.at140 c.head c.signals (cleared c.frames) =
      rw c.at140 (stood label s at r c.head c.signals x.layout.frame (cleared c.frames) c.pad (here-as c.events w) c.opens c.opens140) in
      let n : signals_total x ≡ frames_bytes r.seconds r.channels r.frames = ap (λ (m : ℕ). 32 + length r.frames * m) f.filled in
      let g : c.signals ≡ g₀ = sized-head _ 140 0 c.signals c.opens140 (sized-like n d.size140 d.multiplier140 f.signals) in
      let l : length_at s (signals_at at x) ≡ span g₀ = (λ j. length_of (d.size140 j) (d.multiplier140 j)) ∙ ap (λ (h : Head). span h) g in
      let h : c.head ≡ recording_head label i r = sized-head _ 10 i c.head c.opens (sized-like (total-is c.at140 l) d.size d.multiplier f.recording) in
      let q : cleared c.frames ≡ frame_events r.seconds r.channels 1 r.frames =
      frames-known (order_of s) s r.seconds r.channels label x.layout.frame f.filled (length r.frames) 1 c.room (at + x.layout.at140 + 32) c.plays d.here f.plain in
      let p : c.pad ≡ span (recording_head label i r) - (16 + size (content label r)) =
      pad-is (span (recording_head label i r)) (16 + size (front label r)) (span g₀) (size (maker_events r.makers₆)) c.pad (16 + size (content label r))
      (ap (λ (b : Head). span b) (sym h) ∙ (c.total ∙ ap (λ (b : Head). 16 + size (front label r) + span b + size (maker_events r.makers₆) + 16 + c.pad) g)) (content-total label r k.frames) in
      c.events ∙ ((λ j. shaped label r (h j) (g j) (f.filled j) (q j) (p j)) ∙ sym (shaped-anew label (recording_head label i r) r (span (recording_head label i r) - (16 + size (content label r)))))

-- What stands first is known, and so what follows is the same

behind-head : (h h' : Head) (t u : List Event) → record_of h t ≡ record_of h' u → t ≡ u
unfolding record_of
behind-head h h' t u e = cc

same_first : (t u v : List Event) → t ++ u ≡ t ++ v → u ≡ v
same_first [] u v e = e
same_first (a ∷ t) u v e = same_first t u v (cc)

frame-of : (g g' : Head) (m m' n n' : ℕ) (t u : List Event) → numerals g ++ (row_of g ∷ numeral 4 m ∷ numeral 4 n ∷ t) ≡ numerals g' ++ (row_of g' ∷ numeral 4 m' ∷ numeral 4 n' ∷ u) → n ≡ n'
frame-of g g' m m' n n' t u e = cc

same-frame : (label : Label) (r : Recording) (h h' g g' : Head) (n n' : ℕ) (frames frames' : List Event) (pad pad' : ℕ) → shaped label r h g n frames pad ≡ shaped label r h' g' n' frames' pad' → n ≡ n'
same-frame label r h h' g g' n n' frames frames' pad pad' e = frame-of g g' r.seconds r.seconds n n' _ _ (same_first (front label r) _ _ (behind-head h h' _ _ e))

recording-form : (label : Label) (s : List ℕ) (at i : ℕ) (x : Placed) → PlayedAnew label i x → Here (order_of s) s at (recording_written label i x.recording) → RecordingForm s at x
recording-form label s at i x a w =
    let r : Recording = x.recording in
    let k = recording-ok label a.held a.room i a.plays in
    let c = recording-chosen label a.held a.room i a.plays in
    let h : Head = recording_head label i r in
    let g : Head = frames_head r.seconds r.channels r.frames in
    let pad : ℕ = span h - (16 + size (content label r)) in
    let n : x.layout.frame ≡ frame_size r.seconds r.channels =
    same-frame label r c.head h c.signals g x.layout.frame (frame_size r.seconds r.channels) (cleared c.frames) (frame_events r.seconds r.channels 1 r.frames) c.pad pad
    (sym c.events ∙ (of-recording label h r pad ∙ shaped-anew label h r pad)) in
    let d : Stood s at x.layout.at140 h g (frame_events r.seconds r.channels 1 r.frames) =
    rw c.at140 (stood label s at r h g (frame_size r.seconds r.channels) (frame_events r.seconds r.channels 1 r.frames) pad (here-as (shaped-anew label h r pad) w)
    (sized-opens label _ 10 i k.long) (sized-opens label _ 140 0 k.frames.total)) in
    let l : length_at s (signals_at at x) ≡ span g = λ j. length_of (d.size140 j) (d.multiplier140 j) in
    record {
      plain = λ j m. ap (λ (y : ℕ). number_at (order_of s) 4 s (signals_at at x + 32 + j * y + 12)) n ∙ frames-plain (order_of s) s r.seconds r.channels r.frames k.frames.each 1 (signals_at at x + 32) d.here j m;
      filled = n;
      signals = sized-like (ap (λ (y : ℕ). 32 + length r.frames * y) (sym n)) (sym d.size140) (sym d.multiplier140) (sized-as (frames_bytes r.seconds r.channels r.frames));
      recording = sized-like (sym (total-is label s at i a.held x k c.at140 l)) (sym d.size) (sym d.multiplier) (sized-as (16 + size (content label r)));
    }

-- The recordings

recordings-known : (label : Label) (s : List ℕ) (n : ℕ) (held : Option Held) (room i at : ℕ) {t : List Event} {ps : List Placed} → Plays t (recordings label n held room i) ps → Here (order_of s) s at (cleared t) →
    RecordingsForm s at ps → cleared t ≡ recording_events label i (readings ps)
unfolding recordings recording_events
recordings-known label s zero held room i at p w f = rw (plays-gave p) (gave-none p)
recordings-known label s (suc n) held room i at p w f =
    by_parts (recording label held room i) _ p λ x u v e r₀ p.
    by_parts (recordings label n _ _ (suc i)) _ p λ ps y z e₁ q₀ p.
    let g : RecordingsForm s at (x ∷ ps) = rw (plays-gave p) at f in
    let j = parts u v e refl (ends y z e₁ refl (gave-none p)) in
    let w₁ : Here (order_of s) s at (cleared u ++ cleared y) = here-as j w in
    let a = recording-known label s at i held x (recording-ok label held room i r₀) (recording-chosen label held room i r₀) (here-first (cleared u) (cleared y) w₁) g.0 in
    let l : size (cleared u) ≡ x.layout.bytes = size-cleared u ∙ (recording-found label held room i r₀).bytes in
    let b = recordings-known label s n _ _ (suc i) (at + x.layout.bytes) q₀ (here-then (cleared u) (cleared y) w₁ (ap (λ (m : ℕ). at + m) l)) g.1 in
    rw (plays-gave p) (j ∙ (λ k. a k ++ b k))

recordings-form : (label : Label) (s : List ℕ) (at i : ℕ) (ps : List Placed) → EachAnew label i ps → Here (order_of s) s at (recording_events label i (readings ps)) → RecordingsForm s at ps
unfolding recording_events
recordings-form label s at i [] a w = tt
recordings-form label s at i (x ∷ ps) a w =
    let t : List Event = recording_written label i x.recording in
    let l : size t ≡ x.layout.bytes = (recording-found label a.0.held a.0.room i a.0.plays).bytes in (
      recording-form label s at i x a.0 (here-first t (recording_events label (suc i) (readings ps)) w),
      recordings-form label s (at + x.layout.bytes) (suc i) ps a.1 (here-then t (recording_events label (suc i) (readings ps)) w (ap (λ (m : ℕ). at + m) l)),
    )

-- The file

here-all : (s : List ℕ) (t : List Event) → s ≡ render (order_of s) t → Here (order_of s) s 0 t
here-all s t e = record { behind = []; is = e ∙ sym (append-nil (render (order_of s) t)) }

-- the first digit of K, and the first recording
module _ (s : List ℕ) (g : Heading) (d : List ℕ) (t : List Event) (long : length d ≡ 4) (w : Here (order_of s) s 0 (header_with g d ++ t)) where
  digit_at : get_or s 18 0 ≡ get_or d 0 0
  unfolding size
  digit_at = first d long (here-then (piece Text (spelled g.spelling) ∷ piece Text (versioned g.label.version) ∷ piece Text (formed g.label.form) ∷ piece Letter (76 ∷ []) ∷ piece Text (g.script ∷ []) ∷ []) _ w
      (omega (arith, (spells g.spelling).long, (versions g.label.version).long, (forms g.label.form).long)))
    where
      first : (b : List ℕ) → length b ≡ 4 → {u : List Event} → Here (order_of s) s 18 (piece Text b ∷ u) → get_or s 18 0 ≡ get_or b 0 0
      first [] h v = absurd (omega arith)
      first (b ∷ bs) h {u} v = here-byte b bs u v

  recordings-at : Here (order_of s) s 32 t
  unfolding size
  recordings-at = here-then (header_with g d) t w (omega (arith, (spells g.spelling).long, (versions g.label.version).long, (forms g.label.form).long))

-- events that are in canonical form are those of the contents written anew
file-known : (s : List ℕ) (n : ℕ) {t : List Event} {v : File} → Plays t (file n) v → s ≡ render (order_of s) t → CanonicalForm s v t → t ≡ anew (contents v)
unfolding file anew header_events cleared
file-known s n {t} p e₀ k =
    by_parts (file_header n) _ p λ f u w e f₀ p.
    by_parts (recordings f.heading.label f.count none (n - 32) 1) _ p λ ps y z e₁ r₀ p.
    let c = header-chosen n f₀ in
    let q : t ≡ header_with f.heading c.digits ++ cleared y = sym k.reserve ∙ parts u w e (ap cleared c.events) (ends y z e₁ refl (gave-none p)) in
    let w₀ : Here (order_of s) s 0 (header_with f.heading c.digits ++ cleared y) = here-as q (here-all s t e₀) in
    let d : c.digits ≡ digits f.count = digits-only c.digits c.long c.fits (λ b. k.count (digit_at s f.heading c.digits (cleared y) c.long w₀ ∙ b)) ∙ ap digits (sym c.count) in
    let m : f.count ≡ length (readings ps) = sym (length-map ps (λ x. x.recording) ∙ (recordings-ok f.heading.label f.count none (n - 32) 1 r₀).0) in
    let a = recordings-known f.heading.label s f.count none (n - 32) 1 32 r₀ (recordings-at s f.heading c.digits (cleared y) c.long w₀) (rw (plays-gave p) at k.recordings) in
    let l = d ∙ ap digits m in
    rw (plays-gave p) (q ∙ (λ i. header_with f.heading (l i) ++ a i))

-- K and the recordings of a file that is written anew
module _ (s : List ℕ) (v : Contents) (k : between 1 64 (length v.recordings) ≡ true) (e : s ≡ render (order_of s) (anew v)) where
  counts : (1 ≤ length v.recordings) × (length v.recordings ≤ 64)
  unfolding between
  counts = let b = and-true (leb 1 (length v.recordings)) (leb (length v.recordings) 64) k in (leb-true 1 (length v.recordings) b.0, leb-true (length v.recordings) 64 b.1)

  anew-here : Here (order_of s) s 0 (header_with v.heading (digits (length v.recordings)) ++ recording_events v.heading.label 1 v.recordings)
  unfolding anew header_events
  anew-here = here-all s (anew v) e

  anew-count : get_or s 18 0 ≡ 48 → ⊥
  anew-count h =
      let d = leading (length v.recordings) counts.0 counts.1 in
      omega (arith, d.first, digit_at s v.heading (digits (length v.recordings)) (recording_events v.heading.label 1 v.recordings) d.long anew-here)

  anew-recordings : Here (order_of s) s 32 (recording_events v.heading.label 1 v.recordings)
  anew-recordings = recordings-at s v.heading (digits (length v.recordings)) (recording_events v.heading.label 1 v.recordings) (leading (length v.recordings) counts.0 counts.1).long anew-here

-- The theorems

-- an accepted file in canonical form is the canonical file of its reading
module _ (s : List ℕ) (b : Bytes s) {v : File} {t : List Event} (h : judge s ≡ passed v [] t) (f : CanonicalForm s v t) where
  pub form-canonical : t ≡ canonical (reading v)
  form-canonical = file-known s (length s) (accepted s b h).plays (is-render s b h) f ∙ ap anew (sym (reading-words s b h))

  pub form-is : Canonical (reading v) s
  form-is = record { file = v; judged = h ∙ ap (λ (u : List Event). passed v [] u) form-canonical; same = refl }

  -- rewritten in its own order it is itself
  pub form-itself : rewritten (order_of s) s ≡ s
  form-itself = rewrite-itself (reading v) s b form-is

-- a canonical file is in canonical form
pub canonical-form : (v : Reading) (s : List ℕ) → Bytes s → (c : Canonical v s) → CanonicalForm s c.file (canonical v)
canonical-form v s b c =
    let h = c.judged in
    let k = file-ok (length s) (accepted s b h).plays in
    let a = file-plays (contents c.file) k in
    let e : canonical v ≡ anew (contents c.file) = ap (λ (x : Reading). canonical x) (sym c.same) ∙ ap anew (reading-words s b h) in
    let r : s ≡ render (order_of s) (anew (contents c.file)) = is-render s b h ∙ ap (render (order_of s)) e in
    let j : judge s ≡ passed a.file [] (anew (contents c.file)) = ap judge r ∙ judge-render a.plays (order_of s) in
    let z : a.file ≡ c.file = cc in
    let m : a.file.recordings ≡ c.file.recordings = ap (λ (x : File). x.recordings) z in
    let w = anew-recordings s (contents c.file) k.header.count r in
    record {
      count = anew-count s (contents c.file) k.header.count r;
      reserve = reserve-zero v;
      recordings = rw m at (recordings-form c.file.heading.label s 32 1 a.file.recordings a.each (rw (← m) at w));
    }

-- so what is rewritten has it
pub rewrite-form : (s : List ℕ) (b : Bytes s) {v : File} {t : List Event} (h : judge s ≡ passed v [] t) (o : Order) → CanonicalForm (rewritten o s) (rewrite-canonical s b h o).file (canonical (reading v))
rewrite-form s b {v} h o = canonical-form (reading v) (rewritten o s) (rewrite-bytes s b h o) (rewrite-canonical s b h o)

-- the form, the reading and the order determine the file
module _ (s s' : List ℕ) (b : Bytes s) (b' : Bytes s') {v v' : File} {t t' : List Event} (h : judge s ≡ passed v [] t) (h' : judge s' ≡ passed v' [] t') (same : reading v ≡ reading v') where
  pub form-unique : CanonicalForm s v t → CanonicalForm s' v' t' → order_of s ≡ order_of s' → s ≡ s'
  form-unique f f' o = canonical-unique (reading v) s s' b b' (form-is s b h f) (rw same (form-is s' b' h' f')) o

  -- it is what rewriting another file of that reading gives
  pub form-rewritten : CanonicalForm s v t → s ≡ rewritten (order_of s) s'
  form-rewritten f = sym (form-itself s b h f) ∙ rewrite-same (order_of s) s s' h h' same
