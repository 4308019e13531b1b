-- What an accepted recording leaves open beyond its contents: the sizes and the multipliers of its 10, its 140 and its frames, the padding, and the bytes that are not judged.
-- With those bytes zero its events are known from the others.
-- Assumes nothing.
use mathlib.Core.Path.{◌≡◌, refl, sym, ap, ◌∙◌}
use mathlib.Core.Bool.{Bool, true}
use mathlib.Core.List.{List, [], ◌∷◌, ◌++◌, append_assoc}
use mathlib.Core.Option.{Option}
use Prim.Native.Nat.{ℕ, ◌+◌, ◌*◌, ◌-◌, ◌≤◌, ◌<◌}
use native.Mathlib.Omega.{arith}
use lib.Dec.{leb, eqb}
use borrow.Author.Tests.{eqb-true}
use lib.ListN.{length, replicate}
use Rattle.walk.specs.Plays.{Plays}
use Rattle.walk.specs.Walk.{Padding, Event, numeral, piece, row, size, cleared, give, ◌>>=◌, ◌>>◌}
use Rattle.walk.proofs.Laws.{by_parts, by-check, taken, plays-gave, traced, size-append, size-cleared, zeros-length}
use Rattle.rules.specs.Canonical.{blanks, zeroes, numerals, row_of, plain_head, record_of, basic_fields, channels_head, channels_written, items_head, items_written, sample_events, frame_size, frame_events, frames_head, frames_written, maker_events, optional, delimiter_head, delimiter_events, channels_group_of, montage_group_of, content}
use Rattle.rules.specs.Rules.{most_of, padding, zeros, series, limit, Head, head, span, admit, Basic, Label, Channel, sample_bytes, samples, Frame, frame, frame_body, Frames, frames, frames_body, next, Recording, Held, count_back, delimiter, Placed, descriptions, signals, recording_body, recording}
use Rattle.rules.proofs.Cases.{most-low}
use Rattle.rules.proofs.Asked.{recording-found}
use Rattle.rules.proofs.Places.{frames-found}
use Rattle.rules.proofs.Renew.{and-true, Admitted, admit-ok, series-ok, next-ok, FramesOk, frames-ok, frames-size, record-size}
use Rattle.rules.proofs.Written.{parts, ends, gave-none, number-first, piece-first, blank-first, by-counted, by-skipped, head-written, admit-written, samples-written, zeros-are, next-written, tables_events, tables-written}

-- padding, and what is given behind it
padding-last : {A : Type 0} (n : ℕ) (a : A) {t : List Event} {b : A} → Plays t (padding n >>= λ _. give a) b → (b ≡ a) × (cleared t ≡ zeroes n ∷ [])
unfolding padding ◌>>=◌
padding-last n a p =
    let r = taken p in
    by_parts (zeros r.bytes) _ r.then λ _ u v e z₀ p.
    let z = zeros-are r.bytes z₀ in
    let y : r.bytes ≡ replicate n 0 = z.1 ∙ ap (λ (m : ℕ). replicate m 0) r.width in
    (plays-gave p, piece-first r.split (ends u v e z.0 (gave-none p)) ∙ ap (λ (bs : List ℕ). piece Padding bs ∷ []) y)

-- a head that was admitted by its code and its serial
pub record Opens (c i : ℕ) (h : Head) : Type 0 where
  pub low : h.multiplier ≤ 128
  pub small : h.size < limit
  pub code : h.code ≡ c
  pub serial : h.serial ≡ i

opens : (label : Label) (room : ℕ) (fits : ℕ → Bool) (c i : ℕ) (h : Head) → Admitted room (most_of label) fits (eqb i) h → eqb h.code c ≡ true → Opens c i h
opens label room fits c i h a k = record { low = omega (arith, a.low, most-low label); small = a.small; code = eqb-true h.code c k; serial = sym (eqb-true i h.serial a.serial) }

-- A frame

-- behind its head, with so much padding
abbrev pub frame_filled : List Channel → Frame → ℕ → List Event
frame_filled cs f pad = numeral 2 f.hour ∷ numeral 2 f.minute ∷ numeral 2 f.second ∷ blanks 2 ∷ (sample_events cs f.channels ++ (zeroes pad ∷ []))

pub record FrameChosen (n t : ℕ) (cs : List Channel) (i : ℕ) (u : List Event) (f : Frame) : Type 0 where
  pub head : Head
  pub opens : Opens 145 i head
  pub long : span head ≡ n
  pub events : cleared u ≡ record_of head (frame_filled cs f (n - (24 + sample_bytes t cs)))

frame-inside : (n t : ℕ) (cs : List Channel) {u : List Event} {f : Frame} → Plays u (frame_body n t cs) f → cleared u ≡ frame_filled cs f (n - (24 + sample_bytes t cs))
unfolding frame_body ◌>>=◌ ◌>>◌
frame-inside n t cs p =
    by-counted p λ x _ e₁ p. by-check p λ _ p. by-counted p λ y _ e₂ p. by-check p λ _ p. by-counted p λ z _ e₃ p. by-check p λ _ p. by-skipped p λ _ _ e₄ w p.
    by_parts (samples t cs) _ p λ ss a b e s₀ p.
    let q = padding-last (n - (24 + sample_bytes t cs)) _ p in
    rw q.0 (number-first e₁ (number-first e₂ (number-first e₃ (blank-first e₄ w (parts a b e (samples-written t cs s₀) q.1)))))

pub frame-chosen : (label : Label) (n t : ℕ) (cs : List Channel) (room i : ℕ) {u : List Event} {f : Frame} → Plays u (frame label n t cs room i) f → FrameChosen n t cs i u f
unfolding frame record_of ◌>>=◌ ◌>>◌
frame-chosen label n t cs room i p =
    by_parts (head room) _ p λ h u₁ v₁ e₁ h₀ p. by-check p λ c p.
    by_parts (admit room (most_of label) _ (eqb i) h) _ p λ _ u₂ v₂ e₂ a₀ p.
    let k = admit-ok room (most_of label) _ (eqb i) h a₀ in
    record {
      head = h;
      opens = opens label room _ 145 i h k c;
      long = eqb-true (span h) n (and-true (eqb (span h) n) _ k.fits).0;
      events = parts u₁ v₁ e₁ (head-written room h₀) (parts u₂ v₂ e₂ (admit-written room (most_of label) _ (eqb i) h a₀) (frame-inside n t cs p));
    }

-- 140

-- behind its head: T, the frame length, F, the frames and the padding
abbrev pub signals_fields : Head → ℕ → ℕ → List Frame → List Event → List Event
signals_fields h t n fs frames = numeral 4 t ∷ numeral 4 n ∷ numeral 4 (length fs) ∷ blanks 4 ∷ (frames ++ (zeroes (span h - (32 + length fs * n)) ∷ []))

-- the events u are these, from those of the frames
pub record SignalsChosen (label : Label) (cs : List Channel) (h : Head) (u : List Event) (x : Frames) : Type 0 where
  pub frames : List Event
  pub room : ℕ
  pub plays : Plays frames (series (length x.frames) 1 x.size room (frame label x.size x.seconds cs)) x.frames
  pub events : cleared u ≡ signals_fields h x.seconds x.size x.frames (cleared frames)

signals-inside : {label : Label} (b : Basic) (cs : List Channel) (h : Head) {u : List Event} {x : Frames} → Plays u (frames_body label b cs h) x → SignalsChosen label cs h u x
unfolding frames_body ◌>>=◌ ◌>>◌
signals-inside {label} b cs h p =
    by-counted p λ t _ e₁ p. by-check p λ _ p. by-check p λ _ p. by-counted p λ n _ e₂ p. by-check p λ _ p. by-counted p λ m _ e₃ p. by-check p λ _ p. by-check p λ _ p. by-skipped p λ _ _ e₄ w p.
    by_parts (series m 1 n (span h - 32) (frame label n t cs)) _ p λ fs u v e s₀ p.
    let q = padding-last (span h - (32 + m * n)) _ p in
    let l : length fs ≡ m = (series-ok (λ _. Unit {0}) (frame label n t cs) (λ _ _ _ _ _. tt) m 1 n (span h - 32) s₀).0 in
    rw q.0 (record {
      frames = u;
      room = span h - 32;
      plays = rw l s₀;
      events = number-first e₁ (number-first e₂ (number-first e₃ (blank-first e₄ w (parts u v e refl q.1)))) ∙ rw l;
    })

-- A recording

delimiter-chosen : (h : Head) {t : List Event} {u : Unit {0}} → Plays t (delimiter h) u → (h ≡ delimiter_head) × (cleared t ≡ row 16 16 0 0 ∷ [])
unfolding delimiter cleared ◌>>=◌ ◌>>◌
delimiter-chosen h p =
    let q = traced p in
    let c = q.trace in
    let m = c.then in
    let s = m.then in
    (λ i. record { size = eqb-true h.size 0 s.holds i; code = eqb-true h.code 0 c.holds i; serial = eqb-true h.serial 0 s.then.holds i; multiplier = eqb-true h.multiplier 0 m.holds i }, rw q.events)

-- a recording's records up to the 140
pub front : Label → Recording → List Event
front label r =
    record_of (plain_head 128 100 0) (basic_fields r.basic) ++ (maker_events r.makers₁ ++
    (optional r.own_channels (record_of (channels_head (channels_group_of label r) r.channels) (channels_written (channels_group_of label r) r.channels) ++ maker_events r.makers₂) ++
    (optional r.own_patient (record_of (items_head 130 r.patient) (items_written r.patient) ++ maker_events r.makers₃) ++
    (optional r.own_events (record_of (items_head 200 r.events) (items_written r.events) ++ maker_events r.makers₄) ++
    optional r.own_montage (record_of (channels_head (montage_group_of r) r.montage) (channels_written (montage_group_of r) r.montage) ++ maker_events r.makers₅)))))

-- with these heads, this frame length, the frames' events and so much padding behind the delimiter
abbrev pub shaped : Label → Recording → Head → Head → ℕ → List Event → ℕ → List Event
shaped label r h g n frames pad =
    record_of h (front label r ++ (numerals g ++ ((row_of g ∷ signals_fields g r.seconds n r.frames frames) ++ (maker_events r.makers₆ ++ (delimiter_events ++ (zeroes pad ∷ []))))))

pub record Chosen (label : Label) (i : ℕ) (t : List Event) (x : Placed) : Type 0 where
  -- the heads of the 10 and of the 140
  pub head : Head
  pub opens : Opens 10 i head
  pub signals : Head
  pub opens140 : Opens 140 0 signals
  -- the frames
  pub frames : List Event
  pub room : ℕ
  pub plays : Plays frames (series (length x.recording.frames) 1 x.layout.frame room (frame label x.layout.frame x.recording.seconds x.recording.channels)) x.recording.frames
  -- the padding behind the delimiter
  pub pad : ℕ
  pub events : cleared t ≡ shaped label x.recording head signals x.layout.frame (cleared frames) pad
  -- where the 140 stands, and how long all is
  pub at140 : x.layout.at140 ≡ 16 + size (front label x.recording)
  pub total : span head ≡ 16 + size (front label x.recording) + span signals + size (maker_events x.recording.makers₆) + 16 + pad

-- the delimiter's head is read with what stands before it
delimited : (m z : List Event) (h : Head) → h ≡ delimiter_head → (m ++ numerals h) ++ ((row 16 16 0 0 ∷ []) ++ z) ≡ m ++ (delimiter_events ++ z)
unfolding delimiter_events
delimited m z h e = rw (e, append_assoc m)

shaped-size : (h g : Head) (f i m : List Event) (pad : ℕ) → size (record_of h (f ++ (numerals g ++ (i ++ (m ++ (delimiter_events ++ (zeroes pad ∷ []))))))) ≡ 16 + (size f + (16 + (size i + (size m + (16 + pad)))))
unfolding size delimiter_events
shaped-size h g f i m pad = rw (record-size, size-append f, size-append i, size-append m) (omega (arith, zeros-length pad))

chosen-sums : (B f u s m d e : ℕ) → B ≡ 16 + (f + (16 + (u + (m + (16 + (d - 16)))))) → u + 16 ≡ s → m + d ≡ e - s → 16 ≤ d → s ≤ e → (B - e ≡ 16 + f) × (B ≡ 16 + f + s + m + 16 + (d - 16))
chosen-sums B f u s m d e h₁ h₂ h₃ h₄ h₅ = (omega arith, omega arith)

pub recording-chosen : (label : Label) (held : Option Held) (room i : ℕ) {t : List Event} {x : Placed} → Plays t (recording label held room i) x → Chosen label i t x
unfolding recording recording_body signals frames front record_of ◌>>=◌ ◌>>◌
recording-chosen label held room i {t} {x} p₀ =
    by_parts (head room) _ p₀ λ h u₁ v₁ e₁ h₀ p. by-check p λ c₁ p.
    by_parts (admit room (most_of label) (leb 16) (eqb i) h) _ p λ _ u₂ v₂ e₂ a₀ p.
    by_parts (descriptions label held (span h)) _ p λ d u₃ v₃ e₃ d₀ p. by-check p λ c₂ p.
    by_parts (frames label d.basic d.channels.own d.channels.value (count_back (span h) d.montage.next.room) d.montage.next.room d.montage.next.head) _ p λ f u₄ v₄ e₄ f₀ p.
    by_parts (admit d.montage.next.room (most_of label) (leb 32) (eqb 0) d.montage.next.head) _ f₀ λ _ u₅ v₅ e₅ g₀ f₁. by-check f₁ λ _ f₁.
    by_parts (next label (span h) (d.montage.next.room - span d.montage.next.head)) _ p λ n u₆ v₆ e₆ n₀ p.
    by_parts (delimiter n.head) _ p λ _ u₇ v₇ e₇ l₀ p. by-check p λ _ p. by-check p λ _ p.
    let y = padding-last (n.room - 16) _ p in
    let g : Head = d.montage.next.head in
    let left : ℕ = d.montage.next.room in
    let F : List Event = tables_events label d in
    let M : List Event = maker_events n.makers in
    let s = signals-inside d.basic d.channels.value g f₁ in
    let l = delimiter-chosen n.head l₀ in
    let S : List Event = row_of g ∷ signals_fields g f.seconds f.size f.frames (cleared s.frames) in
    let s₁ : cleared u₄ ≡ S = parts u₅ v₅ e₅ (admit-written left (most_of label) (leb 32) (eqb 0) g g₀) s.events in
    let w : cleared t ≡ record_of h (F ++ (numerals g ++ (S ++ (M ++ (delimiter_events ++ (zeroes (n.room - 16) ∷ [])))))) =
    parts u₁ v₁ e₁ (head-written room h₀) (parts u₂ v₂ e₂ (admit-written room (most_of label) (leb 16) (eqb i) h a₀) (parts u₃ v₃ e₃ (tables-written label held (span h) d₀) (parts u₄ v₄ e₄ s₁
    (parts u₆ v₆ e₆ (next-written label (span h) (left - span g) n₀) (parts u₇ v₇ e₇ l.1 y.1) ∙ delimited M (zeroes (n.room - 16) ∷ []) n.head l.0)) ∙ append_assoc F (numerals g) _)) in
    let b₁ : span h ≡ 16 + (size F + (16 + (size S + (size M + (16 + (n.room - 16)))))) =
    sym ((recording-found label held room i p₀).bytes ∙ ap (λ (z : Placed). z.layout.bytes) y.0) ∙ (sym (size-cleared t) ∙ (ap size w ∙ shaped-size h g F S M (n.room - 16))) in
    let b₂ : size S + 16 ≡ span g = ap (λ (m : ℕ). m + 16) (ap size (sym s₁) ∙ size-cleared u₄) ∙ (frames-found (record { hour = 0; minute = 0; second = 0; channels = [] }) d.basic d.channels.own d.channels.value _ left g f₀).bytes in
    let b₃ = next-ok (span h) (left - span g) n₀ in
    let j = chosen-sums (span h) (size F) (size S) (span g) (size M) n.room left b₁ b₂ b₃.left b₃.enough (frames-ok d.basic d.channels.own d.channels.value _ left g f₀).2 in
    rw y.0 (record {
      head = h;
      opens = opens label room (leb 16) 10 i h (admit-ok room (most_of label) (leb 16) (eqb i) h a₀) c₁;
      signals = g;
      opens140 = opens label left (leb 32) 140 0 g (admit-ok left (most_of label) (leb 32) (eqb 0) g g₀) c₂;
      frames = s.frames;
      room = s.room;
      plays = s.plays;
      pad = n.room - 16;
      events = w;
      at140 = j.0;
      total = j.1;
    })

-- The canonical form of a recording has this shape

content-front : (label : Label) (r : Recording) → content label r ≡ front label r ++ (record_of (frames_head r.seconds r.channels r.frames) (frames_written r.seconds r.channels r.frames) ++ (maker_events r.makers₆ ++ delimiter_events))
unfolding content front
content-front label r = simp append_assoc

in-shape : (f w m d z : List Event) (h : Head) → (f ++ (record_of h w ++ (m ++ d))) ++ z ≡ f ++ (numerals h ++ ((row_of h ∷ w) ++ (m ++ (d ++ z))))
unfolding record_of
in-shape f w m d z h = simp append_assoc

pub shaped-anew : (label : Label) (h : Head) (r : Recording) (pad : ℕ) →
    record_of h (content label r ++ (zeroes pad ∷ [])) ≡ shaped label r h (frames_head r.seconds r.channels r.frames) (frame_size r.seconds r.channels) (frame_events r.seconds r.channels 1 r.frames) pad
unfolding frames_written
shaped-anew label h r pad =
    ap (record_of h) (ap (λ (t : List Event). t ++ (zeroes pad ∷ [])) (content-front label r) ∙
    in-shape (front label r) (frames_written r.seconds r.channels r.frames) (maker_events r.makers₆) delimiter_events (zeroes pad ∷ []) (frames_head r.seconds r.channels r.frames))

pub content-total : (label : Label) (r : Recording) → FramesOk label r.basic r.own_channels r.channels r.seconds r.frames →
    16 + size (content label r) ≡ 16 + size (front label r) + span (frames_head r.seconds r.channels r.frames) + size (maker_events r.makers₆) + 16
unfolding delimiter_events size
content-total label r k =
    let g : List Event = record_of (frames_head r.seconds r.channels r.frames) (frames_written r.seconds r.channels r.frames) in
    let e : size (content label r) ≡ size (front label r) + (size g + (size (maker_events r.makers₆) + 16)) =
    ap size (content-front label r) ∙ (size-append (front label r) _ ∙ ap (λ (n : ℕ). size (front label r) + n) (size-append g _ ∙ ap (λ (n : ℕ). size g + n) (size-append (maker_events r.makers₆) delimiter_events))) in
    omega (arith, frames-size r.basic r.own_channels r.channels r.seconds r.frames k)
