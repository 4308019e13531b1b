-- A recording, the recordings and the file: the canonical file of a reading is accepted and has that reading.
-- Assumes nothing.
use mathlib.Core.Path.{◌≡◌, refl, sym, ap, ◌∙◌}
use mathlib.Core.Bool.{Bool, true, false, ◌||◌}
use mathlib.Core.List.{List, [], ◌∷◌, ◌++◌, append_assoc}
use mathlib.Core.Option.{Option, none, some}
use Prim.Native.Nat.{ℕ, ◌+◌, ◌*◌, ◌-◌, ◌^◌, ◌≤◌, ◌<◌, max}
use native.Mathlib.Nat.{zero-add}
use native.Mathlib.Omega.{arith}
use lib.Dec.{leb, eqb}
use borrow.Author.Tests.{leb-true, le-leb, lt-ltb, eq-eqb}
use lib.ListN.{length}
use Rattle.walk.specs.Plays.{Plays, gives, checks, lists}
use Rattle.walk.specs.Walk.{Event, row, size, Walk, give, refuse, ◌>>=◌, ◌>>◌}
use Rattle.walk.proofs.Apart.{false-true}
use Rattle.walk.proofs.Laws.{plays-bind, plays-split, plays-give, traced, size-append, by-split, by-check, by_read, plays-gave}
use Rattle.rules.specs.Canonical.{size_for, multiplier_for, zeroes, numerals, row_of, plain_head, record_of, basic_fields, channels_head, channels_written, items_head, items_written, frame_size, frames_bytes, frames_head, frames_written, maker_events, optional, delimiter_head, delimiter_events, channels_group_of, montage_group_of, content}
use Rattle.rules.specs.Rules.{event_table, allowed, most_of, between, padding, padded, maker_code, zeros, Label, Head, head, length_of, span, admit, pad_ok, basic_body, basic, Group, channels_group, montage_group, Channel, channels, Item, items, patient_code, event_code, frames, Maker, Held as Inherited, Next, next, Part, part, Recording, held_channels, held_patient, content_limit, delimiter, Layout, Placed, recording, montage, frame, signals}
use Rattle.rules.specs.declared.Form.TheVariants as Form
use Rattle.rules.proofs.Cases.{by_form, by_most, most-low}
use Rattle.rules.proofs.Steps.{body-steps}
use Rattle.rules.proofs.Renew.{table-part, table-plays, span-most, HeadOk, head-plays, Admitted, admit-plays, admit-ok, fixed-plays, basic-ok, basic-size, All, record-size, ChannelsOk, few-channels, channels-size, channels-ok, channels-plays, ItemsOk, items-ok, items-size, items-plays, padding-plays, FramesOk, frames-ok, frames-size, frames-plays, if-true, if-false, if-case, MakerOk, next-ok, next-plays, makers-count}
use Rattle.rules.proofs.Sized.{sized, longest, served, pad-under}

abbrev pub pick : Bool → Head → Head → Head
pick true h k = h
pick false h k = k

-- a part is there, and well; or it is taken over, and no maker's records stand behind it
abbrev pub PartOk : {A : Type 0} → Label → (A → Type 0) → Option A → Bool → A → List Maker → Type 0
PartOk label P held true a ms = P a × All (MakerOk label) ms
PartOk label P held false a ms = (held ≡ some a) × (ms ≡ [])

module _ (label : Label) {A : Type 0} (P : A → Type 0) (events : A → List Event) (code : ℕ) (body : ℕ → Head → Walk A) where
  pub record PartIs (held : Option A) (n : Next) (x : Part A) : Type 0 where
    pub good : PartOk label P held x.own x.value x.next.makers
    pub left : size (optional x.own (events x.value ++ maker_events x.next.makers)) + x.next.room ≡ n.room
    pub enough : 16 ≤ x.next.room
    pub owned : x.own ≡ eqb n.head.code code

  part_held : (held : Option A) (n : Next) → eqb n.head.code code ≡ false → 16 ≤ n.room → {t : List Event} {x : Part A} →
      Plays t (elim held [ none ↦ refuse 9 12 | some a ↦ give (record { own = false; value = a; next = record { makers = []; head = n.head; room = n.room } }) ]) x → PartIs held n x
  unfolding optional size
  part_held none n e r p = absurd (traced p).trace
  part_held (some a) n e r p = rw (traced p).value (record { good = (refl, refl); left = zero-add n.room; enough = r; owned = sym e })

  part-sum : (e m r s room : ℕ) → e ≡ s → m + r ≡ room - s → s ≤ room → e + m + r ≡ room
  part-sum e m r s room h k l = omega arith

  pub part-ok : ((room : ℕ) (h : Head) (u : List Event) (a : A) → Plays u (body room h) a → P a × (size (events a) ≡ span h) × (span h ≤ room)) →
      (fuel : ℕ) (held : Option A) (n : Next) → 16 ≤ n.room → {t : List Event} {x : Part A} → Plays t (part label fuel code body held n) x → PartIs held n x
  unfolding part optional
  part-ok f fuel held n r p =
      if-case (eqb n.head.code code) _ _ p
      (λ e q.
      let a = plays-split (body n.room n.head) _ q in
      let g = f n.room n.head a.first a.value a.before in
      let m = plays-split (next label fuel (n.room - span n.head)) _ a.behind in
      let j = next-ok fuel (n.room - span n.head) m.before in
      rw (traced m.behind).value
      (record {
        good = (g.0, j.each);
        left = ap (λ (y : ℕ). y + m.value.room) (size-append (events a.value) (maker_events m.value.makers)) ∙
            part-sum (size (events a.value)) (size (maker_events m.value.makers)) m.value.room (span n.head) n.room g.1 j.left g.2;
        enough = j.enough;
        owned = sym e;
      }))
      (λ e q. part_held held n e r q)

  pub part-plays : (own : Bool) (held : Option A) (a : A) (ms m₀ : List Maker) (h k : Head) (inside : List Event) (fuel left : ℕ) → PartOk label P held own a ms →
      events a ≡ record_of h inside → eqb h.code code ≡ true → eqb k.code code ≡ false → HeadOk k → maker_code k.code ≡ false →
      (P a → (room : ℕ) → span h ≤ room → Plays (row_of h ∷ inside) (body room h) a) → (P a → size (events a) ≡ span h) →
      16 ≤ left → size (optional own (events a ++ maker_events ms)) + left ≤ fuel →
      Plays (optional own ((row_of h ∷ inside) ++ (maker_events ms ++ numerals k)))
      (part label fuel code body held (record { makers = m₀; head = pick own h k; room = size (optional own (events a ++ maker_events ms)) + left }))
      (record { own = own; value = a; next = record { makers = ms; head = k; room = left } })
  unfolding part optional size ◌>>=◌
  part-plays true held a ms m₀ h k inside fuel left g e c d o m f s l r =
      let q : size (events a ++ maker_events ms) ≡ span h + size (maker_events ms) = size-append (events a) (maker_events ms) ∙ ap (λ (y : ℕ). y + size (maker_events ms)) (s g.0) in
      if-true (eqb h.code code) _ _ c
      (plays-bind _ (f g.0 _ (omega arith))
      (plays-give _ (next-plays label ms g.1 k o m fuel _ left (omega (arith, makers-count label ms g.1)) (omega arith) l)))
  part-plays false held a ms m₀ h k inside fuel left g e c d o m f s l r =
      rw (g.0, g.1, zero-add left) (if-false (eqb k.code code) _ _ d gives)

-- A recording

channels_record : Group → List Channel → List Event
channels_record g cs = record_of (channels_head g cs) (channels_written g cs)

items_record : ℕ → List Item → List Event
items_record code is = record_of (items_head code is) (items_written is)

-- a montage of these electrodes: in form 00 there is none
unfoldable pub MontageOk : Label → List Channel → List Channel → Type 0
MontageOk label cs ms = elim label.form [
  | Form.Channels ↦ ⊥
  | Form.Electrodes ↦ ChannelsOk (montage_group (length cs)) ms
]

pub montage-channels : (label : Label) (cs ms : List Channel) → MontageOk label cs ms → ChannelsOk (montage_group (length cs)) ms
unfolding MontageOk
montage-channels label cs ms = by_form (λ l. MontageOk l cs ms → ChannelsOk (montage_group (length cs)) ms) label (λ k. absurd k) (λ k. k)

-- the padding of a canonical 140
abbrev pub frames_padding : Recording → ℕ
frames_padding r = span (frames_head r.seconds r.channels r.frames) - frames_bytes r.seconds r.channels r.frames

pub record RecordingOk (label : Label) (held : Option Inherited) (r : Recording) : Type 0 where
  pub basic : Plays (basic_fields r.basic) basic_body r.basic
  pub makers₁ : All (MakerOk label) r.makers₁
  pub channels : PartOk label (ChannelsOk (channels_group_of label r)) (held_channels held) r.own_channels r.channels r.makers₂
  pub patient : PartOk label (ItemsOk patient_code) (held_patient held) r.own_patient r.patient r.makers₃
  pub events : PartOk label (ItemsOk event_code) (some []) r.own_events r.events r.makers₄
  -- the version does not ask for an event table, or there is one
  pub needed : (allowed label).eventless || r.own_events ≡ true
  pub montage : PartOk label (MontageOk label r.channels) (some []) r.own_montage r.montage r.makers₅
  pub frames : FramesOk label r.basic r.own_channels r.channels r.seconds r.frames
  pub makers₆ : All (MakerOk label) r.makers₆
  pub limited : 16 + size (content label r) ≤ content_limit + frames_padding r
  pub long : 16 + size (content label r) ≤ longest (most_of label)

-- a recording that was read in this room
pub record FitsAnew (label : Label) (room : ℕ) (x : Placed) : Type 0 where
  -- it was in the room
  pub inside : x.layout.bytes ≤ room
  -- its canonical content is no longer than it was itself, but for the padding of the canonical 140
  pub less : 16 + size (content label x.recording) ≤ x.layout.bytes + frames_padding x.recording

-- the lengths of the parts
part_c : Label → Recording → ℕ
part_c label r = size (optional r.own_channels (channels_record (channels_group_of label r) r.channels ++ maker_events r.makers₂))

part_p : Recording → ℕ
part_p r = size (optional r.own_patient (items_record 130 r.patient ++ maker_events r.makers₃))

part_e : Recording → ℕ
part_e r = size (optional r.own_events (items_record 200 r.events ++ maker_events r.makers₄))

part_m : Recording → ℕ
part_m r = size (optional r.own_montage (channels_record (montage_group_of r) r.montage ++ maker_events r.makers₅))

span_f : Recording → ℕ
span_f r = span (frames_head r.seconds r.channels r.frames)

used_f : Recording → ℕ
used_f r = frames_bytes r.seconds r.channels r.frames

content-size : (label : Label) (r : Recording) → Plays (basic_fields r.basic) basic_body r.basic → FramesOk label r.basic r.own_channels r.channels r.seconds r.frames →
    size (content label r) ≡ 128 + (size (maker_events r.makers₁) + (part_c label r + (part_p r + (part_e r + (part_m r + (span_f r + (size (maker_events r.makers₆) + 16)))))))
unfolding content part_c part_p part_e part_m span_f channels_record items_record delimiter_events size
content-size label r b f =
    rw (
      size-append (record_of (plain_head 128 100 0) (basic_fields r.basic)),
      record-size,
      basic-size b,
      size-append (maker_events r.makers₁),
      size-append (optional r.own_channels (record_of (channels_head (channels_group_of label r) r.channels) (channels_written (channels_group_of label r) r.channels) ++ maker_events r.makers₂)),
      size-append (optional r.own_patient (record_of (items_head 130 r.patient) (items_written r.patient) ++ maker_events r.makers₃)),
      size-append (optional r.own_events (record_of (items_head 200 r.events) (items_written r.events) ++ maker_events r.makers₄)),
      size-append (optional r.own_montage (record_of (channels_head (montage_group_of r) r.montage) (channels_written (montage_group_of r) r.montage) ++ maker_events r.makers₅)),
      size-append (record_of (frames_head r.seconds r.channels r.frames) (frames_written r.seconds r.channels r.frames)),
      frames-size r.basic r.own_channels r.channels r.seconds r.frames f,
      size-append (maker_events r.makers₆),
    )

-- the 140 is a part of the content, beside 144 bytes at least
pub frames-inside : (label : Label) (held : Option Inherited) (r : Recording) → RecordingOk label held r → 144 + span (frames_head r.seconds r.channels r.frames) ≤ size (content label r)
unfolding span_f
frames-inside label held r k = omega (arith, content-size label r k.basic k.frames)

-- what was read of a recording of B bytes, but for the padding behind the delimiter and that of the 140, is what is written of it, but for the padding of the canonical 140
content-sum : (B m₁ n C c P p E e M m sp fb pd m₆ d sp' all : ℕ) → m₁ + n ≡ B - 144 → C + c ≡ n → P + p ≡ c → E + e ≡ p → M + m ≡ e → fb + pd ≡ sp → sp ≤ m → m₆ + d ≡ m - sp → 16 ≤ d →
    all ≡ 128 + (m₁ + (C + (P + (E + (M + (sp' + (m₆ + 16))))))) → fb ≤ sp' → 16 + all ≡ B - (d - 16) - pd + (sp' - fb)
content-sum B m₁ n C c P p E e M m sp fb pd m₆ d sp' all h₁ h₂ h₃ h₄ h₅ h₆ h₇ h₈ h₉ h₁₀ h₁₁ =
    let k₁ : m ≡ sp + (m₆ + d) = omega (arith, h₇, h₈) in
    let k₂ : B ≡ 144 + (m₁ + (C + (P + (E + (M + (sp + (m₆ + d))))))) = omega (arith, h₁, h₂, h₃, h₄, h₅, h₉, k₁) in
    let k₃ : B - (d - 16) - pd ≡ 160 + (m₁ + (C + (P + (E + (M + (fb + m₆)))))) = omega (arith, k₂, h₆, h₉) in
    final m₁ C P E M fb m₆ sp' (B - (d - 16) - pd) all k₃ h₁₀ h₁₁
  where
    final : (m₁ C P E M fb m₆ sp' L all : ℕ) → L ≡ 160 + (m₁ + (C + (P + (E + (M + (fb + m₆)))))) → all ≡ 128 + (m₁ + (C + (P + (E + (M + (sp' + (m₆ + 16))))))) → fb ≤ sp' → 16 + all ≡ L + (sp' - fb)
    final m₁ C P E M fb m₆ sp' L all k h g = omega arith

less-twice : (a b c : ℕ) → a - b - c ≤ a
less-twice a b c = omega arith

under : (a l b p x : ℕ) → a ≡ x + p → x ≤ l → x ≤ b → (a ≤ l + p) × (a ≤ b + p)
under a l b p x e h k = (omega arith, omega arith)

-- as long as multipliers of the label serve: by the limit of the content, or, where there is no multiplier, since it was as long before
long-anew : (label : Label) (n used b : ℕ) → n ≤ content_limit + (length_of (size_for used) (multiplier_for used) - used) → n ≤ b + (length_of (size_for used) (multiplier_for used) - used) → used ≤ longest (most_of label) → b ≤ longest (most_of label) → n ≤ longest (most_of label)
long-anew label n used b h k = by_most (λ m. used ≤ longest m → b ≤ longest m → n ≤ longest m)
    label
    (λ u l. omega (arith, h, k, pad-under used 1 (omega arith) (omega arith)))
    (λ u l. omega (arith, h, k, pad-under used 128 (omega arith) (omega arith)))

channels-good : (g : Group) (room : ℕ) (h : Head) (u : List Event) (cs : List Channel) → Plays u (channels g room h) cs → ChannelsOk g cs × (size (channels_record g cs) ≡ span h) × (span h ≤ room)
unfolding channels_record
channels-good g room h u cs p = let k = channels-ok g room h p in (k.0, channels-size g cs k.0 ∙ k.1, k.2)

montage-good : (label : Label) (cs : List Channel) (room : ℕ) (h : Head) (u : List Event) (ms : List Channel) → Plays u (montage label cs room h) ms →
    MontageOk label cs ms × (size (channels_record (montage_group (length cs)) ms) ≡ span h) × (span h ≤ room)
unfolding montage MontageOk
montage-good label cs room h u ms =
    by_form (λ l. Plays u (montage l cs room h) ms → MontageOk l cs ms × (size (channels_record (montage_group (length cs)) ms) ≡ span h) × (span h ≤ room)) label
    (λ p. absurd (traced p).trace) (channels-good (montage_group (length cs)) room h u ms)

items-good : (ok : ℕ → Bool) (code room : ℕ) (h : Head) (u : List Event) (is : List Item) → Plays u (items ok room h) is → ItemsOk ok is × (size (items_record code is) ≡ span h) × (span h ≤ room)
unfolding items_record
items-good ok code room h u is p = let g = items-ok ok room h p in (g.0, items-size code is ∙ g.1, g.2)

recorded : (label : Label) (held : Option Inherited) (room i : ℕ) {t : List Event} {x : Placed} → Plays t (recording label held room i) x → RecordingOk label held x.recording × FitsAnew label room x
unfolding recording signals part_c part_p part_e part_m span_f ◌>>=◌ ◌>>◌ between padding padded maker_code
recorded label held room i p =
    by-split (head room) _ p λ h _ _ _ p. by-check p λ _ p.
    by-split (admit room (most_of label) (leb 16) (eqb i) h) _ p λ _ _ _ a₀ p.
    by-split (basic (span h - 16)) _ (rw body-steps at p) λ b _ _ b₀ p.
    let g : Group = channels_group label b.channels in
    by-split (next label (span h) (span h - 144)) _ p λ n _ _ n₀ p.
    by-split (part label (span h) g.code (channels g) (held_channels held) n) _ p λ c _ _ c₀ p.
    by-split (part label (span h) 130 (items patient_code) (held_patient held) c.next) _ p λ q _ _ q₀ p.
    by-split (event_table label (span h) q.next) _ p λ e _ _ e₀ p.
    by-split (part label (span h) 350 (montage label c.value) (some []) e.next) _ p λ m _ _ m₀ p. by-check p λ _ p.
    by-split (frames label b c.own c.value (span h - m.next.room - 20) m.next.room m.next.head) _ p λ f _ _ f₀ p.
    by-split (next label (span h) (m.next.room - span m.next.head)) _ p λ d _ _ d₀ p.
    by-split (delimiter d.head) _ p λ _ _ _ _ p. by-check p λ l p. by-check p λ _ p. by_read p λ bs _ _ _ p.
    by-split (zeros bs) _ p λ _ _ _ _ p.
    let a₁ = admit-ok room (most_of label) (leb 16) (eqb i) h a₀ in
    let b₁ = basic-ok (span h - 16) b₀ in
    let n₁ = next-ok (span h) (span h - 144) n₀ in
    let c₁ = part-ok label (ChannelsOk g) (channels_record g) g.code (channels g) (channels-good g) (span h) (held_channels held) n n₁.enough c₀ in
    let q₁ = part-ok label (ItemsOk patient_code) (items_record 130) 130 (items patient_code) (items-good patient_code 130) (span h) (held_patient held) c.next c₁.enough q₀ in
    let e₂ = table-part label (span h) q.next e₀ in
    let e₁ = part-ok label (ItemsOk event_code) (items_record 200) 200 (items event_code) (items-good event_code 200) (span h) (some []) q.next q₁.enough e₂.1 in
    let m₁ = part-ok label (MontageOk label c.value) (channels_record (montage_group (length c.value))) 350 (montage label c.value) (montage-good label c.value) (span h) (some []) e.next e₁.enough m₀ in
    let f₁ = frames-ok b c.own c.value (span h - m.next.room - 20) m.next.room m.next.head f₀ in
    let d₁ = next-ok (span h) (m.next.room - span m.next.head) d₀ in
    let w = content-sum (span h) _ _ _ _ _ _ _ _ _ _ _ _ _ _ _ _ _ n₁.left c₁.left q₁.left e₁.left m₁.left f₁.1 f₁.2 d₁.left d₁.enough (content-size label _ b₁ f₁.0) (sized _).serves in
    let z = under _ content_limit (span h) _ _ w (leb-true _ content_limit l) (less-twice (span h) _ _) in
    rw (plays-gave p) (
      record { basic = b₁; makers₁ = n₁.each; channels = c₁.good; patient = q₁.good; events = e₁.good; needed = rw e₁.owned e₂.0; montage = m₁.good; frames = f₁.0; makers₆ = d₁.each; limited = z.0; long = long-anew label _ _ (span h) z.0 z.1 f₁.0.total (span-most h.size h.multiplier (most_of label) (omega (arith, a₁.small)) a₁.low) },
      record { inside = a₁.room; less = z.1 },
    )

pub recording-ok : (label : Label) (held : Option Inherited) (room i : ℕ) {t : List Event} {x : Placed} → Plays t (recording label held room i) x → RecordingOk label held x.recording
recording-ok label held room i p = (recorded label held room i p).0

pub recording-fits : (label : Label) (held : Option Inherited) (room i : ℕ) {t : List Event} {x : Placed} → Plays t (recording label held room i) x → FitsAnew label room x
recording-fits label held room i p = (recorded label held room i p).1

-- the events of a recording in the order in which the walk has them: each head is read with what stands before it

shift : (own : Bool) (h k : Head) (inside mk t : List Event) →
    optional own (record_of h inside ++ mk) ++ (numerals k ++ t) ≡ numerals (pick own h k) ++ (optional own ((row_of h ∷ inside) ++ (mk ++ numerals k)) ++ t)
unfolding optional record_of
shift true h k inside mk t = simp append_assoc
shift false h k inside mk t = refl

assoc : (b m c p e o f g d z : List Event) → (b ++ (m ++ (c ++ (p ++ (e ++ (o ++ (f ++ (g ++ d)))))))) ++ z ≡ b ++ (m ++ (c ++ (p ++ (e ++ (o ++ (f ++ (g ++ (d ++ z))))))))
assoc b m c p e o f g d z = simp append_assoc

module _ (r : Recording) where
  h140 : Head
  h140 = frames_head r.seconds r.channels r.frames

  h350 : Head
  h350 = pick r.own_montage (channels_head (montage_group_of r) r.montage) h140

  h200 : Head
  h200 = pick r.own_events (items_head 200 r.events) h350

  h130 : Head
  h130 = pick r.own_patient (items_head 130 r.patient) h200

  events_p : List Event
  events_p = optional r.own_patient ((row_of (items_head 130 r.patient) ∷ items_written r.patient) ++ (maker_events r.makers₃ ++ numerals h200))

  events_e : List Event
  events_e = optional r.own_events ((row_of (items_head 200 r.events) ∷ items_written r.events) ++ (maker_events r.makers₄ ++ numerals h350))

  events_m : List Event
  events_m = optional r.own_montage ((row_of (channels_head (montage_group_of r) r.montage) ∷ channels_written (montage_group_of r) r.montage) ++ (maker_events r.makers₅ ++ numerals h140))

  events_f : List Event
  events_f = row_of h140 ∷ frames_written r.seconds r.channels r.frames

module _ (label : Label) (r : Recording) where
  h120 : Head
  h120 = pick r.own_channels (channels_head (channels_group_of label r) r.channels) (h130 r)

  events_c : List Event
  events_c = optional r.own_channels ((row_of (channels_head (channels_group_of label r) r.channels) ∷ channels_written (channels_group_of label r) r.channels) ++ (maker_events r.makers₂ ++ numerals (h130 r)))

  arranged : (z : List Event) → content label r ++ z ≡
      record_of (plain_head 128 100 0) (basic_fields r.basic) ++ ((maker_events r.makers₁ ++ numerals h120) ++ (events_c ++ (events_p r ++ (events_e r ++ (events_m r ++ (events_f r ++
      ((maker_events r.makers₆ ++ numerals delimiter_head) ++ (row 16 16 0 0 ∷ z))))))))
  unfolding content h140 h350 h200 h130 h120 events_c events_p events_e events_m events_f delimiter_events record_of
  arranged z =
      let b : List Event = record_of (plain_head 128 100 0) (basic_fields r.basic) in
      let m : List Event = maker_events r.makers₁ in
      let c : List Event = optional r.own_channels (record_of (channels_head (channels_group_of label r) r.channels) (channels_written (channels_group_of label r) r.channels) ++ maker_events r.makers₂) in
      let p : List Event = optional r.own_patient (record_of (items_head 130 r.patient) (items_written r.patient) ++ maker_events r.makers₃) in
      let e : List Event = optional r.own_events (record_of (items_head 200 r.events) (items_written r.events) ++ maker_events r.makers₄) in
      let o : List Event = optional r.own_montage (record_of (channels_head (montage_group_of r) r.montage) (channels_written (montage_group_of r) r.montage) ++ maker_events r.makers₅) in
      let f : List Event = record_of (h140 r) (frames_written r.seconds r.channels r.frames) in
      let y : List Event = (maker_events r.makers₆ ++ numerals delimiter_head) ++ (row 16 16 0 0 ∷ z) in
      assoc b m c p e o f (maker_events r.makers₆) delimiter_events z ∙
      ap (λ (x : List Event). b ++ (m ++ (c ++ (p ++ (e ++ (o ++ (f ++ x))))))) (sym (append_assoc (maker_events r.makers₆) (numerals delimiter_head) (row 16 16 0 0 ∷ z))) ∙
      ap (λ (x : List Event). b ++ (m ++ (c ++ (p ++ (e ++ x))))) (shift r.own_montage (channels_head (montage_group_of r) r.montage) (h140 r) (channels_written (montage_group_of r) r.montage) (maker_events r.makers₅) (events_f r ++ y)) ∙
      ap (λ (x : List Event). b ++ (m ++ (c ++ (p ++ x)))) (shift r.own_events (items_head 200 r.events) (h350 r) (items_written r.events) (maker_events r.makers₄) (events_m r ++ (events_f r ++ y))) ∙
      ap (λ (x : List Event). b ++ (m ++ (c ++ x))) (shift r.own_patient (items_head 130 r.patient) (h200 r) (items_written r.patient) (maker_events r.makers₃) (events_e r ++ (events_m r ++ (events_f r ++ y)))) ∙
      ap (λ (x : List Event). b ++ (m ++ x)) (shift r.own_channels (channels_head (channels_group_of label r) r.channels) (h130 r) (channels_written (channels_group_of label r) r.channels) (maker_events r.makers₂) (events_p r ++ (events_e r ++ (events_m r ++ (events_f r ++ y))))) ∙
      ap (λ (x : List Event). b ++ x) (sym (append_assoc m (numerals h120) (events_c ++ (events_p r ++ (events_e r ++ (events_m r ++ (events_f r ++ y)))))))

pick_is : (Q : Head → Type 0) (own : Bool) (h k : Head) → (own ≡ true → Q h) → Q k → Q (pick own h k)
pick_is Q true h k f q = f refl
pick_is Q false h k f q = q

part-own : {A : Type 0} (label : Label) (P : A → Type 0) (held : Option A) (own : Bool) (a : A) (ms : List Maker) → own ≡ true → PartOk label P held own a ms → P a
part-own label P held true a ms e g = g.0
part-own label P held false a ms e g = false-true e

record Plain (h : Head) : Type 0 where
  ok : HeadOk h
  code : maker_code h.code ≡ false

delimiter-plays : Plays (row 16 16 0 0 ∷ []) (delimiter delimiter_head) tt
unfolding delimiter ◌>>=◌ ◌>>◌
delimiter-plays = checks refl (checks refl (checks refl (checks refl (lists gives))))

no-padding : (n l x : ℕ) → n * (l - l) + x ≡ x
no-padding n l x =
    let e : l - l ≡ 0 = omega arith in
    rw e (omega arith)

content-fits : (B all pad n l x : ℕ) → B ≡ 16 + all + pad → 16 + all ≤ content_limit + x → B - (16 + pad - 16) - (n * (l - l) + x) ≤ content_limit
content-fits B all pad n l x h k = rw no-padding (omega arith)

-- a group with a code that is neither a maker's nor another part's
record Apart (g : Group) : Type 0 where
  code : g.code < 256 ^ 4
  sub : g.sub.code < 256 ^ 4
  maker : maker_code g.code ≡ false
  patient : eqb 130 g.code ≡ false
  events : eqb 200 g.code ≡ false
  montage : eqb 350 g.code ≡ false
  frames : eqb 140 g.code ≡ false

channels-apart : (label : Label) (n : ℕ) → Apart (channels_group label n)
unfolding channels_group between maker_code
channels-apart label n =
    by_form (λ l. Apart (channels_group l n)) label
    (record { code = omega arith; sub = omega arith; maker = refl; patient = refl; events = refl; montage = refl; frames = refl })
    (record { code = omega arith; sub = omega arith; maker = refl; patient = refl; events = refl; montage = refl; frames = refl })

montage-plays : (label : Label) (cs ms : List Channel) → MontageOk label cs ms → (room : ℕ) → 32 + 256 * length ms ≤ room →
    Plays (row_of (channels_head (montage_group (length cs)) ms) ∷ channels_written (montage_group (length cs)) ms) (montage label cs room (channels_head (montage_group (length cs)) ms)) ms
unfolding montage MontageOk
montage-plays label cs ms =
    let g : Group = montage_group (length cs) in
    by_form (λ l. MontageOk l cs ms → (room : ℕ) → 32 + 256 * length ms ≤ room → Plays (row_of (channels_head g ms) ∷ channels_written g ms) (montage l cs room (channels_head g ms)) ms) label
    (λ k. absurd k) (channels-plays g (omega arith) ms)

-- a recording that is played, wherever it has its parts
pub record Anew (label : Label) (held : Option Inherited) (room i : ℕ) (t : List Event) (r : Recording) (n : ℕ) : Type 0 where
  pub layout : Layout
  pub bytes : layout.bytes ≡ n
  pub plays : Plays t (recording label held room i) (record { recording = r; layout = layout })

module _ (label : Label) (held : Option Inherited) (r : Recording) (k : RecordingOk label held r) (h : Head) (pad : ℕ) (total : span h ≡ 16 + size (content label r) + pad) (short : pad < max 1 h.multiplier) where
  room_d : ℕ
  room_d = 16 + pad

  room_f : ℕ
  room_f = span_f r + (size (maker_events r.makers₆) + room_d)

  room_m : ℕ
  room_m = part_m r + room_f

  room_e : ℕ
  room_e = part_e r + room_m

  room_p : ℕ
  room_p = part_p r + room_e

  room_c : ℕ
  room_c = part_c label r + room_p

  rooms : span h ≡ 144 + (size (maker_events r.makers₁) + room_c)
  unfolding room_c room_p room_e room_m room_f room_d
  rooms = omega (arith, total, content-size label r k.basic k.frames)

  plain140 : Plain (h140 r)
  unfolding h140 between padding padded maker_code
  plain140 =
      let z = sized (frames_bytes r.seconds r.channels r.frames) in
      let t = k.frames.total in
      record { ok = record { size = omega (arith, z.small); code = omega arith; serial = omega arith; multiplier = omega (arith, served (frames_bytes r.seconds r.channels r.frames) (most_of label) t, most-low label) }; code = refl }

  plain-items : (ok : ℕ → Bool) (code : ℕ) (is : List Item) → ItemsOk ok is → code < 1000 → maker_code code ≡ false → Plain (items_head code is)
  plain-items ok code is g c m = record { ok = record { size = omega (arith, g.small); code = omega arith; serial = omega arith; multiplier = omega arith }; code = m }

  plain-channels : (g : Group) (cs : List Channel) → ChannelsOk g cs → g.code < 256 ^ 4 → maker_code g.code ≡ false → Plain (channels_head g cs)
  plain-channels g cs o c m =
      let n = few-channels g cs o in
      record { ok = record { size = omega arith; code = c; serial = omega arith; multiplier = omega arith }; code = m }

  montage-own : r.own_montage ≡ true → ChannelsOk (montage_group_of r) r.montage
  montage-own e = montage-channels label r.channels r.montage (part-own label (MontageOk label r.channels) (some []) r.own_montage r.montage r.makers₅ e k.montage)

  plain350 : Plain (h350 r)
  unfolding h350 between padding padded maker_code
  plain350 = pick_is Plain r.own_montage (channels_head (montage_group_of r) r.montage) (h140 r) (λ e. plain-channels (montage_group_of r) r.montage (montage-own e) (omega arith) refl) plain140

  plain200 : Plain (h200 r)
  unfolding h200 between padding padded maker_code
  plain200 = pick_is Plain r.own_events (items_head 200 r.events) (h350 r) (λ e. plain-items event_code 200 r.events (part-own label (ItemsOk event_code) (some []) r.own_events r.events r.makers₄ e k.events) (omega arith) refl) plain350

  plain130 : Plain (h130 r)
  unfolding h130 between padding padded maker_code
  plain130 = pick_is Plain r.own_patient (items_head 130 r.patient) (h200 r) (λ e. plain-items patient_code 130 r.patient (part-own label (ItemsOk patient_code) (held_patient held) r.own_patient r.patient r.makers₃ e k.patient) (omega arith) refl) plain200

  own : Apart (channels_group_of label r)
  own = channels-apart label r.basic.channels

  plain120 : Plain (h120 label r)
  unfolding h120
  plain120 = pick_is Plain r.own_channels (channels_head (channels_group_of label r) r.channels) (h130 r)
      (λ e. plain-channels (channels_group_of label r) r.channels (part-own label (ChannelsOk (channels_group_of label r)) (held_channels held) r.own_channels r.channels r.makers₂ e k.channels) own.code own.maker) plain130

  other140 : (c : ℕ) → eqb 140 c ≡ false → eqb (h140 r).code c ≡ false
  unfolding h140
  other140 c e = e

  other350 : (c : ℕ) → eqb 140 c ≡ false → eqb 350 c ≡ false → eqb (h350 r).code c ≡ false
  unfolding h350
  other350 c e m = pick_is (λ x. eqb x.code c ≡ false) r.own_montage (channels_head (montage_group_of r) r.montage) (h140 r) (λ _. m) (other140 c e)

  other200 : (c : ℕ) → eqb 140 c ≡ false → eqb 350 c ≡ false → eqb 200 c ≡ false → eqb (h200 r).code c ≡ false
  unfolding h200
  other200 c e m f = pick_is (λ x. eqb x.code c ≡ false) r.own_events (items_head 200 r.events) (h350 r) (λ _. f) (other350 c e m)

  other130 : (c : ℕ) → eqb 140 c ≡ false → eqb 350 c ≡ false → eqb 200 c ≡ false → eqb 130 c ≡ false → eqb (h130 r).code c ≡ false
  unfolding h130
  other130 c e m f g = pick_is (λ x. eqb x.code c ≡ false) r.own_patient (items_head 130 r.patient) (h200 r) (λ _. g) (other200 c e m f)

  large_f : 16 ≤ room_f
  unfolding room_f room_d
  large_f = omega arith

  large_m : 16 ≤ room_m
  unfolding room_m
  large_m = omega (arith, large_f)

  large_e : 16 ≤ room_e
  unfolding room_e
  large_e = omega (arith, large_m)

  large_p : 16 ≤ room_p
  unfolding room_p
  large_p = omega (arith, large_e)

  large_c : 16 ≤ room_c
  unfolding room_c
  large_c = omega (arith, large_p)

  less_p : part_p r + room_e ≤ span h
  unfolding room_c room_p
  less_p = omega (arith, rooms)

  less_e : part_e r + room_m ≤ span h
  unfolding room_e
  less_e = omega (arith, less_p)

  less_m : part_m r + room_f ≤ span h
  unfolding room_m
  less_m = omega (arith, less_e)

  -- the parts
  plays-c : Plays (events_c label r) (part label (span h) (channels_group_of label r).code (channels (channels_group_of label r)) (held_channels held) (record { makers = r.makers₁; head = h120 label r; room = room_c }))
      (record { own = r.own_channels; value = r.channels; next = record { makers = r.makers₂; head = h130 r; room = room_p } })
  unfolding events_c h120 room_c part_c channels_record length_of
  plays-c =
      let g : Group = channels_group_of label r in
      part-plays label (ChannelsOk g) (channels_record g) g.code (channels g) r.own_channels (held_channels held) r.channels r.makers₂ r.makers₁ (channels_head g r.channels) (h130 r)
      (channels_written g r.channels) (span h) room_p k.channels refl (eq-eqb g.code g.code refl) (other130 g.code own.frames own.montage own.events own.patient) plain130.ok plain130.code
      (channels-plays g own.sub r.channels) (channels-size g r.channels) large_p (omega (arith, rooms))

  plays-p : Plays (events_p r) (part label (span h) 130 (items patient_code) (held_patient held) (record { makers = r.makers₂; head = h130 r; room = room_p }))
      (record { own = r.own_patient; value = r.patient; next = record { makers = r.makers₃; head = h200 r; room = room_e } })
  unfolding events_p h130 room_p part_p items_record length_of
  plays-p = part-plays label (ItemsOk patient_code) (items_record 130) 130 (items patient_code) r.own_patient (held_patient held) r.patient r.makers₃ r.makers₂ (items_head 130 r.patient) (h200 r)
      (items_written r.patient) (span h) room_e k.patient refl refl (other200 130 refl refl refl) plain200.ok plain200.code
      (items-plays patient_code 130 r.patient) (λ _. items-size 130 r.patient) large_e less_p

  table-there : (allowed label).eventless || eqb (h200 r).code 200 ≡ true
  unfolding h200
  table-there = go r.own_events (allowed label).eventless k.needed
    where
      go : (own free : Bool) → free || own ≡ true → free || eqb (pick own (items_head 200 r.events) (h350 r)).code 200 ≡ true
      go true true e = refl
      go true false e = refl
      go false true e = refl
      go false false e = false-true e

  plays-e : Plays (events_e r) (event_table label (span h) (record { makers = r.makers₃; head = h200 r; room = room_e }))
      (record { own = r.own_events; value = r.events; next = record { makers = r.makers₄; head = h350 r; room = room_m } })
  unfolding events_e h200 room_e part_e items_record length_of
  plays-e = table-plays label (span h) _ table-there (part-plays label (ItemsOk event_code) (items_record 200) 200 (items event_code) r.own_events (some []) r.events r.makers₄ r.makers₃ (items_head 200 r.events) (h350 r)
      (items_written r.events) (span h) room_m k.events refl refl (other350 200 refl refl) plain350.ok plain350.code
      (items-plays event_code 200 r.events) (λ _. items-size 200 r.events) large_m less_e)

  plays-m : Plays (events_m r) (part label (span h) 350 (montage label r.channels) (some []) (record { makers = r.makers₄; head = h350 r; room = room_m }))
      (record { own = r.own_montage; value = r.montage; next = record { makers = r.makers₅; head = h140 r; room = room_f } })
  unfolding events_m h350 room_m part_m channels_record length_of
  plays-m =
      let g : Group = montage_group_of r in
      part-plays label (MontageOk label r.channels) (channels_record g) 350 (montage label r.channels) r.own_montage (some []) r.montage r.makers₅ r.makers₄ (channels_head g r.montage) (h140 r)
      (channels_written g r.montage) (span h) room_f k.montage refl refl (other140 350 refl) plain140.ok plain140.code
      (montage-plays label r.channels r.montage) (λ o. channels-size g r.montage (montage-channels label r.channels r.montage o)) large_f less_m

  pad_f : ℕ
  pad_f = length r.frames * (frame_size r.seconds r.channels - frame_size r.seconds r.channels) + (span (h140 r) - frames_bytes r.seconds r.channels r.frames)

  plays-f : (back : ℕ) → Plays (events_f r) (frames label r.basic r.own_channels r.channels back room_f (h140 r)) (record { seconds = r.seconds; frames = r.frames; size = frame_size r.seconds r.channels; padded = pad_f })
  unfolding events_f h140 room_f span_f pad_f
  plays-f back = frames-plays r.basic r.own_channels r.channels r.seconds r.frames k.frames back room_f (omega arith)

  plays-n : Plays (maker_events r.makers₁ ++ numerals (h120 label r)) (next label (span h) (span h - 144)) (record { makers = r.makers₁; head = h120 label r; room = room_c })
  plays-n = next-plays label r.makers₁ k.makers₁ (h120 label r) plain120.ok plain120.code (span h) (span h - 144) room_c
      (omega (arith, rooms, makers-count label r.makers₁ k.makers₁)) (omega (arith, rooms)) large_c

  plays-d : Plays (maker_events r.makers₆ ++ numerals delimiter_head) (next label (span h) (room_f - span (h140 r))) (record { makers = r.makers₆; head = delimiter_head; room = room_d })
  unfolding room_f span_f h140 room_d between padding padded maker_code
  plays-d = next-plays label r.makers₆ k.makers₆ delimiter_head (record { size = omega arith; code = omega arith; serial = omega arith; multiplier = omega arith }) refl (span h) (room_f - span (h140 r)) room_d
      (omega (arith, less_m, makers-count label r.makers₆ k.makers₆)) (omega arith) (omega arith)

  code140 : eqb (h140 r).code 140 ≡ true
  unfolding h140
  code140 = refl

  fits-limit : leb (span h - (room_d - 16) - pad_f) content_limit ≡ true
  unfolding room_d pad_f h140
  fits-limit = le-leb _ content_limit (content-fits (span h) (size (content label r)) pad (length r.frames) (frame_size r.seconds r.channels)
      (span (frames_head r.seconds r.channels r.frames) - frames_bytes r.seconds r.channels r.frames) total k.limited)

  fits-pad : pad_ok h (room_d - 16) ≡ true
  unfolding room_d between padding padded maker_code
  fits-pad = lt-ltb (16 + pad - 16) (max 1 h.multiplier) (rw drop16 short)
    where
      drop16 : 16 + pad - 16 ≡ pad
      drop16 = omega arith

  left-pad : pad ≡ room_d - 16
  unfolding room_d
  left-pad = omega arith

  layout_of : Layout
  layout_of = record { bytes = span h; at120 = span h - room_c; at130 = span h - room_p; at200 = span h - room_e; at350 = span h - room_m; at140 = span h - room_f; frame = frame_size r.seconds r.channels }

  played-at : (i room : ℕ) → HeadOk h → eqb h.code 10 ≡ true → Admitted room (most_of label) (leb 16) (eqb i) h →
      Plays (record_of h (content label r ++ (zeroes pad ∷ []))) (recording label held room i) (record { recording = r; layout = layout_of })
  unfolding recording signals record_of layout_of ◌>>=◌ ◌>>◌
  played-at i room o c a =
      rw (arranged label r (zeroes pad ∷ []))
      (plays-bind _ (head-plays h o room (omega (arith, rooms, a.room)))
      (checks c
      (plays-bind _ (admit-plays room (most_of label) (leb 16) (eqb i) h a)
      (rw body-steps (plays-bind _ (fixed-plays 128 100 0 basic_body (span h - 16) k.basic (omega arith) (omega arith) (omega arith) (omega arith) (omega (arith, rooms)))
      (plays-bind _ plays-n
      (plays-bind _ plays-c
      (plays-bind _ plays-p
      (plays-bind _ plays-e
      (plays-bind _ plays-m
      (checks code140
      (plays-bind _ (plays-f (span h - room_f - 20))
      (plays-bind _ plays-d
      (plays-bind _ delimiter-plays
      (checks fits-limit
      (checks fits-pad
      (padding-plays pad (room_d - 16) left-pad _)))))))))))))))))

  pub recording-from : (i room : ℕ) → HeadOk h → eqb h.code 10 ≡ true → Admitted room (most_of label) (leb 16) (eqb i) h →
      Anew label held room i (record_of h (content label r ++ (zeroes pad ∷ []))) r (span h)
  unfolding layout_of
  recording-from i room o c a = record { layout = layout_of; bytes = refl; plays = played-at i room o c a }
