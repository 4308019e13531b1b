-- In an accepted file each recording, its 100, and its own 120 or 320, 130, 200, 350 and 140 stand at places where their walks give what the reading holds.
-- With `Places` this reaches each channel, item, frame and sample.
-- Assumes nothing.
use mathlib.Core.Path.{◌≡◌, refl, sym, ap, ◌∙◌}
use mathlib.Core.Bool.{Bool, true, false}
use mathlib.Core.List.{List, [], ◌∷◌, ◌++◌}
use mathlib.Core.Option.{Option, none, some}
use Prim.Native.Nat.{ℕ, zero, suc, ◌+◌, ◌*◌, ◌-◌, ◌≤◌, ◌<◌}
use native.Mathlib.Nat.{zero-add}
use native.Mathlib.Omega.{arith}
use lib.Dec.{leb, eqb}
use borrow.Author.Tests.{leb-true}
use lib.ListN.{length, get_or, take, drop}
use Rattle.words.specs.Numbers.{Bytes}
use Rattle.walk.specs.Plays.{Plays}
use Rattle.walk.specs.Walk.{Event, numeral, piece, blank, row, Row, rows, size, render, run, Walk, passed, give, refuse, ◌>>=◌, ◌>>◌, number}
use Rattle.walk.proofs.Apart.{false-true}
use Rattle.walk.proofs.Laws.{by_parts, by-split, by-check, checked, taken, plays-gave, traced}
use Rattle.rules.specs.declared.Form.TheVariants as Form
use Rattle.rules.specs.Rules.{event_table, most_of, between, padding, padded, maker_code, zeros, delimiter, basic_body, Head, head, span, admit, basic, Label, Group, channels_group, montage_sub, montage_group, Channel, channel, channels, montage, Item, item, item_bytes, items, patient_code, event_code, Frame, frame, frames, number_list, width, samples_in, sample_bytes, FileHeader, Next, next, Part, part, Held, held_channels, held_patient, Placed, recording, recordings, File, file_header, file, order_of, judge, signals}
use Rattle.rules.specs.Places.{bytes_before}
use Rattle.rules.proofs.Steps.{body-steps}
use Rattle.rules.proofs.Canon.{recordings-ok}
use Rattle.rules.proofs.Places.{numbers-found, Found, found-run, found-whole, found_first, found-second, found_at, head-size, admit-size, join, gave-nothing, fixed-size, channels-bytes, items-bytes, channel-found, montage-is, frames-found, frame_found, samples-found, items-in, zeros-none, piece-size}
use Rattle.rules.proofs.Renew.{table-part, if-case, pick-case, admit-ok, basic-size, next-ok, channels-ok, items-ok, frames-ok}
use Rattle.rules.proofs.Turn.{accepted, is-render}

-- the rows of events that follow others
pub rows_append : (at : ℕ) (t u : List Event) → rows at (t ++ u) ≡ rows at t ++ rows (at + size t) u
unfolding rows size
rows_append at [] u = let e : at + 0 ≡ at = omega arith in rw e
rows_append at (numeral w v ∷ t) u = let e : at + (w + size t) ≡ at + w + size t = omega arith in rw e (rows_append (at + w) t u)
rows_append at (piece k bs ∷ t) u = let e : at + (length bs + size t) ≡ at + length bs + size t = omega arith in rw e (rows_append (at + length bs) t u)
rows_append at (blank bs ∷ t) u = let e : at + (length bs + size t) ≡ at + length bs + size t = omega arith in rw e (rows_append (at + length bs) t u)
rows_append at (row p l c s ∷ t) u = ap (λ (x : List Row). record { start = at - p; size = l; code = c; serial = s } ∷ x) (rows_append at t u)

-- the rest of a record, behind its head, p bytes into the events
pub record Rest {A : Type 0} (t : List Event) (w : ℕ → Head → Walk A) (a : A) (p : ℕ) : Type 0 where
  pub room : ℕ
  pub head : Head
  pub found : Found t (w room head) a p

module _ {A : Type 0} {w : ℕ → Head → Walk A} {a : A} where
  rest-later : (t : List Event) {u v : List Event} {p : ℕ} → t ++ u ≡ v → Rest u w a p → Rest v w a (size t + p)
  rest-later t e s = record { room = s.room; head = s.head; found = found-second t s.found e refl }

  rest-first : {t : List Event} (u : List Event) {v : List Event} {p : ℕ} → t ++ u ≡ v → Rest t w a p → Rest v w a p
  rest-first u e s = record { room = s.room; head = s.head; found = found_first u s.found e }

  rest_at : {t : List Event} {p q : ℕ} → p ≡ q → Rest t w a p → Rest t w a q
  rest_at e s = rw (← e) s

-- how far a walk over maker's records and a head goes

maker-sum : (room s x r : ℕ) → x + r ≡ room - s + 16 → s ≤ room → 16 ≤ s → 16 + (0 + (s - 16 + (x + 0))) + r ≡ room + 16
maker-sum room s x r h k l = omega arith

pub next-bytes : (label : Label) (fuel room : ℕ) {t : List Event} {n : Next} → Plays t (next label fuel room) n → size t + n.room ≡ room + 16
unfolding next size ◌>>=◌ ◌>>◌ between padding padded maker_code
next-bytes label zero room p = absurd (traced p).trace
next-bytes label (suc fuel) room {t} {n} p =
    by_parts (head room) _ p λ h u₁ v₁ e₁ h₀ p.
    pick-case (maker_code h.code) _ _ p
    (λ c p.
    by_parts (admit room (most_of label) (leb 16) (λ _. true) h) _ p λ _ u₂ v₂ e₂ a₀ p.
    let r = taken p in
    by_parts (next label fuel (room - span h)) _ r.then λ m u₃ v₃ e₃ n₀ p.
    let d = admit-ok room (most_of label) (leb 16) (λ _. true) h a₀ in
    let s₃ : size v₂ ≡ span h - 16 + (size u₃ + 0) = ap size r.split ∙ piece-size r.bytes (span h - 16) (size r.others) (size u₃ + 0) r.width (join u₃ v₃ e₃ refl (gave-nothing p)) in
    let s₁ : size t ≡ 16 + (0 + (span h - 16 + (size u₃ + 0))) = join u₁ v₁ e₁ (head-size room h₀) (join u₂ v₂ e₂ (admit-size room (most_of label) (leb 16) (λ _. true) h a₀) s₃) in
    let q : n.room ≡ m.room = ap (λ (x : Next). x.room) (plays-gave p) in
    rw (s₁, q) (maker-sum room (span h) (size u₃) m.room (next-bytes label fuel (room - span h) n₀) d.room (leb-true 16 (span h) d.fits)))
    (λ c p.
    let s₁ : size t ≡ 16 + 0 = join u₁ v₁ e₁ (head-size room h₀) (gave-nothing p) in
    let q : n.room ≡ room = ap (λ (x : Next). x.room) (plays-gave p) in
    rw (s₁, q) (omega arith))

-- a part that may be absent

part-sum : (u v r m room s : ℕ) → u + 16 ≡ s → v + m ≡ room - s + 16 → s ≤ room → r ≡ m → u + (v + 0) + r ≡ room
part-sum u v r m room s h k l e = omega arith

module _ (label : Label) {A : Type 0} (body : ℕ → Head → Walk A) (code fuel : ℕ) (held : Option A) (n : Next) where
  part-absent : {t : List Event} {x : Part A} →
      Plays t (elim held [ none ↦ refuse 9 12 | some a ↦ give (record { own = false; value = a; next = record { makers = []; head = n.head; room = n.room } }) ]) x →
      (size t + x.next.room ≡ n.room) × (x.own ≡ true → ⊥)
  part-absent p = absent held p
    where
      absent : (h : Option A) {t : List Event} {x : Part A} →
          Plays t (elim h [ none ↦ refuse 9 12 | some a ↦ give (record { own = false; value = a; next = record { makers = []; head = n.head; room = n.room } }) ]) x →
          (size t + x.next.room ≡ n.room) × (x.own ≡ true → ⊥)
      absent none p = absurd (traced p).trace
      absent (some a) {t} {x = x₁} p =
          let y = plays-gave p in (
            ap (λ (z : ℕ). z + x₁.next.room) (gave-nothing p) ∙ zero-add x₁.next.room ∙ ap (λ (x : Part A). x.next.room) y,
            λ o. false-true (sym (ap (λ (x : Part A). x.own) y) ∙ o),
          )

  pub record PartAt (t : List Event) (x : Part A) : Type 0 where
    pub bytes : size t + x.next.room ≡ n.room
    pub found : x.own ≡ true → Rest t body x.value 0

  pub part_at : ((room : ℕ) (h : Head) (u : List Event) (a : A) → Plays u (body room h) a → (size u + 16 ≡ span h) × (span h ≤ room)) →
      {t : List Event} {x : Part A} → Plays t (part label fuel code body held n) x → PartAt t x
  unfolding part
  part_at f {t} p =
      if-case (eqb n.head.code code) _ _ p
      (λ _ p.
      by_parts (body n.room n.head) _ p λ a u v e b₀ p.
      by_parts (next label fuel (n.room - span n.head)) _ p λ m y z e₁ n₀ p.
      let g = f n.room n.head u a b₀ in
      let s : size t ≡ size u + (size y + 0) = join u v e refl (join y z e₁ refl (gave-nothing p)) in
      rw (plays-gave p)
      (record {
        bytes = rw s (part-sum (size u) (size y) m.room m.room n.room (span n.head) g.0 (next-bytes label fuel (n.room - span n.head) n₀) g.1 refl);
        found = λ _. record { room = n.room; head = n.head; found = found_first v (found-whole b₀) e };
      }))
      (λ _ p. let a = part-absent p in record { bytes = a.0; found = λ o. absurd (a.1 o) })

channels-rest : (g : Group) (room : ℕ) (h : Head) (u : List Event) (cs : List Channel) → Plays u (channels g room h) cs → (size u + 16 ≡ span h) × (span h ≤ room)
channels-rest g room h u cs p = (channels-bytes g room h p, (channels-ok g room h p).2)

montage-rest : (label : Label) (es : List Channel) (room : ℕ) (h : Head) (u : List Event) (cs : List Channel) → Plays u (montage label es room h) cs → (size u + 16 ≡ span h) × (span h ≤ room)
montage-rest label es room h u cs p = channels-rest (montage_group (length es)) room h u cs (montage-is label es room h p).1

items-rest : (ok : ℕ → Bool) (room : ℕ) (h : Head) (u : List Event) (is : List Item) → Plays u (items ok room h) is → (size u + 16 ≡ span h) × (span h ≤ room)
items-rest ok room h u is p = (items-bytes ok room h p, (items-ok ok room h p).2)

delimiter-size : (h : Head) {t : List Event} {u : Unit {0}} → Plays t (delimiter h) u → size t ≡ 0
unfolding delimiter size ◌>>=◌ ◌>>◌
delimiter-size h p = let q = traced p in rw q.events (omega arith)

pub record InRecording (label : Label) (t : List Event) (x : Placed) : Type 0 where
  pub bytes : size t ≡ x.layout.bytes
  pub basic : Found t (basic (x.layout.bytes - 16)) x.recording.basic 16
  pub channels : x.recording.own_channels ≡ true → Rest t (channels (channels_group label x.recording.basic.channels)) x.recording.channels (x.layout.at120 + 16)
  pub patient : x.recording.own_patient ≡ true → Rest t (items patient_code) x.recording.patient (x.layout.at130 + 16)
  pub events : x.recording.own_events ≡ true → Rest t (items event_code) x.recording.events (x.layout.at200 + 16)
  pub montage : x.recording.own_montage ≡ true → Rest t (montage label x.recording.channels) x.recording.montage (x.layout.at350 + 16)
  pub back : ℕ
  pub padded : ℕ
  pub frames : Rest t (frames label x.recording.basic x.recording.own_channels x.recording.channels back)
      (record { seconds = x.recording.seconds; frames = x.recording.frames; size = x.layout.frame; padded = padded }) (x.layout.at140 + 16)

spot : (p room bytes : ℕ) → p + room ≡ bytes + 16 → 16 ≤ p → p ≡ bytes - room + 16
spot p room bytes h k = omega arith

step₁ : (u₁ u₂ u₃ u₄ n bytes m : ℕ) → u₁ ≡ 16 → u₂ ≡ 0 → u₃ ≡ 128 → u₄ + n ≡ bytes - 144 + 16 → m + n ≡ bytes - 144 → 16 ≤ n → u₁ + (u₂ + (u₃ + (u₄ + 0))) + n ≡ bytes + 16
step₁ u₁ u₂ u₃ u₄ n bytes m h₁ h₂ h₃ h₄ h₅ h₆ = omega arith

-- how far a walk has come: behind one part more, of so many bytes
abbrev total : List ℕ → ℕ
total [] = 0
total (n ∷ ns) = n + total ns

further : (ns : List ℕ) (n before left all : ℕ) → total ns + before ≡ all → n + left ≡ before → total (ns ++ (n ∷ [])) + left ≡ all
further [] n before left all h k = omega arith
further (m ∷ ns) n before left all h k = omega (arith, further ns n before left (total ns + before) refl k)

pub recording-found : (label : Label) (held : Option Held) (room i : ℕ) {t : List Event} {x : Placed} → Plays t (recording label held room i) x → InRecording label t x
unfolding recording signals size ◌>>=◌ ◌>>◌ between padding padded maker_code
recording-found label held room i p =
    by_parts (head room) _ p λ h u₁ _ e₁ h₀ p.
    by_parts (admit room (most_of label) (leb 16) (eqb i) h) _ (checked p).then λ _ u₂ _ e₂ a₀ p.
    by_parts (basic (span h - 16)) _ (rw body-steps at p) λ b u₃ v₃ e₃ b₀ p.
    by_parts (next label (span h) (span h - 144)) _ p λ n u₄ _ e₄ n₀ p.
    by_parts (part label (span h) (channels_group label b.channels).code (channels (channels_group label b.channels)) (held_channels held) n) _ p λ c u₅ v₅ e₅ c₀ p.
    by_parts (part label (span h) 130 (items patient_code) (held_patient held) c.next) _ p λ q u₆ v₆ e₆ q₀ p.
    by_parts (event_table label (span h) q.next) _ p λ s u₇ v₇ e₇ s₀ p.
    by_parts (part label (span h) 350 (montage label c.value) (some []) s.next) _ p λ e u₈ v₈ e₈ m₀ p.
    by_parts (frames label b c.own c.value (span h - e.next.room - 20) e.next.room e.next.head) _ (checked p).then λ f u₉ v₉ e₉ f₀ p.
    by_parts (next label (span h) (e.next.room - span e.next.head)) _ p λ d u₁₀ v₁₀ e₁₀ d₀ p.
    by_parts (delimiter d.head) _ p λ _ u₁₁ v₁₁ e₁₁ l₀ p. by-check p λ _ p. by-check p λ _ p.
    let r = taken p in
    by_parts (zeros r.bytes) _ r.then λ _ u₁₂ v₁₂ e₁₂ z₀ p.
    let h₁ = head-size room h₀ in
    let a₁ = admit-size room (most_of label) (leb 16) (eqb i) h a₀ in
    let b₁ = fixed-size 128 100 0 112 basic_body (λ t c q. basic-size q) (span h - 16) b₀ in
    let n₁ = next-ok (span h) (span h - 144) n₀ in
    let c₁ = part_at label (channels (channels_group label b.channels)) (channels_group label b.channels).code (span h) (held_channels held) n (channels-rest (channels_group label b.channels)) c₀ in
    let q₁ = part_at label (items patient_code) 130 (span h) (held_patient held) c.next (items-rest patient_code) q₀ in
    let s₁ = part_at label (items event_code) 200 (span h) (some []) q.next (items-rest event_code) (table-part label (span h) q.next s₀).1 in
    let m₁ = part_at label (montage label c.value) 350 (span h) (some []) s.next (montage-rest label c.value) m₀ in
    let k₁ : total (size u₁ ∷ size u₂ ∷ size u₃ ∷ size u₄ ∷ []) + n.room ≡ span h + 16 = step₁ (size u₁) (size u₂) (size u₃) (size u₄) n.room (span h) _ h₁ a₁ b₁ (next-bytes label (span h) (span h - 144) n₀) n₁.left n₁.enough in
    let k₂ : total (size u₁ ∷ size u₂ ∷ size u₃ ∷ size u₄ ∷ size u₅ ∷ []) + c.next.room ≡ span h + 16 = further (size u₁ ∷ size u₂ ∷ size u₃ ∷ size u₄ ∷ []) (size u₅) n.room c.next.room (span h + 16) k₁ c₁.bytes in
    let k₃ : total (size u₁ ∷ size u₂ ∷ size u₃ ∷ size u₄ ∷ size u₅ ∷ size u₆ ∷ []) + q.next.room ≡ span h + 16 = further (size u₁ ∷ size u₂ ∷ size u₃ ∷ size u₄ ∷ size u₅ ∷ []) (size u₆) c.next.room q.next.room (span h + 16) k₂ q₁.bytes in
    let k₄ : total (size u₁ ∷ size u₂ ∷ size u₃ ∷ size u₄ ∷ size u₅ ∷ size u₆ ∷ size u₇ ∷ []) + s.next.room ≡ span h + 16 = further (size u₁ ∷ size u₂ ∷ size u₃ ∷ size u₄ ∷ size u₅ ∷ size u₆ ∷ []) (size u₇) q.next.room s.next.room (span h + 16) k₃ s₁.bytes in
    let k₅ : total (size u₁ ∷ size u₂ ∷ size u₃ ∷ size u₄ ∷ size u₅ ∷ size u₆ ∷ size u₇ ∷ size u₈ ∷ []) + e.next.room ≡ span h + 16 = further (size u₁ ∷ size u₂ ∷ size u₃ ∷ size u₄ ∷ size u₅ ∷ size u₆ ∷ size u₇ ∷ []) (size u₈) s.next.room e.next.room (span h + 16) k₄ m₁.bytes in
    let f₁ = (frames-found (record { hour = 0; minute = 0; second = 0; channels = [] }) b c.own c.value (span h - e.next.room - 20) e.next.room e.next.head f₀).bytes in
    let f₂ = (frames-ok b c.own c.value (span h - e.next.room - 20) e.next.room e.next.head f₀).2 in
    let d₁ = next-bytes label (span h) (e.next.room - span e.next.head) d₀ in
    let d₂ = (next-ok (span h) (e.next.room - span e.next.head) d₀).enough in
    let y₁ : size r.others ≡ 0 + 0 = join u₁₂ v₁₂ e₁₂ (zeros-none r.bytes z₀) (gave-nothing p) in
    let y₂ : size v₁₁ ≡ d.room - 16 + (0 + 0) = ap size r.split ∙ piece-size r.bytes (d.room - 16) (size r.others) (0 + 0) r.width y₁ in
    let y₃ : size v₁₀ ≡ 0 + (d.room - 16 + (0 + 0)) = join u₁₁ v₁₁ e₁₁ (delimiter-size d.head l₀) y₂ in
    let y₄ : size v₉ ≡ size u₁₀ + (0 + (d.room - 16 + (0 + 0))) = join u₁₀ v₁₀ e₁₀ refl y₃ in
    let y₅ : size v₈ ≡ size u₉ + (size u₁₀ + (0 + (d.room - 16 + (0 + 0)))) = join u₉ v₉ e₉ refl y₄ in
    let y₆ = join u₁ _ e₁ refl (join u₂ _ e₂ refl (join u₃ _ e₃ refl (join u₄ _ e₄ refl (join u₅ _ e₅ refl (join u₆ _ e₆ refl (join u₇ _ e₇ refl (join u₈ _ e₈ refl y₅))))))) in
    rw (plays-gave p)
    (record {
      bytes = y₆ ∙ all (size u₁) (size u₂) (size u₃) (size u₄) (size u₅) (size u₆) (size u₇) (size u₈) (size u₉) (size u₁₀) d.room e.next.room (span e.next.head) (span h) k₅ f₁ f₂ d₁ d₂;
      basic = found_at (found-second u₁ (found-second u₂ (found_first v₃ (found-whole b₀) e₃) e₂ refl) e₁ refl) (front (size u₁) (size u₂) h₁ a₁);
      channels = λ o. rest_at (spot _ n.room (span h) k₁ (far (size u₁) _ h₁)) (rest-later u₁ e₁ (rest-later u₂ e₂ (rest-later u₃ e₃ (rest-later u₄ e₄ (rest-first v₅ e₅ (c₁.found o))))));
      patient = λ o. rest_at (spot _ c.next.room (span h) k₂ (far (size u₁) _ h₁)) (rest-later u₁ e₁ (rest-later u₂ e₂ (rest-later u₃ e₃ (rest-later u₄ e₄ (rest-later u₅ e₅ (rest-first v₆ e₆ (q₁.found o)))))));
      events = λ o. rest_at (spot _ q.next.room (span h) k₃ (far (size u₁) _ h₁)) (rest-later u₁ e₁ (rest-later u₂ e₂ (rest-later u₃ e₃ (rest-later u₄ e₄ (rest-later u₅ e₅ (rest-later u₆ e₆ (rest-first v₇ e₇ (s₁.found o))))))));
      montage = λ o. rest_at (spot _ s.next.room (span h) k₄ (far (size u₁) _ h₁))
          (rest-later u₁ e₁ (rest-later u₂ e₂ (rest-later u₃ e₃ (rest-later u₄ e₄ (rest-later u₅ e₅ (rest-later u₆ e₆ (rest-later u₇ e₇ (rest-first v₈ e₈ (m₁.found o)))))))));
      back = span h - e.next.room - 20;
      padded = f.padded;
      frames = rest_at (spot _ e.next.room (span h) k₅ (far (size u₁) _ h₁)) (rest-later u₁ e₁ (rest-later u₂ e₂ (rest-later u₃ e₃ (rest-later u₄ e₄ (rest-later u₅ e₅ (rest-later u₆ e₆ (rest-later u₇ e₇ (rest-later u₈ e₈
          (record { room = e.next.room; head = e.next.head; found = found_first v₉ (found-whole f₀) e₉ })))))))));
    })
  where
    all : (a b c d e f g x i j dr er sp s : ℕ) → a + (b + (c + (d + (e + (f + (g + (x + 0))))))) + er ≡ s + 16 → i + 16 ≡ sp → sp ≤ er → j + dr ≡ er - sp + 16 → 16 ≤ dr →
        a + (b + (c + (d + (e + (f + (g + (x + (i + (j + (0 + (dr - 16 + (0 + 0)))))))))))) ≡ s
    all a b c d e f g x i j dr er sp s h k l m n = omega arith

    front : (a b : ℕ) → a ≡ 16 → b ≡ 0 → a + (b + 0) ≡ 16
    front a b h k = omega arith

    far : (a b : ℕ) → a ≡ 16 → 16 ≤ a + b
    far a b h = omega arith

-- one of the recordings

pub record OneOf (label : Label) (t : List Event) (i : ℕ) (x : Placed) (p : ℕ) : Type 0 where
  pub held : Option Held
  pub room : ℕ
  pub found : Found t (recording label held room i) x p

one_later : {label : Label} (t : List Event) {u v : List Event} {i p q : ℕ} {x : Placed} → t ++ u ≡ v → size t + p ≡ q → OneOf label u i x p → OneOf label v i x q
one_later t e h o = record { held = o.held; room = o.room; found = found-second t o.found e h }

one-first : {label : Label} {t : List Event} (u : List Event) {v : List Event} {i p : ℕ} {x : Placed} → t ++ u ≡ v → OneOf label t i x p → OneOf label v i x p
one-first u e o = record { held = o.held; room = o.room; found = found_first u o.found e }

recordings-step : (label : Label) (d : Placed) (n : ℕ) (held : Option Held) (room i j : ℕ) →
    ((held : Option Held) (room : ℕ) (t : List Event) (ps : List Placed) → Plays t (recordings label n held room (suc i)) ps → OneOf label t (suc i + j) (get_or ps j d) (bytes_before j ps)) →
    {t : List Event} {ps : List Placed} → Plays t (recordings label (suc n) held room i) ps → OneOf label t (i + suc j) (get_or ps (suc j) d) (bytes_before (suc j) ps)
unfolding recordings bytes_before
recordings-step label d n held room i j ih p =
    by_parts (recording label held room i) _ p λ x u v e r₀ p.
    by_parts (recordings label n _ _ (suc i)) _ p λ ps y z e₁ q₀ p.
    let m : i + suc j ≡ suc i + j = omega arith in
    let b : size u ≡ x.layout.bytes = (recording-found label held room i r₀).bytes in
    rw (m, plays-gave p) (one_later u e (ap (λ (k : ℕ). k + bytes_before j ps) b) (one-first z e₁ (ih _ _ y ps q₀)))

recordings-here : (label : Label) (d : Placed) (n : ℕ) (held : Option Held) (room i : ℕ) {t : List Event} {ps : List Placed} → Plays t (recordings label (suc n) held room i) ps → OneOf label t (i + 0) (get_or ps 0 d) (bytes_before 0 ps)
unfolding recordings bytes_before
recordings-here label d n held room i p =
    by_parts (recording label held room i) _ p λ x u v e r₀ p.
    by-split (recordings label n _ _ (suc i)) _ p λ ps _ _ q₀ p.
    let m : i + 0 ≡ i = omega arith in
    rw (m, plays-gave p) (record { held = held; room = room; found = found_first v (found-whole r₀) e })

pub recordings-found : (label : Label) (d : Placed) (n : ℕ) (held : Option Held) (room i : ℕ) {t : List Event} {ps : List Placed} → Plays t (recordings label n held room i) ps →
    (j : ℕ) → j < n → OneOf label t (i + j) (get_or ps j d) (bytes_before j ps)
recordings-found label d zero held room i p j k = absurd (omega arith)
recordings-found label d (suc n) held room i p zero k = recordings-here label d n held room i p
recordings-found label d (suc n) held room i p (suc j) k = recordings-step label d n held room i j (λ held' room' t ps q. recordings-found label d n held' room' (suc i) q j (omega arith)) p

header-bytes : (n : ℕ) {t : List Event} {f : FileHeader} → Plays t (file_header n) f → size t ≡ 32
unfolding file_header size ◌>>=◌ ◌>>◌
header-bytes n p = let q = traced p in rw q.events (omega arith)

-- something found in what was found
pub found_inside : {A B : Type 0} {w : Walk A} {a : A} {w' : Walk B} {b : B} {t : List Event} {p q : ℕ} (f : Found t w a p) → Found f.events w' b q → Found t w' b (p + q)
found_inside {t} {p} {q} f g = found-second f.before (found_first f.behind g refl) (sym f.split) (ap (λ (x : ℕ). x + q) f.place)

pub rest-inside : {A B : Type 0} {w : Walk A} {a : A} {w' : ℕ → Head → Walk B} {b : B} {t : List Event} {p q : ℕ} (f : Found t w a p) → Rest f.events w' b q → Rest t w' b (p + q)
rest-inside f r = record { room = r.room; head = r.head; found = found_inside f r.found }

-- in an accepted file
module _ (s : List ℕ) (b : Bytes s) {v : File} {r : List ℕ} {t : List Event} (h : judge s ≡ passed v r t) where
  -- what is found at a place of the events is what its walk gives at that place of the file
  pub asked : {A : Type 0} {w : Walk A} {a : A} {p : ℕ} (f : Found t w a p) → run (order_of s) p (drop p s) w ≡ passed a (render (order_of s) f.behind) f.events
  asked f = found-run f (order_of s) s (is-render s b h)

  -- recording k, from 0
  pub recording-at : (d : Placed) (k : ℕ) → k < length v.recordings → OneOf v.heading.label t (1 + k) (get_or v.recordings k d) (32 + bytes_before k v.recordings)
  unfolding file
  recording-at d k l =
      by_parts (file_header (length s)) _ (accepted s b h).plays λ f u w e f₀ p.
      by_parts (recordings f.heading.label f.count none (length s - 32) 1) _ p λ ps y z e₁ r₀ p.
      let q : v.recordings ≡ ps = ap (λ (x : File). x.recordings) (plays-gave p) in
      let a : v.heading.label ≡ f.heading.label = ap (λ (x : File). x.heading.label) (plays-gave p) in
      let n : k < f.count = omega (arith, (recordings-ok f.heading.label f.count none (length s - 32) 1 r₀).0, ap length q) in
      let g : OneOf v.heading.label y (1 + k) (get_or v.recordings k d) (bytes_before k v.recordings) = rw (q, a) (recordings-found f.heading.label d f.count none (length s - 32) 1 r₀ k n) in
      one_later u e (ap (λ (x : ℕ). x + bytes_before k v.recordings) (header-bytes (length s) f₀)) (one-first z e₁ g)

  module _ (d : Placed) (k : ℕ) (l : k < length v.recordings) where
    inside : InRecording v.heading.label (recording-at d k l).found.events (get_or v.recordings k d)
    inside = recording-found _ _ _ _ (recording-at d k l).found.plays

    -- its 100
    pub basic-at : Found t (basic ((get_or v.recordings k d).layout.bytes - 16)) (get_or v.recordings k d).recording.basic (32 + bytes_before k v.recordings + 16)
    basic-at = found_inside (recording-at d k l).found inside.basic

    -- channel j of its own 120 or 320, from 0
    pub channel-at : (c : Channel) → (get_or v.recordings k d).recording.own_channels ≡ true → (j : ℕ) → j < length (get_or v.recordings k d).recording.channels →
        (room : ℕ) × Found t (channel (channels_group v.heading.label (get_or v.recordings k d).recording.basic.channels).sub room (1 + j)) (get_or (get_or v.recordings k d).recording.channels j c)
        (32 + bytes_before k v.recordings + ((get_or v.recordings k d).layout.at120 + 16 + (16 + 256 * j)))
    channel-at c o j m =
        let x = inside.channels o in
        (_, found_inside (recording-at d k l).found (found_inside x.found (channel-found c (channels_group v.heading.label (get_or v.recordings k d).recording.basic.channels) x.room x.head x.found.plays j m)))

    -- a recording with a 350 is one of electrodes
    pub montage-form : (get_or v.recordings k d).recording.own_montage ≡ true → v.heading.label.form ≡ Form.Electrodes
    montage-form o = let x = inside.montage o in (montage-is v.heading.label (get_or v.recordings k d).recording.channels x.room x.head x.found.plays).0

    -- channel j of its own 350, from 0
    pub montage-at : (c : Channel) → (get_or v.recordings k d).recording.own_montage ≡ true → (j : ℕ) → j < length (get_or v.recordings k d).recording.montage →
        (room : ℕ) × Found t (channel (montage_sub (length (get_or v.recordings k d).recording.channels)) room (1 + j)) (get_or (get_or v.recordings k d).recording.montage j c)
        (32 + bytes_before k v.recordings + ((get_or v.recordings k d).layout.at350 + 16 + (16 + 256 * j)))
    montage-at c o j m =
        let x = inside.montage o in
        let p = (montage-is v.heading.label (get_or v.recordings k d).recording.channels x.room x.head x.found.plays).1 in
        (_, found_inside (recording-at d k l).found (found_inside x.found (channel-found c (montage_group (length (get_or v.recordings k d).recording.channels)) x.room x.head p j m)))

    -- frame j, from 0
    pub frame-at : (f : Frame) (j : ℕ) → j < length (get_or v.recordings k d).recording.frames →
        (room : ℕ) × Found t (frame v.heading.label (get_or v.recordings k d).layout.frame (get_or v.recordings k d).recording.seconds (get_or v.recordings k d).recording.channels room (1 + j))
        (get_or (get_or v.recordings k d).recording.frames j f)
        (32 + bytes_before k v.recordings + ((get_or v.recordings k d).layout.at140 + 16 + (16 + (get_or v.recordings k d).layout.frame * j)))
    frame-at f j m =
        let x = inside.frames in (
          _,
          found_inside (recording-at d k l).found (found_inside x.found
              ((frames-found f (get_or v.recordings k d).recording.basic (get_or v.recordings k d).recording.own_channels (get_or v.recordings k d).recording.channels inside.back x.room x.head x.found.plays).frame j m)),
        )

    -- the samples of channel c in frame j, both from 0: they stand behind the frame's first 24 bytes and the samples of the channels before
    pub samples-at : (f : Frame) (e : Channel) (j c : ℕ) → j < length (get_or v.recordings k d).recording.frames → c < length (get_or v.recordings k d).recording.channels →
        Found t (number_list (width (get_or (get_or v.recordings k d).recording.channels c e).format) (samples_in (get_or v.recordings k d).recording.seconds (get_or (get_or v.recordings k d).recording.channels c e)))
        (get_or (get_or (get_or v.recordings k d).recording.frames j f).channels c [])
        (32 + bytes_before k v.recordings + ((get_or v.recordings k d).layout.at140 + 16 + (16 + (get_or v.recordings k d).layout.frame * j)) +
        (24 + sample_bytes (get_or v.recordings k d).recording.seconds (take c (get_or v.recordings k d).recording.channels)))
    samples-at f e j c m n =
        let x = frame-at f j m in
        let y = (frame_found v.heading.label _ _ _ _ _ x.1.plays).samples in
        found_inside x.1 (found_inside y (samples-found e _ (get_or v.recordings k d).recording.channels y.plays c n))

    -- sample i of channel c in frame j, all from 0
    pub sample-at : (f : Frame) (e : Channel) (j c i : ℕ) → j < length (get_or v.recordings k d).recording.frames → c < length (get_or v.recordings k d).recording.channels →
        i < samples_in (get_or v.recordings k d).recording.seconds (get_or (get_or v.recordings k d).recording.channels c e) →
        Found t (number (width (get_or (get_or v.recordings k d).recording.channels c e).format) give) (get_or (get_or (get_or (get_or v.recordings k d).recording.frames j f).channels c []) i 0)
        (32 + bytes_before k v.recordings + ((get_or v.recordings k d).layout.at140 + 16 + (16 + (get_or v.recordings k d).layout.frame * j)) +
        (24 + sample_bytes (get_or v.recordings k d).recording.seconds (take c (get_or v.recordings k d).recording.channels)) + width (get_or (get_or v.recordings k d).recording.channels c e).format * i)
    sample-at f e j c i m n o = let x = samples-at f e j c m n in found_inside x (numbers-found _ _ x.plays i o)

    -- its own 130 or 200, behind the head
    pub patient-rest : (get_or v.recordings k d).recording.own_patient ≡ true →
        Rest t (items patient_code) (get_or v.recordings k d).recording.patient (32 + bytes_before k v.recordings + ((get_or v.recordings k d).layout.at130 + 16))
    patient-rest o = rest-inside (recording-at d k l).found (inside.patient o)

    pub event-rest : (get_or v.recordings k d).recording.own_events ≡ true →
        Rest t (items event_code) (get_or v.recordings k d).recording.events (32 + bytes_before k v.recordings + ((get_or v.recordings k d).layout.at200 + 16))
    event-rest o = rest-inside (recording-at d k l).found (inside.events o)

    -- item j of its own 130 or 200, from 0
    pub patient_at : (i : Item) → (get_or v.recordings k d).recording.own_patient ≡ true → (j : ℕ) → j < length (get_or v.recordings k d).recording.patient →
        (room : ℕ) × Found t (item patient_code room) (get_or (get_or v.recordings k d).recording.patient j i)
        (32 + bytes_before k v.recordings + ((get_or v.recordings k d).layout.at130 + 16 + (8 + item_bytes (take j (get_or v.recordings k d).recording.patient))))
    patient_at i o j m = let x = inside.patient o in (_, found_inside (recording-at d k l).found (found_inside x.found (items-in i patient_code x.room x.head x.found.plays j m)))

    pub event-at : (i : Item) → (get_or v.recordings k d).recording.own_events ≡ true → (j : ℕ) → j < length (get_or v.recordings k d).recording.events →
        (room : ℕ) × Found t (item event_code room) (get_or (get_or v.recordings k d).recording.events j i)
        (32 + bytes_before k v.recordings + ((get_or v.recordings k d).layout.at200 + 16 + (8 + item_bytes (take j (get_or v.recordings k d).recording.events))))
    event-at i o j m = let x = inside.events o in (_, found_inside (recording-at d k l).found (found_inside x.found (items-in i event_code x.room x.head x.found.plays j m)))
