-- The events that a walk accepted, with every byte that is not judged zero, are those that the canonical form writes of what the walk gave: a law a record.
-- Assumes nothing.
use mathlib.Core.Path.{◌≡◌, refl, sym, ap, ◌∙◌}
use mathlib.Core.Bool.{Bool, true, false}
use mathlib.Core.List.{List, [], ◌∷◌, ◌++◌, map, append_assoc, append-nil}
use mathlib.Core.Option.{Option, none, some}
use Prim.Native.Nat.{ℕ, zero, suc, ◌+◌, ◌*◌, ◌-◌, ◌≤◌}
use native.Mathlib.Omega.{arith}
use lib.Dec.{leb, eqb}
use borrow.Author.Tests.{leb-true, eqb-true}
use lib.ListN.{length, replicate}
use Rattle.walk.specs.Plays.{Plays}
use Rattle.walk.specs.Walk.{Kind, Event, numeral, piece, blank, row, cleared, Walk, give, refuse, check, number, read, skip, list, ◌>>=◌, ◌>>◌}
use Rattle.walk.proofs.Laws.{Trace, events_of, value_of, clear, traced, by_parts, by-check, counted, taken, skipped, plays-gave}
use Rattle.walk.proofs.Tracing.{cleared-append}
use Rattle.rules.specs.Canonical.{blanks, numerals, row_of, plain_head, record_of, basic_fields, channel_fields, channel_events, channels_head, channels_written, item_events, items_head, items_written, sample_events, maker_events, optional}
use Rattle.rules.specs.Rules.{event_table, most_of, series, zeros, Head, head, span, length_of, admit, exactly, fixed, Basic, basic_body, basic, Label, Sub, Group, channels_group, montage_group, Channel, channel_body, channel, channels_body, channels, montage, Item, item, item_bytes, item_size, item_list, items_body, items, width, samples_in, number_list, samples, maker_code, Next, next, patient_code, event_code, Held, held_channels, held_patient, Part, part, Descriptions, descriptions}
use Rattle.rules.proofs.Cases.{by_form}
use Rattle.rules.proofs.Renew.{table-part, admit-ok, if-case, pick-case, and-true, renews}

-- One walk

module _ {A : Type 0} where
  cleared-events : (w : Walk A) (q : Trace w) → cleared (events_of w q) ≡ events_of w (clear w q)
  unfolding cleared
  cleared-events (give b) q = refl
  cleared-events (refuse n p) q = absurd q
  cleared-events (check c n p w) q = cleared-events w q.then
  cleared-events (number n f) q = ap (λ (u : List Event). numeral n q.word ∷ u) (cleared-events (f q.word) q.then)
  cleared-events (read k n f) q = ap (λ (u : List Event). piece k q.bytes ∷ u) (cleared-events (f q.bytes) q.then)
  cleared-events (skip n w) q = rw q.width (ap (λ (u : List Event). blanks n ∷ u) (cleared-events w q.then))
  cleared-events (list p l c s w) q = ap (λ (u : List Event). row p l c s ∷ u) (cleared-events w q)

  -- `e` says how its events are written of its answer; for a walk that is written out the last argument is `λ q. refl`
  written : (w : Walk A) (e : A → List Event) → ((q : Trace w) → events_of w (clear w q) ≡ e (value_of w q)) → {t : List Event} {a : A} → Plays t w a → cleared t ≡ e a
  written w e h p = let q = traced p in ap cleared q.events ∙ (cleared-events w q.trace ∙ (h q.trace ∙ ap e (sym q.value)))

-- one after the other
pub parts : (u v : List Event) {t x y : List Event} → u ++ v ≡ t → cleared u ≡ x → cleared v ≡ y → cleared t ≡ x ++ y
parts u v e h k = ap cleared (sym e) ∙ cleared-append u v ∙ rw (h, k)

-- nothing more
pub gave-none : {A : Type 0} {t : List Event} {b a : A} → Plays t (give b) a → cleared t ≡ []
unfolding cleared
gave-none p = rw (traced p).events

pub ends : (u v : List Event) {t x : List Event} → u ++ v ≡ t → cleared u ≡ x → cleared v ≡ [] → cleared t ≡ x
ends u v {t} {x} e h k = parts u v e h k ∙ append-nil x

-- one event first
module _ {t u x : List Event} where
  pub number-first : {n v : ℕ} → t ≡ numeral n v ∷ u → cleared u ≡ x → cleared t ≡ numeral n v ∷ x
  unfolding cleared
  number-first {n} {v} e h = ap cleared e ∙ ap (λ (y : List Event). numeral n v ∷ y) h

  pub piece-first : {k : Kind} {bs : List ℕ} → t ≡ piece k bs ∷ u → cleared u ≡ x → cleared t ≡ piece k bs ∷ x
  unfolding cleared
  piece-first {k} {bs} e h = ap cleared e ∙ ap (λ (y : List Event). piece k bs ∷ y) h

  pub blank-first : {bs : List ℕ} {n : ℕ} → t ≡ blank bs ∷ u → length bs ≡ n → cleared u ≡ x → cleared t ≡ blanks n ∷ x
  unfolding cleared
  blank-first e l h = ap cleared e ∙ rw (l, h)

-- one step of a long walk, with its event; what is found is bound by a λ, as in `by-split` of the walk's laws
module _ {A C : Type 0} where
  pub by-counted : {n : ℕ} {t : List Event} {g : ℕ → Walk A} {a : A} → Plays t (number n g) a → ((v : ℕ) (u : List Event) → t ≡ numeral n v ∷ u → Plays u (g v) a → C) → C
  by-counted p f = let c = counted p in f c.word c.others c.split c.then

  pub by-skipped : {n : ℕ} {t : List Event} {w : Walk A} {a : A} → Plays t (skip n w) a → ((bs : List ℕ) (u : List Event) → t ≡ blank bs ∷ u → length bs ≡ n → Plays u w a → C) → C
  by-skipped p f = let c = skipped p in f c.bytes c.others c.split c.width c.then

-- A record

pub head-written : (room : ℕ) {t : List Event} {h : Head} → Plays t (head room) h → cleared t ≡ numerals h
unfolding head ◌>>=◌ ◌>>◌
head-written room p = written (head room) numerals (λ q. refl) p

pub admit-written : (room most : ℕ) (fits serial : ℕ → Bool) (h : Head) {t : List Event} {u : Unit {0}} → Plays t (admit room most fits serial h) u → cleared t ≡ row_of h ∷ []
unfolding admit ◌>>=◌ ◌>>◌
admit-written room most fits serial h p = written (admit room most fits serial h) (λ _. row_of h ∷ []) (λ q. refl) p

-- a head with multiplier 0
pub plain-is : (h : Head) (n code serial : ℕ) → h.multiplier ≤ 0 → span h ≡ n → h.code ≡ code → h.serial ≡ serial → h ≡ plain_head n code serial
unfolding length_of
plain-is h n code serial m l c s = go h.multiplier refl m
  where
    go : (x : ℕ) → h.multiplier ≡ x → x ≤ 0 → h ≡ plain_head n code serial
    go zero e k = let z : h.size ≡ n = rw e at l in λ i. record { size = z i; code = c i; serial = s i; multiplier = e i }
    go (suc x) e k = absurd (omega arith)

-- a record of a fixed size
module _ {A : Type 0} (n code serial : ℕ) (body : Walk A) (fields : A → List Event) (inside : (t : List Event) (a : A) → Plays t body a → cleared t ≡ fields a) where
  fixed-written : (room : ℕ) {t : List Event} {a : A} → Plays t (fixed (exactly n code serial) body room) a → cleared t ≡ record_of (plain_head n code serial) (fields a)
  unfolding fixed record_of ◌>>=◌ ◌>>◌
  fixed-written room {a} p =
      by_parts (head room) _ p λ h u v e h₀ p. by-check p λ c p.
      by_parts (admit room 0 (eqb n) (eqb serial) h) _ p λ _ x y e₁ a₀ p.
      let k = admit-ok room 0 (eqb n) (eqb serial) h a₀ in
      let i : h ≡ plain_head n code serial = plain-is h n code serial k.low (sym (eqb-true n (span h) k.fits)) (eqb-true h.code code c) (sym (eqb-true serial h.serial k.serial)) in
      parts u v e (head-written room h₀) (parts x y e₁ (admit-written room 0 (eqb n) (eqb serial) h a₀) (inside y _ p)) ∙ ap (λ (z : Head). record_of z (fields a)) i

-- 100

basic_body-written : {t : List Event} {b : Basic} → Plays t basic_body b → cleared t ≡ basic_fields b
unfolding basic_body basic_fields ◌>>=◌ ◌>>◌
basic_body-written p = written basic_body basic_fields (λ q. cc (eqb-true 1 q.word q.then.holds)) p

pub basic-written : (room : ℕ) {t : List Event} {b : Basic} → Plays t (basic room) b → cleared t ≡ record_of (plain_head 128 100 0) (basic_fields b)
basic-written room p = fixed-written 128 100 0 basic_body basic_fields (λ t b. basic_body-written) room p

-- 125, 325 and 355, and 120, 320 and 350

channel_body-written : (k : Sub) {t : List Event} {c : Channel} → Plays t (channel_body k) c → cleared t ≡ channel_fields k c
channel_body-written k p = written (channel_body k) (channel_fields k) (renews k) p

channel-written : (k : Sub) (room i : ℕ) {t : List Event} {c : Channel} → Plays t (channel k room i) c → cleared t ≡ record_of (plain_head 256 k.code i) (channel_fields k c)
channel-written k room i p = fixed-written 256 k.code i (channel_body k) (channel_fields k) (λ t c. channel_body-written k) room p

series-written : (k : Sub) (n i room : ℕ) {t : List Event} {cs : List Channel} → Plays t (series n i 256 room (channel k)) cs → (length cs ≡ n) × (cleared t ≡ channel_events k i cs)
unfolding series channel_events
series-written k zero i room p = rw (plays-gave p) (refl, gave-none p)
series-written k (suc n) i room p =
    by_parts (channel k room i) _ p λ c u v e c₀ p.
    by_parts (series n (suc i) 256 (room - 256) (channel k)) _ p λ cs x y e₁ q₀ p.
    let j = series-written k n (suc i) (room - 256) q₀ in
    rw (plays-gave p) (ap suc j.0, parts u v e (channel-written k room i c₀) (ends x y e₁ j.1 (gave-none p)))

-- the rest of a record with multiplier 0 whose head is read: what the head says, and the events
abbrev pub Rest : {A : Type 0} → ℕ → (ℕ → Head → Walk A) → (A → Head) → (A → List Event) → Type 0
Rest {A} code body head_of inside = (room : ℕ) (h : Head) (t : List Event) (a : A) → h.code ≡ code → Plays t (body room h) a → (h ≡ head_of a) × (cleared t ≡ row_of h ∷ inside a)

-- from its body, whose value says how long the record is
rest-written : {A : Type 0} (low code : ℕ) (body : ℕ → Walk A) (long : A → ℕ) (inside : A → List Event) → ((n : ℕ) (t : List Event) (a : A) → Plays t (body n) a → (n ≡ long a) × (cleared t ≡ inside a)) →
    Rest code (λ room h. admit room 0 (leb low) (eqb 0) h >> body (span h)) (λ a. plain_head (long a) code 0) inside
unfolding ◌>>◌
rest-written low code body long inside f room h t a c p =
    by_parts (admit room 0 (leb low) (eqb 0) h) _ p λ _ u v e a₀ p.
    let k = admit-ok room 0 (leb low) (eqb 0) h a₀ in
    let r = f (span h) v a p in
    (plain-is h (long a) code 0 k.low r.0 c (sym (eqb-true 0 h.serial k.serial)), parts u v e (admit-written room 0 (leb low) (eqb 0) h a₀) r.1)

channels_body-written : (g : Group) (n : ℕ) (t : List Event) (cs : List Channel) → Plays t (channels_body g n) cs → (n ≡ 32 + 256 * length cs) × (cleared t ≡ channels_written g cs)
unfolding channels_body channels_written cleared ◌>>=◌ ◌>>◌
channels_body-written g n t cs p =
    by-counted p λ m _ e₁ p. by-check p λ _ p. by-check p λ _ p. by-check p λ l p. by-counted p λ k _ e₂ p. by-check p λ c p. by-skipped p λ _ _ e₃ w p.
    let j = series-written g.sub m 1 (n - 32) p in
    let z : k ≡ 256 = sym (eqb-true 256 k c) in
    (eqb-true n (32 + 256 * m) l ∙ rw j.0, number-first e₁ (number-first e₂ (blank-first e₃ w j.1)) ∙ rw (j.0, z))

pub channels-written : (g : Group) → Rest g.code (channels g) (channels_head g) (channels_written g)
unfolding channels
channels-written g = rest-written 32 g.code (channels_body g) (λ cs. 32 + 256 * length cs) (channels_written g) (channels_body-written g)

-- a 350; form 00 refuses it
pub montage-written : (label : Label) (es : List Channel) → Rest 350 (montage label es) (channels_head (montage_group (length es))) (channels_written (montage_group (length es)))
unfolding montage
montage-written label es =
    by_form (λ l. Rest 350 (montage l es) (channels_head (montage_group (length es))) (channels_written (montage_group (length es)))) label (λ room h t cs c p. absurd (traced p).trace) (channels-written (montage_group (length es)))

-- 130 and 200

item-written : (ok : ℕ → Bool) (room : ℕ) {t : List Event} {i : Item} → Plays t (item ok room) i → cleared t ≡ item_events (i ∷ [])
unfolding item item_events ◌>>=◌ ◌>>◌
item-written ok room p =
    written (item ok room) (λ i. item_events (i ∷ []))
    (λ q.
    let s = q.then in
    let b = s.then.then.then.then in
    let l : 8 ≤ s.word = leb-true 8 s.word (and-true (leb 8 s.word) _ s.then.then.holds).0 in
    let z : 8 + length b.bytes ≡ s.word = omega (arith, b.width) in
    rw z)
    p

items-each : (ok : ℕ → Bool) (n room : ℕ) {t : List Event} {is : List Item} → Plays t (item_list ok n room) is → (length is ≡ n) × (cleared t ≡ item_events is)
unfolding item_list item_events
items-each ok zero room p = rw (plays-gave p) (refl, gave-none p)
items-each ok (suc n) room p =
    by_parts (item ok room) _ p λ i u v e i₀ p.
    by_parts (item_list ok n (room - item_size i)) _ p λ is x y e₁ q₀ p.
    let j = items-each ok n (room - item_size i) q₀ in
    rw (plays-gave p) (ap suc j.0, parts u v e (item-written ok room i₀) (ends x y e₁ j.1 (gave-none p)))

items_body-written : (ok : ℕ → Bool) (n : ℕ) (t : List Event) (is : List Item) → Plays t (items_body ok n) is → (n ≡ 24 + item_bytes is) × (cleared t ≡ items_written is)
unfolding items_body items_written cleared ◌>>=◌ ◌>>◌
items_body-written ok n t is p =
    by-counted p λ m _ e₁ p. by-check p λ _ p. by-skipped p λ _ _ e₂ w p.
    by_parts (item_list ok m (n - 24)) _ p λ is₁ u v e i₀ p. by-check p λ l p.
    let j = items-each ok m (n - 24) i₀ in
    rw (plays-gave p) (sym (eqb-true (24 + item_bytes is₁) n l), number-first e₁ (blank-first e₂ w (ends u v e j.1 (gave-none p))) ∙ rw j.0)

pub items-written : (ok : ℕ → Bool) (code : ℕ) → Rest code (items ok) (items_head code) items_written
unfolding items
items-written ok code = rest-written 24 code (items_body ok) (λ is. 24 + item_bytes is) items_written (items_body-written ok)

-- samples

numbers-written : (w n : ℕ) {t : List Event} {l : List ℕ} → Plays t (number_list w n) l → cleared t ≡ map (numeral w) l
unfolding number_list cleared ◌>>=◌
numbers-written w zero p = rw (plays-gave p) (gave-none p)
numbers-written w (suc n) p =
    by-counted p λ _ _ e₀ p.
    by_parts (number_list w n) _ p λ l u v e q₀ p.
    rw (plays-gave p) (number-first e₀ (ends u v e (numbers-written w n q₀) (gave-none p)))

pub samples-written : (t : ℕ) (cs : List Channel) {u : List Event} {ss : List (List ℕ)} → Plays u (samples t cs) ss → cleared u ≡ sample_events cs ss
unfolding samples sample_events
samples-written t [] p = gave-none p
samples-written t (c ∷ cs) p =
    by_parts (number_list (width c.format) (samples_in t c)) _ p λ s u v e h₀ p.
    by_parts (samples t cs) _ p λ ss x y e₁ q₀ p.
    rw (plays-gave p) (parts u v e (numbers-written (width c.format) (samples_in t c) h₀) (ends x y e₁ (samples-written t cs q₀) (gave-none p)))

-- padding

pub zeros-are : (bs : List ℕ) {t : List Event} {u : Unit {0}} → Plays t (zeros bs) u → (cleared t ≡ []) × (bs ≡ replicate (length bs) 0)
unfolding zeros
zeros-are [] p = (gave-none p, refl)
zeros-are (b ∷ bs) p = by-check p λ z p. let j = zeros-are bs p in (j.0, λ i. eqb-true b 0 z i ∷ j.1 i)

-- Records one after the other: makers' records and the head of another, and a part that may be absent. The head that was come to stands at the end

pub next-written : (label : Label) (fuel room : ℕ) {t : List Event} {n : Next} → Plays t (next label fuel room) n → cleared t ≡ maker_events n.makers ++ numerals n.head
unfolding next maker_events record_of cleared ◌>>=◌ ◌>>◌
next-written label zero room p = absurd (traced p).trace
next-written label (suc fuel) room p =
    by_parts (head room) _ p λ h u v e h₀ p.
    pick-case (maker_code h.code) _ _ p
    (λ c p.
    by_parts (admit room (most_of label) (leb 16) (λ _. true) h) _ p λ _ x y e₁ a₀ p.
    let r = taken p in
    by_parts (next label fuel (room - span h)) _ r.then λ m w z e₂ n₀ p.
    rw (plays-gave p) (parts u v e (head-written room h₀) (parts x y e₁ (admit-written room (most_of label) (leb 16) (λ _. true) h a₀) (piece-first r.split (ends w z e₂ (next-written label fuel (room - span h) n₀) (gave-none p))))))
    (λ c p. rw (plays-gave p) (ends u v e (head-written room h₀) (gave-none p)))

-- a part's record and the makers' records behind it, or nothing
abbrev pub part_events : {A : Type 0} → (A → Head) → (A → List Event) → Part A → List Event
part_events head_of inside x = optional x.own (record_of (head_of x.value) (inside x.value) ++ maker_events x.next.makers)

module _ (label : Label) {A : Type 0} (code : ℕ) (body : ℕ → Head → Walk A) (head_of : A → Head) (inside : A → List Event) (rest : Rest code body head_of inside) (n : Next) where
  abbrev Passed : List Event → Part A → Type 0
  Passed t x = numerals n.head ++ cleared t ≡ part_events head_of inside x ++ numerals x.next.head

  absent : (held : Option A) {t : List Event} {x : Part A} →
      Plays t (elim held [ none ↦ refuse 9 12 | some a ↦ give (record { own = false; value = a; next = record { makers = []; head = n.head; room = n.room } }) ]) x → Passed t x
  unfolding optional
  absent none p = absurd (traced p).trace
  absent (some a) p = rw (plays-gave p, gave-none p) refl

  put-together : (h : Head) (t u v : List Event) → numerals h ++ ((row_of h ∷ t) ++ (u ++ v)) ≡ (record_of h t ++ u) ++ v
  unfolding record_of
  put-together h t u v = simp append_assoc

  pub part-written : (fuel : ℕ) (held : Option A) {t : List Event} {x : Part A} → Plays t (part label fuel code body held n) x → Passed t x
  unfolding part optional
  part-written fuel held {t} p =
      if-case (eqb n.head.code code) _ _ p
      (λ c p.
      by_parts (body n.room n.head) _ p λ a u v e b₀ p.
      by_parts (next label fuel (n.room - span n.head)) _ p λ m y z e₁ n₀ p.
      let r = rest n.room n.head u a (eqb-true n.head.code code c) b₀ in
      let g = parts u v e r.1 (ends y z e₁ (next-written label fuel (n.room - span n.head) n₀) (gave-none p)) in
      rw (plays-gave p, g) (put-together n.head (inside a) (maker_events m.makers) (numerals m.head) ∙ ap (λ (h : Head). (record_of h (inside a) ++ maker_events m.makers) ++ numerals m.head) r.0))
      (λ _ p. absent held p)

-- A recording up to the head of its 140

-- a 120, a 320 or a 350
abbrev group_events : Group → Part (List Channel) → List Event
group_events g x = part_events (channels_head g) (channels_written g) x

abbrev pub tables_events : Label → Descriptions → List Event
tables_events label t =
    record_of (plain_head 128 100 0) (basic_fields t.basic) ++ (maker_events t.next.makers ++
    (group_events (channels_group label t.basic.channels) t.channels ++ (part_events (items_head 130) items_written t.patient ++
    (part_events (items_head 200) items_written t.events ++ group_events (montage_group (length t.channels.value)) t.montage))))

-- what stands before a part goes behind it
pass : (n c p m t : List Event) → n ++ c ≡ p ++ m → n ++ (c ++ t) ≡ p ++ (m ++ t)
pass n c p m t h = sym (append_assoc n c t) ∙ (ap (λ (u : List Event). u ++ t) h ∙ append_assoc p m t)

in_order : (b m n₁ c C n₂ p P n₃ e E n₄ o O n₅ : List Event) → n₁ ++ c ≡ C ++ n₂ → n₂ ++ p ≡ P ++ n₃ → n₃ ++ e ≡ E ++ n₄ → n₄ ++ o ≡ O ++ n₅ →
    b ++ ((m ++ n₁) ++ (c ++ (p ++ (e ++ o)))) ≡ (b ++ (m ++ (C ++ (P ++ (E ++ O))))) ++ n₅
in_order b m n₁ c C n₂ p P n₃ e E n₄ o O n₅ h₁ h₂ h₃ h₄ = rw (append_assoc m n₁, pass n₁ c C n₂ _ h₁, pass n₂ p P n₃ _ h₂, pass n₃ e E n₄ _ h₃, h₄) (simp append_assoc)

pub tables-written : (label : Label) (held : Option Held) (n : ℕ) {u : List Event} {t : Descriptions} → Plays u (descriptions label held n) t →
    cleared u ≡ tables_events label t ++ numerals t.montage.next.head
unfolding descriptions
tables-written label held n p =
    by_parts (basic (n - 16)) _ p λ b u₁ v₁ e₁ b₀ p.
    by_parts (next label n (n - 144)) _ p λ m u₂ v₂ e₂ m₀ p.
    let g : Group = channels_group label b.channels in
    by_parts (part label n g.code (channels g) (held_channels held) m) _ p λ c u₃ v₃ e₃ c₀ p.
    by_parts (part label n 130 (items patient_code) (held_patient held) c.next) _ p λ q u₄ v₄ e₄ q₀ p.
    by_parts (event_table label n q.next) _ p λ e u₅ v₅ e₅ s₀ p.
    let o : Group = montage_group (length c.value) in
    by_parts (part label n 350 (montage label c.value) (some []) e.next) _ p λ x u₆ v₆ e₆ x₀ p.
    rw (plays-gave p)
    (parts u₁ v₁ e₁ (basic-written (n - 16) b₀) (parts u₂ v₂ e₂ (next-written label n (n - 144) m₀) (parts u₃ v₃ e₃ refl (parts u₄ v₄ e₄ refl (parts u₅ v₅ e₅ refl (ends u₆ v₆ e₆ refl (gave-none p)))))) ∙
    in_order (record_of (plain_head 128 100 0) (basic_fields b)) (maker_events m.makers) (numerals m.head) (cleared u₃) (group_events g c) (numerals c.next.head)
    (cleared u₄) (part_events (items_head 130) items_written q) (numerals q.next.head) (cleared u₅) (part_events (items_head 200) items_written e) (numerals e.next.head)
    (cleared u₆) (group_events o x) (numerals x.next.head)
    (part-written label g.code (channels g) (channels_head g) (channels_written g) (channels-written g) m n (held_channels held) c₀)
    (part-written label 130 (items patient_code) (items_head 130) items_written (items-written patient_code 130) c.next n (held_patient held) q₀)
    (part-written label 200 (items event_code) (items_head 200) items_written (items-written event_code 200) q.next n (some []) (table-part label n q.next s₀).1)
    (part-written label 350 (montage label c.value) (channels_head o) (channels_written o) (montage-written label c.value) e.next n (some []) x₀))
