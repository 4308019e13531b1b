-- A reading's canonical file is accepted and has that reading: a lemma a record, from the inside out.
-- Assumes nothing.
use mathlib.Core.Path.{◌≡◌, refl, sym, ap, ◌∙◌}
use mathlib.Core.Bool.{Bool, true, false, ◌&&◌, ◌||◌}
use mathlib.Core.List.{List, [], ◌∷◌, ◌++◌, map, append_assoc}
use mathlib.Core.Option.{some}
use Prim.Native.Nat.{ℕ, zero, suc, ◌+◌, ◌*◌, ◌-◌, ◌^◌, ◌≤◌, ◌<◌, max}
use native.Mathlib.Nat.{mul-le-mul_left, mul-le-mul_right, zero-add}
use native.Mathlib.Omega.{arith}
use lib.Dec.{leb, ltb, eqb}
use borrow.Author.Tests.{leb-true, ltb-true, eqb-true, le-leb, lt-ltb, eq-eqb}
use lib.ListN.{length, replicate}
use Rattle.words.specs.Numbers.{Bytes}
use Rattle.walk.specs.Plays.{Plays, gives, checks, numbers, reads, skips, lists}
use Rattle.walk.specs.Walk.{Text, Event, numeral, piece, size, Walk, give, ◌>>=◌, ◌>>◌, pick}
use Rattle.walk.proofs.Apart.{false-true}
use Rattle.walk.proofs.Laws.{plays-bind, plays-split, plays-give, plays-last, checked, counted, taken, skipped, traced, renewed, Trace, events_of, value_of, clear, size-append, zeros-bytes, zeros-length}
use Rattle.rules.specs.Canonical.{multiplier_for, most, zeroes, numerals, row_of, plain_head, record_of, basic_fields, field_event, channel_fields, channel_events, channels_head, channels_written, item_events, items_head, items_written, sample_events, frame_written, frame_size, frame_events, frames_bytes, frames_head, frames_written, maker_events}
use Rattle.rules.specs.Rules.{event_table, allowed, Part, part, event_code, Label, most_of, between, padding, padded, maker_code, zeros, series, limit, Head, head, length_of, span, admit, exactly, fixed, Basic, basic_body, basic, Sub, Group, field_if, Channel, channel_body, channel, channels, Item, item, item_bytes, item_list, items, width, sampled, samples_in, all, sample_bytes, number_list, samples, Frame, frame, Frames, frames, Maker, Next, next, channels_body, items_body, frame_body, frames_body}
use Rattle.rules.proofs.Cases.{by_shape}
use Rattle.rules.proofs.Sized.{sized, longest, served}

pub and-true : (a b : Bool) → a && b ≡ true → (a ≡ true) × (b ≡ true)
and-true true b h = (refl, h)
and-true false b h = false-true h

pub and_both : (a b : Bool) → a ≡ true → b ≡ true → a && b ≡ true
and_both true b g h = h
and_both false b g h = g

-- A head

pub record HeadOk (h : Head) : Type 0 where
  pub size : h.size < 256 ^ 4
  pub code : h.code < 256 ^ 4
  pub serial : h.serial < 256 ^ 4
  pub multiplier : h.multiplier < 256 ^ 4

pub head-plays : (h : Head) → HeadOk h → (room : ℕ) → 16 ≤ room → Plays (numerals h) (head room) h
unfolding head ◌>>=◌ ◌>>◌
head-plays h k room r = checks (le-leb 16 room r) (numbers k.size (numbers k.code (numbers k.serial (numbers k.multiplier gives))))

pub head_ok : (room : ℕ) {t : List Event} {h : Head} → Plays t (head room) h → HeadOk h
unfolding head ◌>>=◌ ◌>>◌
head_ok room p =
    let q = traced p in
    let f = q.trace.then in
    rw q.value (record { size = f.small; code = f.then.small; serial = f.then.then.small; multiplier = f.then.then.then.small })

-- its tests

pub record Admitted (left top : ℕ) (fit numbered : ℕ → Bool) (h : Head) : Type 0 where
  pub low : h.multiplier ≤ top
  pub small : h.size < limit
  pub fits : fit (span h) ≡ true
  pub room : span h ≤ left
  pub serial : numbered h.serial ≡ true

pub admit-plays : (room most : ℕ) (fits serial : ℕ → Bool) (h : Head) → Admitted room most fits serial h → Plays (row_of h ∷ []) (admit room most fits serial h) tt
unfolding admit ◌>>=◌ ◌>>◌
admit-plays room most fits serial h a =
    checks (le-leb h.multiplier most a.low)
    (checks (and_both (ltb h.size limit) _ (lt-ltb h.size limit a.small) (and_both (fits (span h)) _ a.fits (le-leb (span h) room a.room)))
    (checks a.serial (lists gives)))

pub admit-ok : (room most : ℕ) (fits serial : ℕ → Bool) (h : Head) {t : List Event} {u : Unit {0}} → Plays t (admit room most fits serial h) u → Admitted room most fits serial h
unfolding admit ◌>>=◌ ◌>>◌
admit-ok room most fits serial h p =
    let f = checked p in
    let g = checked f.then in
    let a = and-true (ltb h.size limit) _ g.holds in
    let b = and-true (fits (span h)) _ a.1 in
    record { low = leb-true h.multiplier most f.holds; small = ltb-true h.size limit a.0; fits = b.0; room = leb-true (span h) room b.1; serial = (checked g.then).holds }

-- a record of a fixed size

module _ {A : Type 0} (n code serial : ℕ) (body : Walk A) where
  pub fixed-ok : (room : ℕ) {t : List Event} {a : A} → Plays t (fixed (exactly n code serial) body room) a → (u : List Event) × Plays u body a
  unfolding fixed ◌>>=◌ ◌>>◌
  fixed-ok room p =
      let h = plays-split (head room) _ p in
      let q = plays-split (admit room 0 (eqb n) (eqb serial) h.value) _ (checked h.behind).then in
      (q.second, q.behind)

  pub fixed-plays : (room : ℕ) {t : List Event} {a : A} → Plays t body a → 16 ≤ n → n < limit → code < 256 ^ 4 → serial < 256 ^ 4 → n ≤ room →
      Plays (record_of (plain_head n code serial) t) (fixed (exactly n code serial) body room) a
  unfolding fixed record_of ◌>>=◌ ◌>>◌ length_of
  fixed-plays room {t} p l m c s r =
      let h : Head = plain_head n code serial in
      plays-bind _ (head-plays h (record { size = omega arith; code = c; serial = s; multiplier = omega arith }) room (omega arith))
      (checks (eq-eqb code code refl)
      (plays-bind _ (admit-plays room 0 (eqb n) (eqb serial) h (record { low = omega arith; small = m; fits = eq-eqb n n refl; room = r; serial = eq-eqb serial serial refl })) p))

-- 100

pub basic-ok : (room : ℕ) {t : List Event} {b : Basic} → Plays t (basic room) b → Plays (basic_fields b) basic_body b
unfolding basic_body basic_fields ◌>>=◌ ◌>>◌
basic-ok room p = renewed basic_body basic_fields (λ q. cc (eqb-true 1 q.word q.then.holds)) (fixed-ok 128 100 0 basic_body room p).1

-- 125, 325 and 355

-- how its events are written
pub renews : (k : Sub) (q : Trace (channel_body k)) → events_of (channel_body k) (clear (channel_body k) q) ≡ channel_fields k (value_of (channel_body k) q)
unfolding channel_body channel_fields field_if field_event ◌>>=◌ ◌>>◌
renews = by_shape (λ k. (q : Trace (channel_body k)) → events_of (channel_body k) (clear (channel_body k) q) ≡ channel_fields k (value_of (channel_body k) q)) (λ k q. refl) (λ k q. refl) (λ k q. refl) (λ k q. refl)

pub channel-ok : (k : Sub) (room i : ℕ) {t : List Event} {c : Channel} → Plays t (channel k room i) c → Plays (channel_fields k c) (channel_body k) c
channel-ok k room i p = renewed (channel_body k) (channel_fields k) (renews k) (fixed-ok 256 k.code i (channel_body k) room p).1

pub basic-size : {t : List Event} {b : Basic} → Plays t basic_body b → size t ≡ 112
unfolding basic_body size ◌>>=◌ ◌>>◌
basic-size p = let q = traced p in rw q.events (omega arith)

trace-size : (k : Sub) (q : Trace (channel_body k)) → size (events_of (channel_body k) q) ≡ 240
unfolding channel_body field_if size ◌>>=◌ ◌>>◌
trace-size = by_shape (λ k. (q : Trace (channel_body k)) → size (events_of (channel_body k) q) ≡ 240) (λ k q. omega arith) (λ k q. omega arith) (λ k q. omega arith) (λ k q. omega arith)

pub channel-size : (k : Sub) {t : List Event} {c : Channel} → Plays t (channel_body k) c → size t ≡ 240
channel-size k p = let q = traced p in ap size q.events ∙ trace-size k q.trace

-- lists

abbrev pub All : {A : Type 0} → (A → Type 0) → List A → Type 0
All P [] = Unit {0}
All P (a ∷ l) = P a × All P l

-- what a series accepted, each by itself
pub series-ok : {A : Type 0} (P : A → Type 0) (w : ℕ → ℕ → Walk A) → ((room i : ℕ) (t : List Event) (a : A) → Plays t (w room i) a → P a) →
    (n i step room : ℕ) {t : List Event} {l : List A} → Plays t (series n i step room w) l → (length l ≡ n) × All P l
unfolding series
series-ok P w f zero i step room p = let q = traced p in rw q.value (refl, tt)
series-ok P w f (suc n) i step room p =
    let h = plays-split (w room i) _ p in
    let q = plays-split (series n (suc i) step (room - step) w) _ h.behind in
    let j = series-ok P w f n (suc i) step (room - step) q.before in
    rw (traced q.behind).value (ap suc j.0, (f room i _ _ h.before, j.1))

-- 120, 320 and 350

abbrev pub ChannelOk : Sub → Channel → Type 0
ChannelOk u c = Plays (channel_fields u c) (channel_body u) c

pub channels-play : (u : Sub) → u.code < 256 ^ 4 → (cs : List Channel) → All (ChannelOk u) cs → (i room : ℕ) → i + length cs ≤ 1000 → 256 * length cs ≤ room →
    Plays (channel_events u i cs) (series (length cs) i 256 room (channel u)) cs
unfolding channel_events series
channels-play u z [] k i room b r = gives
channels-play u z (c ∷ cs) k i room b r =
    plays-bind _ (fixed-plays 256 u.code i (channel_body u) room k.0 (omega arith) (omega arith) z (omega arith) (omega arith))
    (plays-give _ (channels-play u z cs k.1 (suc i) (room - 256) (omega arith) (omega arith)))

pub record-size : (h : Head) (t : List Event) → size (record_of h t) ≡ 16 + size t
unfolding record_of size
record-size h t = omega arith

channel-events-size : (u : Sub) (cs : List Channel) → All (ChannelOk u) cs → (i : ℕ) → size (channel_events u i cs) ≡ 256 * length cs
unfolding channel_events size
channel-events-size u [] k i = refl
channel-events-size u (c ∷ cs) k i =
    rw (size-append (record_of (plain_head 256 u.code i) (channel_fields u c)) (channel_events u (suc i) cs), record-size, channel-size u k.0, channel-events-size u cs k.1 (suc i)) (omega arith)

pub record ChannelsOk (g : Group) (cs : List Channel) : Type 0 where
  pub count : between 1 128 (length cs) ≡ true
  pub same : g.counts (length cs) ≡ true
  pub each : All (ChannelOk g.sub) cs

pub few-channels : (g : Group) (cs : List Channel) → ChannelsOk g cs → length cs ≤ 128
unfolding between padding padded maker_code
few-channels g cs k = leb-true (length cs) 128 (and-true (leb 1 (length cs)) _ k.count).1

pub channels-size : (g : Group) (cs : List Channel) → ChannelsOk g cs → size (record_of (channels_head g cs) (channels_written g cs)) ≡ 32 + 256 * length cs
unfolding channels_written size
channels-size g cs k = rw (record-size, channel-events-size g.sub cs k.each 1) (omega arith)

pub channels-ok : (g : Group) (room : ℕ) (h : Head) {t : List Event} {cs : List Channel} → Plays t (channels g room h) cs →
    ChannelsOk g cs × (32 + 256 * length cs ≡ span h) × (span h ≤ room)
unfolding channels channels_body ◌>>=◌ ◌>>◌
channels-ok g room h p =
    let a = plays-split (admit room 0 (leb 32) (eqb 0) h) _ p in
    let m = counted a.behind in
    let c₁ = checked m.then in
    let c₂ = checked c₁.then in
    let c₃ = checked c₂.then in
    let s = counted c₃.then in
    let j = series-ok (ChannelOk g.sub) (channel g.sub) (λ room i t c. channel-ok g.sub room i) m.word 1 256 (span h - 32) (skipped (checked s.then).then).then in (
      record { count = rw j.0 c₁.holds; same = rw j.0 c₂.holds; each = j.1 },
      rw j.0 (sym (eqb-true (span h) (32 + 256 * m.word) c₃.holds)),
      (admit-ok room 0 (leb 32) (eqb 0) h a.before).room,
    )

pub channels-plays : (g : Group) → g.sub.code < 256 ^ 4 → (cs : List Channel) → ChannelsOk g cs → (room : ℕ) → 32 + 256 * length cs ≤ room →
    Plays (row_of (channels_head g cs) ∷ channels_written g cs) (channels g room (channels_head g cs)) cs
unfolding channels channels_body channels_written ◌>>=◌ ◌>>◌ length_of
channels-plays g z cs k room r =
    let n = few-channels g cs k in
    plays-bind _ (admit-plays room 0 (leb 32) (eqb 0) (channels_head g cs) (record { low = omega arith; small = omega arith; fits = le-leb 32 (32 + 256 * length cs) (omega arith); room = r; serial = refl }))
    (numbers (omega arith) (checks k.count (checks k.same (checks (eq-eqb (32 + 256 * length cs) (32 + 256 * length cs) refl)
    (numbers (omega arith) (checks refl (skips (zeros-length 8) (zeros-bytes 8) (channels-play g.sub z cs k.each 1 (32 + 256 * length cs - 32) (omega arith) (omega arith)))))))))

-- 130 and 200

pub record ItemOk (ok : ℕ → Bool) (i : Item) : Type 0 where
  pub code : i.code < 256 ^ 4
  pub allowed : ok i.code ≡ true
  pub small : 8 + length i.content < limit
  pub bytes : Bytes i.content

item_ok : (ok : ℕ → Bool) (room : ℕ) {t : List Event} {i : Item} → Plays t (item ok room) i → ItemOk ok i
unfolding item ◌>>=◌ ◌>>◌
item_ok ok room p =
    let q = traced p in
    let s = q.trace.then in
    let c = s.then in
    let k = and-true (leb 8 s.word) _ c.then.holds in
    let l = leb-true 8 s.word k.0 in
    let m = ltb-true s.word limit (and-true (ltb s.word limit) _ k.1).0 in
    let b = c.then.then.then in
    rw q.value (record { code = c.small; allowed = c.then.then.holds; small = omega (arith, b.width); bytes = b.small })

items-each : (ok : ℕ → Bool) (n room : ℕ) {t : List Event} {is : List Item} → Plays t (item_list ok n room) is → (length is ≡ n) × All (ItemOk ok) is
unfolding item_list
items-each ok zero room p = let q = traced p in rw q.value (refl, tt)
items-each ok (suc n) room p =
    let h = plays-split (item ok room) _ p in
    let q = plays-split (item_list ok n _) _ h.behind in
    let j = items-each ok n _ q.before in
    rw (traced q.behind).value (ap suc j.0, (item_ok ok room h.before, j.1))

pub item-events-size : (is : List Item) → size (item_events is) ≡ item_bytes is
unfolding item_events item_bytes size
item-events-size [] = refl
item-events-size (i ∷ is) = omega (arith, item-events-size is)

items-play : (ok : ℕ → Bool) (is : List Item) → All (ItemOk ok) is → (room : ℕ) → item_bytes is ≤ room → Plays (item_events is) (item_list ok (length is) room) is
unfolding item_events item_bytes item_list item ◌>>=◌ ◌>>◌
items-play ok [] k room r = gives
items-play ok (i ∷ is) k room r =
    let n : ℕ = 8 + length i.content in
    let s : n < limit = k.0.small in
    let z : n < 256 ^ 4 = omega arith in
    let y : length i.content ≡ n - 8 = omega arith in
    checks (le-leb 8 room (omega arith)) (numbers z (numbers k.0.code
    (checks (and_both (leb 8 n) _ (le-leb 8 n (omega arith)) (and_both (ltb n limit) _ (lt-ltb n limit s) (le-leb n room (omega arith))))
    (checks k.0.allowed (reads y k.0.bytes (plays-give _ (items-play ok is k.1 (room - n) (omega arith))))))))

pub record ItemsOk (ok : ℕ → Bool) (is : List Item) : Type 0 where
  pub count : length is ≤ 256
  pub small : 24 + item_bytes is < limit
  pub each : All (ItemOk ok) is

plain-span : (s m : ℕ) → m ≤ 0 → length_of s m ≡ s
unfolding length_of
plain-span s zero h = refl
plain-span s (suc m) h = absurd (omega arith)

pub items-ok : (ok : ℕ → Bool) (room : ℕ) (h : Head) {t : List Event} {is : List Item} → Plays t (items ok room h) is → ItemsOk ok is × (24 + item_bytes is ≡ span h) × (span h ≤ room)
unfolding items items_body ◌>>=◌ ◌>>◌
items-ok ok room h p =
    let a = plays-split (admit room 0 (leb 24) (eqb 0) h) _ p in
    let d = admit-ok room 0 (leb 24) (eqb 0) h a.before in
    let m = counted a.behind in
    let c = checked m.then in
    let q = plays-split (item_list ok m.word (span h - 24)) _ (skipped c.then).then in
    let j = items-each ok m.word (span h - 24) q.before in
    let e = checked q.behind in
    let l : 24 + item_bytes q.value ≡ span h = eqb-true (24 + item_bytes q.value) (span h) e.holds in
    let s : span h ≡ h.size = plain-span h.size h.multiplier d.low in
    rw (traced e.then).value
    (record { count = rw j.0 (leb-true m.word 256 c.holds); small = omega (arith, d.small); each = j.1 }, l, d.room)

pub items-size : (code : ℕ) (is : List Item) → size (record_of (items_head code is) (items_written is)) ≡ 24 + item_bytes is
unfolding items_written size
items-size code is = rw (record-size, item-events-size is) (omega arith)

pub items-plays : (ok : ℕ → Bool) (code : ℕ) (is : List Item) → ItemsOk ok is → (room : ℕ) → 24 + item_bytes is ≤ room →
    Plays (row_of (items_head code is) ∷ items_written is) (items ok room (items_head code is)) is
unfolding items items_body items_written ◌>>=◌ ◌>>◌ length_of
items-plays ok code is k room r =
    plays-bind _ (admit-plays room 0 (leb 24) (eqb 0) (items_head code is) (record { low = omega arith; small = k.small; fits = le-leb 24 (24 + item_bytes is) (omega arith); room = r; serial = refl }))
    (numbers (omega (arith, k.count)) (checks (le-leb (length is) 256 k.count) (skips (zeros-length 4) (zeros-bytes 4)
    (plays-last _ (items-play ok is k.each (24 + item_bytes is - 24) (omega arith))
    (checks (eq-eqb (24 + item_bytes is) (24 + item_bytes is) refl) gives)))))

-- 145

numbers-ok : (w n : ℕ) {t : List Event} {l : List ℕ} → Plays t (number_list w n) l → (length l ≡ n) × All (λ v. v < 256 ^ w) l
unfolding number_list ◌>>=◌
numbers-ok w zero p = let q = traced p in rw q.value (refl, tt)
numbers-ok w (suc n) p =
    let c = counted p in
    let q = plays-split (number_list w n) _ c.then in
    let j = numbers-ok w n q.before in
    rw (traced q.behind).value (ap suc j.0, (c.small, j.1))

numbers-play : (w : ℕ) (l : List ℕ) → All (λ v. v < 256 ^ w) l → Plays (map (numeral w) l) (number_list w (length l)) l
unfolding number_list ◌>>=◌
numbers-play w [] k = gives
numbers-play w (v ∷ l) k = numbers k.0 (plays-give _ (numbers-play w l k.1))

numbers-size : (w : ℕ) (l : List ℕ) → size (map (numeral w) l) ≡ length l * w
unfolding size
numbers-size w [] = omega arith
numbers-size w (v ∷ l) = omega (arith, numbers-size w l)

abbrev pub SamplesOk : ℕ → List Channel → List (List ℕ) → Type 0
SamplesOk t [] [] = Unit {0}
SamplesOk t [] (s ∷ ss) = ⊥
SamplesOk t (c ∷ cs) [] = ⊥
SamplesOk t (c ∷ cs) (s ∷ ss) = (length s ≡ samples_in t c) × All (λ v. v < 256 ^ width c.format) s × SamplesOk t cs ss

samples-ok : (t : ℕ) (cs : List Channel) {u : List Event} {ss : List (List ℕ)} → Plays u (samples t cs) ss → SamplesOk t cs ss
unfolding samples
samples-ok t [] p = let q = traced p in rw q.value tt
samples-ok t (c ∷ cs) p =
    let h = plays-split (number_list (width c.format) (samples_in t c)) _ p in
    let q = plays-split (samples t cs) _ h.behind in
    let j = numbers-ok (width c.format) (samples_in t c) h.before in
    rw (traced q.behind).value (j.0, j.1, samples-ok t cs q.before)

samples-play : (t : ℕ) (cs : List Channel) (ss : List (List ℕ)) → SamplesOk t cs ss → Plays (sample_events cs ss) (samples t cs) ss
unfolding samples sample_events
samples-play t [] [] k = gives
samples-play t [] (s ∷ ss) k = absurd k
samples-play t (c ∷ cs) [] k = absurd k
samples-play t (c ∷ cs) (s ∷ ss) k = rw (← k.0) (plays-bind _ (numbers-play (width c.format) s k.1) (plays-give _ (samples-play t cs ss k.2)))

samples-size : (t : ℕ) (cs : List Channel) (ss : List (List ℕ)) → SamplesOk t cs ss → size (sample_events cs ss) ≡ sample_bytes t cs
unfolding sample_events sample_bytes size
samples-size t [] [] k = refl
samples-size t [] (s ∷ ss) k = absurd k
samples-size t (c ∷ cs) [] k = absurd k
samples-size t (c ∷ cs) (s ∷ ss) k = rw (size-append, numbers-size (width c.format) s, samples-size t cs ss k.2, k.0)

zeros-play : (n : ℕ) → Plays [] (zeros (replicate n 0)) tt
unfolding zeros
zeros-play zero = gives
zeros-play (suc n) = checks refl (zeros-play n)

pub padding-plays : {A : Type 0} (n m : ℕ) → n ≡ m → (a : A) → Plays (zeroes n ∷ []) (padding m >>= λ _. give a) a
unfolding ◌>>=◌ between padding padded maker_code
padding-plays n m e a = reads (zeros-length n ∙ e) (zeros-bytes n) (plays-give (λ _. a) (zeros-play n))

pub record FrameOk (t : ℕ) (cs : List Channel) (f : Frame) : Type 0 where
  pub hour : f.hour ≤ 23
  pub minute : f.minute ≤ 59
  pub second : f.second ≤ 59
  pub samples : SamplesOk t cs f.channels

frame-ok : (label : Label) (n t : ℕ) (cs : List Channel) (room i : ℕ) {u : List Event} {f : Frame} → Plays u (frame label n t cs room i) f → FrameOk t cs f
unfolding frame frame_body ◌>>=◌ ◌>>◌ between padding padded maker_code
frame-ok label n t cs room i p =
    let h = plays-split (head room) _ p in
    let a = plays-split (admit room (most_of label) _ (eqb i) h.value) _ (checked h.behind).then in
    let x = counted a.behind in
    let y = counted (checked x.then).then in
    let z = counted (checked y.then).then in
    let q = plays-split (samples t cs) _ (skipped (checked z.then).then).then in
    let r = taken q.behind in
    let e = plays-split (zeros r.bytes) _ r.then in
    rw (traced e.behind).value (record { hour = leb-true _ _ (checked x.then).holds; minute = leb-true _ _ (checked y.then).holds; second = leb-true _ _ (checked z.then).holds; samples = samples-ok t cs q.before })

pub frame-body-size : (t : ℕ) (cs : List Channel) (f : Frame) → FrameOk t cs f → size (frame_written cs f) ≡ 8 + sample_bytes t cs
unfolding frame_written size
frame-body-size t cs f k = rw (size-append, samples-size t cs f.channels k.samples) (omega arith)

frame-plays : (label : Label) (t : ℕ) (cs : List Channel) (f : Frame) → FrameOk t cs f → (i room : ℕ) → i < 256 ^ 4 → frame_size t cs < limit → frame_size t cs ≤ room →
    Plays (record_of (plain_head (frame_size t cs) 145 i) (frame_written cs f)) (frame label (frame_size t cs) t cs room i) f
unfolding frame frame_body record_of frame_written ◌>>=◌ ◌>>◌ length_of between padding padded maker_code
frame-plays label t cs f k i room b s r =
    let h : Head = plain_head (frame_size t cs) 145 i in
    let n : ℕ = frame_size t cs in
    plays-bind _ (head-plays h (record { size = omega arith; code = omega arith; serial = b; multiplier = omega arith }) room (omega arith))
    (checks refl
    (plays-bind _ (admit-plays room (most_of label) _ (eqb i) h (record { low = omega arith; small = s; fits = and_both (eqb n n) _ (eq-eqb n n refl) (lt-ltb (n - n) 1 (omega arith)); room = r; serial = eq-eqb i i refl }))
    (numbers (omega (arith, k.hour)) (checks (le-leb f.hour 23 k.hour) (numbers (omega (arith, k.minute)) (checks (le-leb f.minute 59 k.minute)
    (numbers (omega (arith, k.second)) (checks (le-leb f.second 59 k.second) (skips refl (omega arith)
    (plays-bind _ (samples-play t cs f.channels k.samples) (padding-plays 0 (n - n) (omega arith) f)))))))))))

-- 140

frames-play : (label : Label) (t : ℕ) (cs : List Channel) (fs : List Frame) → All (FrameOk t cs) fs → (i room : ℕ) → i + length fs ≤ 256 ^ 4 → frame_size t cs < limit → length fs * frame_size t cs ≤ room →
    Plays (frame_events t cs i fs) (series (length fs) i (frame_size t cs) room (frame label (frame_size t cs) t cs)) fs
unfolding frame_events series
frames-play label t cs [] k i room b s r = gives
frames-play label t cs (f ∷ fs) k i room b s r =
    plays-bind _ (frame-plays label t cs f k.0 i room (omega arith) s (omega arith))
    (plays-give _ (frames-play label t cs fs k.1 (suc i) (room - frame_size t cs) (omega arith) s (omega arith)))

frame-events-size : (t : ℕ) (cs : List Channel) (fs : List Frame) → All (FrameOk t cs) fs → (i : ℕ) → size (frame_events t cs i fs) ≡ length fs * frame_size t cs
unfolding frame_events size
frame-events-size t cs [] k i = omega arith
frame-events-size t cs (f ∷ fs) k i =
    rw (size-append (record_of (plain_head (frame_size t cs) 145 i) (frame_written cs f)) (frame_events t cs (suc i) fs), record-size, frame-body-size t cs f k.0, frame-events-size t cs fs k.1 (suc i)) (omega arith)

pub record FramesOk (label : Label) (b : Basic) (own : Bool) (cs : List Channel) (t : ℕ) (fs : List Frame) : Type 0 where
  pub held : own || eqb (length cs) b.channels ≡ true
  pub seconds : between 1 3600 t ≡ true
  pub exact : all (sampled t) cs ≡ true
  pub small : frame_size t cs < limit
  pub count : length fs ≡ b.frames
  pub few : length fs < 256 ^ 4
  pub each : All (FrameOk t cs) fs
  pub total : frames_bytes t cs fs ≤ longest (most_of label)

pub span-most : (s m k : ℕ) → s ≤ most → m ≤ k → length_of s m ≤ longest k
unfolding length_of
span-most s zero k h l = omega (arith, mul-le-mul_right most (at_least k))
  where
    at_least : (k : ℕ) → 1 ≤ max 1 k
    at_least k = omega arith
span-most s (suc m) k h l = omega (arith, mul-le-mul_right (suc m) h, mul-le-mul_left most (below k l))
  where
    below : (k : ℕ) → suc m ≤ k → suc m ≤ max 1 k
    below k l = omega arith

le-most : {s : ℕ} → s < limit → s ≤ most
le-most h = omega arith

below : {a b c : ℕ} → a ≤ b → b < c → a < c
below h k = omega arith

split-mul : (n a d s : ℕ) → s ≡ a + d → n * s ≡ n * a + n * d
split-mul n a d s e = rw e (omega arith)

frames-sum : (n s l x : ℕ) → l ≤ s → 32 + n * s ≤ x → 32 + n * l + (n * (s - l) + (x - (32 + n * s))) ≡ x
frames-sum n s l x h k = omega (arith, split-mul n l (s - l) s (omega arith))

frames-total : (n s l x b : ℕ) → l ≤ s → 32 + n * s ≤ x → x ≤ b → 32 + n * l ≤ b
frames-total n s l x b h k j = omega (arith, mul-le-mul_left n h)

pub frames-ok : {label : Label} (b : Basic) (own : Bool) (cs : List Channel) (back room : ℕ) (h : Head) {u : List Event} {x : Frames} → Plays u (frames label b own cs back room h) x →
    FramesOk label b own cs x.seconds x.frames × (frames_bytes x.seconds cs x.frames + x.padded ≡ span h) × (span h ≤ room)
unfolding frames frames_body ◌>>=◌ ◌>>◌ between padding padded maker_code
frames-ok {label} b own cs back room h p =
    let a = plays-split (admit room (most_of label) (leb 32) (eqb 0) h) _ p in
    let d = admit-ok room (most_of label) (leb 32) (eqb 0) h a.before in
    let o = checked a.behind in
    let t = counted o.then in
    let c₁ = checked t.then in
    let c₂ = checked c₁.then in
    let s = counted c₂.then in
    let c₃ = checked s.then in
    let n = counted c₃.then in
    let c₄ = checked n.then in
    let c₅ = checked c₄.then in
    let q = plays-split (series n.word 1 s.word (span h - 32) (frame label s.word t.word cs)) _ (skipped c₅.then).then in
    let r = taken q.behind in
    let e = plays-split (zeros r.bytes) _ r.then in
    let j = series-ok (FrameOk t.word cs) (frame label s.word t.word cs) (λ room i u f. frame-ok label s.word t.word cs room i) n.word 1 s.word (span h - 32) q.before in
    let l : ℕ = frame_size t.word cs in
    let f₁ = and-true (between l (l + 127) s.word) _ c₃.holds in
    let low : l ≤ s.word = leb-true l s.word (and-true (leb l s.word) _ f₁.0).0 in
    let top : s.word < limit = ltb-true s.word limit f₁.1 in
    let used : 32 + n.word * s.word ≤ span h = leb-true (32 + n.word * s.word) (span h) (and-true (leb (32 + n.word * s.word) (span h)) _ c₅.holds).0 in
    let bound : span h ≤ longest (most_of label) = span-most h.size h.multiplier (most_of label) (le-most d.small) d.low in
    rw (traced e.behind).value (
      record { held = o.holds; seconds = c₁.holds; exact = c₂.holds; small = below low top; count = j.0 ∙ eqb-true n.word b.frames c₄.holds; few = rw j.0 n.small; each = j.1; total = rw j.0 (frames-total n.word s.word l (span h) (longest (most_of label)) low used bound) },
      rw j.0 (frames-sum n.word s.word l (span h) low used),
      d.room,
    )

pub frames-size : {label : Label} (b : Basic) (own : Bool) (cs : List Channel) (t : ℕ) (fs : List Frame) → FramesOk label b own cs t fs → size (record_of (frames_head t cs fs) (frames_written t cs fs)) ≡ span (frames_head t cs fs)
unfolding frames_written size
frames-size b own cs t fs k =
    rw (record-size, size-append, frame-events-size t cs fs k.each 1) (omega (arith, (sized (frames_bytes t cs fs)).serves, zeros-length (span (frames_head t cs fs) - frames_bytes t cs fs)))

pub frames-plays : {label : Label} (b : Basic) (own : Bool) (cs : List Channel) (t : ℕ) (fs : List Frame) → FramesOk label b own cs t fs → (back room : ℕ) → span (frames_head t cs fs) ≤ room →
    Plays (row_of (frames_head t cs fs) ∷ frames_written t cs fs) (frames label b own cs back room (frames_head t cs fs))
    (record { seconds = t; frames = fs; size = frame_size t cs; padded = length fs * (frame_size t cs - frame_size t cs) + (span (frames_head t cs fs) - frames_bytes t cs fs) })
unfolding frames frames_body frames_written ◌>>=◌ ◌>>◌ between padding padded maker_code
frames-plays {label} b own cs t fs k back room r =
    let h : Head = frames_head t cs fs in
    let l : ℕ = frame_size t cs in
    let z = sized (frames_bytes t cs fs) in
    let t₀ : t ≤ 3600 = leb-true t 3600 (and-true (leb 1 t) _ k.seconds).1 in
    let s₀ : l < 256 ^ 4 = omega (arith, k.small) in
    plays-bind _ (admit-plays room (most_of label) (leb 32) (eqb 0) h
    (record { low = served (frames_bytes t cs fs) (most_of label) k.total; small = omega (arith, z.small); fits = le-leb 32 (span h) (omega (arith, z.serves)); room = r; serial = refl }))
    (checks k.held (numbers (omega arith) (checks k.seconds (checks k.exact (numbers s₀
    (checks (and_both (between l (l + 127) l) _ (and_both (leb l l) _ (le-leb l l (omega arith)) (le-leb l (l + 127) (omega arith))) (lt-ltb l limit k.small))
    (numbers k.few (checks (eq-eqb (length fs) b.frames k.count)
    (checks (and_both (leb (frames_bytes t cs fs) (span h)) _ (le-leb (frames_bytes t cs fs) (span h) z.serves) (lt-ltb (span h - frames_bytes t cs fs) (max 1 (multiplier_for (frames_bytes t cs fs))) z.close))
    (skips (zeros-length 4) (zeros-bytes 4)
    (plays-bind _ (frames-play label t cs fs k.each 1 (span h - 32) (omega (arith, k.few)) k.small (omega (arith, z.serves)))
    (padding-plays (span h - frames_bytes t cs fs) (span h - frames_bytes t cs fs) refl _))))))))))))

-- Maker's records, and the head behind them

pub if-true : {A : Type 0} (c : Bool) (x y : Walk A) {t : List Event} {a : A} → c ≡ true → Plays t x a → Plays t (elim c [ true ↦ x | false ↦ y ]) a
if-true true x y h p = p
if-true false x y h p = false-true h

pub if-false : {A : Type 0} (c : Bool) (x y : Walk A) {t : List Event} {a : A} → c ≡ false → Plays t y a → Plays t (elim c [ true ↦ x | false ↦ y ]) a
if-false true x y h p = false-true (sym h)
if-false false x y h p = p

pub if-case : {A P : Type 0} (c : Bool) (x y : Walk A) {t : List Event} {a : A} → Plays t (elim c [ true ↦ x | false ↦ y ]) a → (c ≡ true → Plays t x a → P) → (c ≡ false → Plays t y a → P) → P
if-case true x y p f g = f refl p
if-case false x y p f g = g refl p

pub pick_true : {A : Type 0} (c : Bool) (x y : Walk A) {t : List Event} {a : A} → c ≡ true → Plays t x a → Plays t (pick c x y) a
pick_true true x y h p = p
pick_true false x y h p = false-true h

pub pick-false : {A : Type 0} (c : Bool) (x y : Walk A) {t : List Event} {a : A} → c ≡ false → Plays t y a → Plays t (pick c x y) a
pick-false true x y h p = false-true (sym h)
pick-false false x y h p = p

pub pick-case : {A P : Type 0} (c : Bool) (x y : Walk A) {t : List Event} {a : A} → Plays t (pick c x y) a → (c ≡ true → Plays t x a → P) → (c ≡ false → Plays t y a → P) → P
pick-case true x y p f g = f refl p
pick-case false x y p f g = g refl p

pub record MakerOk (label : Label) (m : Maker) : Type 0 where
  pub head : HeadOk m.head
  pub code : maker_code m.head.code ≡ true
  pub low : m.head.multiplier ≤ most_of label
  pub small : m.head.size < limit
  pub long : 16 ≤ span m.head
  pub width : length m.body ≡ span m.head - 16
  pub bytes : Bytes m.body

pub record NextOk (label : Label) (before : ℕ) (n : Next) : Type 0 where
  pub each : All (MakerOk label) n.makers
  pub left : size (maker_events n.makers) + n.room ≡ before
  pub enough : 16 ≤ n.room

head-room : (room : ℕ) {t : List Event} {h : Head} → Plays t (head room) h → 16 ≤ room
unfolding head ◌>>=◌ ◌>>◌
head-room room p = leb-true 16 room (checked p).holds

pub makers-size : {label : Label} (m : Maker) (ms : List Maker) → MakerOk label m → size (maker_events (m ∷ ms)) ≡ span m.head + size (maker_events ms)
unfolding maker_events record_of size
makers-size m ms k = omega (arith, k.long, k.width)

next-sum : (s x r room : ℕ) → x + r ≡ room - s → s ≤ room → s + x + r ≡ room
next-sum s x r room h k = omega arith

pub next-ok : {label : Label} (fuel room : ℕ) {t : List Event} {n : Next} → Plays t (next label fuel room) n → NextOk label room n
unfolding next maker_events size ◌>>=◌ ◌>>◌ between padding padded maker_code
next-ok {label} zero room p = absurd (traced p).trace
next-ok {label} (suc fuel) room p =
    let h = plays-split (head room) _ p in
    let k = head_ok room h.before in
    pick-case (maker_code h.value.code) _ _ h.behind
    (λ e q.
    let a = plays-split (admit room (most_of label) (leb 16) (λ _. true) h.value) _ q in
    let d = admit-ok room (most_of label) (leb 16) (λ _. true) h.value a.before in
    let r = taken a.behind in
    let b = plays-split (next label fuel (room - span h.value)) _ r.then in
    let j = next-ok fuel (room - span h.value) b.before in
    let m : Maker = record { head = h.value; body = r.bytes } in
    let o : MakerOk label m = record { head = k; code = e; low = d.low; small = d.small; long = leb-true 16 (span h.value) d.fits; width = r.width; bytes = r.small } in
    rw (traced b.behind).value
    (record {
      each = (o, j.each);
      left = ap (λ (x : ℕ). x + b.value.room) (makers-size m b.value.makers o) ∙ next-sum (span h.value) (size (maker_events b.value.makers)) b.value.room room j.left d.room;
      enough = j.enough;
    }))
    (λ e q. rw (traced q).value (record { each = tt; left = zero-add room; enough = head-room room h.before }))

record-plays : {label : Label} (m : Maker) (ms : List Maker) (h : Head) (fuel room : ℕ) (t : List Event) (left : ℕ) → MakerOk label m → 16 ≤ room → span m.head ≤ room →
    Plays t (next label fuel (room - span m.head)) (record { makers = ms; head = h; room = left }) →
    Plays (record_of m.head (piece Text m.body ∷ []) ++ t) (next label (suc fuel) room) (record { makers = m ∷ ms; head = h; room = left })
unfolding next record_of ◌>>=◌ ◌>>◌ between padding padded maker_code
record-plays {label} m ms h fuel room t left k r s p =
    plays-bind _ (head-plays m.head k.head room r) (pick_true (maker_code m.head.code) _ _ k.code
    (plays-bind _ (admit-plays room (most_of label) (leb 16) (λ _. true) m.head (record { low = k.low; small = k.small; fits = le-leb 16 (span m.head) k.long; room = s; serial = refl }))
    (reads k.width k.bytes (plays-give _ p))))

pub next-plays : (label : Label) (ms : List Maker) → All (MakerOk label) ms → (h : Head) → HeadOk h → maker_code h.code ≡ false → (fuel room left : ℕ) → length ms < fuel →
    room ≡ size (maker_events ms) + left → 16 ≤ left → Plays (maker_events ms ++ numerals h) (next label fuel room) (record { makers = ms; head = h; room = left })
unfolding next maker_events size ◌>>=◌ ◌>>◌
next-plays label [] k h o c zero room left f r l = absurd (omega arith)
next-plays label [] k h o c (suc fuel) room left f r l =
    let e : room ≡ left = omega arith in
    rw (← e) (plays-last _ (head-plays h o room (omega arith)) (pick-false (maker_code h.code) _ _ c gives))
next-plays label (m ∷ ms) k h o c zero room left f r l = absurd (omega arith)
next-plays label (m ∷ ms) k h o c (suc fuel) room left f r l =
    let s : room ≡ span m.head + size (maker_events ms) + left = r ∙ ap (λ (x : ℕ). x + left) (makers-size m ms k.0) in
    let g = k.0.long in
    rw (append_assoc (record_of m.head (piece Text m.body ∷ [])) (maker_events ms) (numerals h))
    (record-plays m ms h fuel room (maker_events ms ++ numerals h) left k.0 (omega arith) (omega arith) (next-plays label ms k.1 h o c fuel (room - span m.head) left (omega arith) (omega arith) l))

pub makers-count : (label : Label) (ms : List Maker) → All (MakerOk label) ms → length ms ≤ size (maker_events ms)
unfolding maker_events size
makers-count label [] k = omega arith
makers-count label (m ∷ ms) k = omega (arith, makers-size m ms k.0, k.0.long, makers-count label ms k.1)

-- An event table: the part by itself, and that the version does not ask for one or it is there

pub table-part : (label : Label) (fuel : ℕ) (n : Next) {t : List Event} {x : Part (List Item)} → Plays t (event_table label fuel n) x →
    ((allowed label).eventless || eqb n.head.code 200 ≡ true) × Plays t (part label fuel 200 (items event_code) (some []) n) x
unfolding event_table ◌>>=◌ ◌>>◌
table-part label fuel n p = let c = checked p in (c.holds, c.then)

pub table-plays : (label : Label) (fuel : ℕ) (n : Next) {t : List Event} {x : Part (List Item)} → (allowed label).eventless || eqb n.head.code 200 ≡ true →
    Plays t (part label fuel 200 (items event_code) (some []) n) x → Plays t (event_table label fuel n) x
unfolding event_table ◌>>=◌ ◌>>◌
table-plays label fuel n c p = checks c p
