-- What stands where: a walk inside a walk, found at its own place of the file. What a question about one channel, item, frame or sample rests on.
-- Assumes nothing.
use mathlib.Core.Path.{◌≡◌, refl, sym, ap, ◌∙◌}
use mathlib.Core.Bool.{Bool, ◌&&◌}
use mathlib.Core.List.{List, [], ◌∷◌, ◌++◌, append_assoc, append-nil}
use Prim.Native.Nat.{ℕ, zero, suc, ◌+◌, ◌*◌, ◌-◌, ◌≤◌, ◌<◌}
use native.Mathlib.Nat.{zero-add, add-zero, mul_comm}
use native.Mathlib.Omega.{arith}
use lib.Dec.{leb, eqb}
use borrow.Author.Tests.{leb-true, eqb-true}
use lib.ListN.{length, get_or, take, drop}
use lib.Seq.{drop_at}
use Rattle.words.specs.declared.Order.{Order}
use Rattle.walk.specs.Plays.{Plays, gives, numbers}
use Rattle.walk.specs.Walk.{Padding, Event, numeral, blank, size, render, run, Walk, passed, give, number, read, ◌>>=◌, ◌>>◌}
use Rattle.walk.proofs.Tracing.{render-append}
use Rattle.walk.proofs.Laws.{complete, length-render, size-append, by_parts, skipped, plays-gave, traced, events_of, value_of, checked, counted, taken}
use Rattle.rules.specs.declared.Form.TheVariants as Form
use Rattle.rules.specs.Rules.{most_of, between, padding, padded, maker_code, zeros, series, Head, head, span, admit, exactly, fixed, Basic, Sub, Group, Label, montage_group, Channel, channel_body, channel, channels, montage, Item, item, item_bytes, item_size, item_list, items, width, samples_in, sample_bytes, number_list, samples, Frame, frame, Frames, frames, channels_body, items_body, frame_body, frames_body}
use Rattle.rules.proofs.Renew.{and-true, channel-size, series-ok}
use Rattle.rules.proofs.Cases.{by_form}

-- the walk w gave a, p bytes into the events t
pub record Found {A : Type 0} (t : List Event) (w : Walk A) (a : A) (p : ℕ) : Type 0 where
  pub before : List Event
  pub events : List Event
  pub behind : List Event
  pub split : t ≡ before ++ (events ++ behind)
  pub place : size before ≡ p
  pub plays : Plays events w a

module _ {A : Type 0} {w : Walk A} {a : A} where
  -- at its own place of the file the walk gives what it gave there
  pub found-run : {t : List Event} {p : ℕ} (f : Found t w a p) (o : Order) (s : List ℕ) → s ≡ render o t → run o p (drop p s) w ≡ passed a (render o f.behind) f.events
  found-run {t} {p} f o s e =
      let l : length (render o f.before) ≡ p = length-render o f.before ∙ f.place in
      let q : s ≡ render o f.before ++ (render o f.events ++ render o f.behind) =
      e ∙ ap (render o) f.split ∙ render-append o f.before (f.events ++ f.behind) ∙ ap (λ (x : List ℕ). render o f.before ++ x) (render-append o f.events f.behind) in
      rw (q, drop_at (render o f.before) (render o f.events ++ render o f.behind) p l) (complete f.plays o p (render o f.behind))

  pub found-whole : {t : List Event} → Plays t w a → Found t w a 0
  unfolding size
  found-whole {t} p = record { before = []; events = t; behind = []; split = sym (append-nil t); place = refl; plays = p }

  pub found_first : {t : List Event} (u : List Event) {v : List Event} {p : ℕ} → Found t w a p → t ++ u ≡ v → Found v w a p
  found_first u f e = record {
    before = f.before;
    events = f.events;
    behind = f.behind ++ u;
    split = sym e ∙ ap (λ (x : List Event). x ++ u) f.split ∙ append_assoc f.before (f.events ++ f.behind) u ∙ ap (λ (x : List Event). f.before ++ x) (append_assoc f.events f.behind u);
    place = f.place;
    plays = f.plays;
  }

  pub found-second : (t : List Event) {u v : List Event} {p q : ℕ} → Found u w a p → t ++ u ≡ v → size t + p ≡ q → Found v w a q
  found-second t {u} f e h = record {
    before = t ++ f.before;
    events = f.events;
    behind = f.behind;
    split = sym e ∙ ap (λ (x : List Event). t ++ x) f.split ∙ sym (append_assoc t f.before (f.events ++ f.behind));
    place = size-append t f.before ∙ ap (λ (x : ℕ). size t + x) f.place ∙ h;
    plays = f.plays;
  }

  pub found_at : {t : List Event} {p q : ℕ} → Found t w a p → p ≡ q → Found t w a q
  found_at f e = rw (← e) f

-- lengths

pub head-size : (room : ℕ) {t : List Event} {h : Head} → Plays t (head room) h → size t ≡ 16
unfolding head size ◌>>=◌ ◌>>◌
head-size room p = let q = traced p in rw q.events (omega arith)

pub admit-size : (room most : ℕ) (fits serial : ℕ → Bool) (h : Head) {t : List Event} {u : Unit {0}} → Plays t (admit room most fits serial h) u → size t ≡ 0
unfolding admit size ◌>>=◌ ◌>>◌
admit-size room most fits serial h p = let q = traced p in rw q.events (omega arith)

pub zeros-none : (bs : List ℕ) {t : List Event} {u : Unit {0}} → Plays t (zeros bs) u → size t ≡ 0
unfolding zeros size
zeros-none [] p = let q = traced p in rw q.events
zeros-none (b ∷ bs) p = zeros-none bs (checked p).then

pub join : (t u : List Event) {v : List Event} {m n : ℕ} → t ++ u ≡ v → size t ≡ m → size u ≡ n → size v ≡ m + n
join t u e h k = ap size (sym e) ∙ size-append t u ∙ rw (h, k)

pub fixed-size : {A : Type 0} (n code serial m : ℕ) (body : Walk A) → ((t : List Event) (a : A) → Plays t body a → size t ≡ m) →
    (room : ℕ) {t : List Event} {a : A} → Plays t (fixed (exactly n code serial) body room) a → size t ≡ 16 + m
unfolding fixed ◌>>=◌ ◌>>◌
fixed-size n code serial m body f room p =
    by_parts (head room) _ p λ h a b e h₀ p.
    by_parts (admit room 0 (eqb n) (eqb serial) h) _ (checked p).then λ _ c d e₁ a₀ p.
    join a b e (head-size room h₀) (join c d e₁ (admit-size room 0 (eqb n) (eqb serial) h a₀) (f d _ p) ∙ zero-add m)

pub channel-bytes : (k : Sub) (room i : ℕ) {t : List Event} {c : Channel} → Plays t (channel k room i) c → size t ≡ 256
channel-bytes k room i p = fixed-size 256 k.code i 240 (channel_body k) (λ t c q. channel-size k q) room p

-- one of a series

module _ {A : Type 0} (d : A) (w : ℕ → ℕ → Walk A) (step : ℕ) (f : (room i : ℕ) (t : List Event) (a : A) → Plays t (w room i) a → size t ≡ step) where
  series-zero : (n i room : ℕ) {t : List Event} {l : List A} → Plays t (series (suc n) i step room w) l → Found t (w (room - step * 0) (i + 0)) (get_or l 0 d) (step * 0)
  unfolding series
  series-zero n i room p =
      by_parts (w room i) _ p λ a u v e h₀ p.
      by_parts (series n (suc i) step (room - step) w) _ p λ l x y e₁ q₀ p.
      let z : step * 0 ≡ 0 = omega arith in
      let r : room - 0 ≡ room = omega arith in
      let m : i + 0 ≡ i = omega arith in
      rw (z, r, m, plays-gave p) (found_first v (found-whole h₀) e)

  series-suc : (n i room j : ℕ) → ((t : List Event) (l : List A) → Plays t (series n (suc i) step (room - step) w) l → Found t (w (room - step - step * j) (suc i + j)) (get_or l j d) (step * j)) →
      {t : List Event} {l : List A} → Plays t (series (suc n) i step room w) l → Found t (w (room - step * suc j) (i + suc j)) (get_or l (suc j) d) (step * suc j)
  unfolding series
  series-suc n i room j ih p =
      by_parts (w room i) _ p λ a u v e h₀ p.
      by_parts (series n (suc i) step (room - step) w) _ p λ l x y e₁ q₀ p.
      let r : room - step * suc j ≡ room - step - step * j = omega arith in
      let m : i + suc j ≡ suc i + j = omega arith in
      let g : size u + step * j ≡ step * suc j = rw (f room i u a h₀) (omega arith) in
      rw (r, m, plays-gave p) (found-second u (found_first y (ih x l q₀) e₁) e g)

  pub series-found : (n i room : ℕ) {t : List Event} {l : List A} → Plays t (series n i step room w) l → (j : ℕ) → j < n → Found t (w (room - step * j) (i + j)) (get_or l j d) (step * j)
  series-found zero i room p j k = absurd (omega arith)
  series-found (suc n) i room p zero k = series-zero n i room p
  series-found (suc n) i room p (suc j) k = series-suc n i room j (λ t l q. series-found n (suc i) (room - step) q j (omega arith)) p

series-count : {A : Type 0} (n i step room : ℕ) (w : ℕ → ℕ → Walk A) {t : List Event} {l : List A} → Plays t (series n i step room w) l → length l ≡ n
series-count n i step room w p = (series-ok (λ _. Unit {0}) w (λ _ _ _ _ _. tt) n i step room p).0

-- a channel in a 120, a 320 or a 350, counted from behind its head
pub channel-found : (d : Channel) (g : Group) (room : ℕ) (h : Head) {t : List Event} {cs : List Channel} → Plays t (channels g room h) cs → (j : ℕ) → j < length cs →
    Found t (channel g.sub (span h - 32 - 256 * j) (1 + j)) (get_or cs j d) (16 + 256 * j)
unfolding channels channels_body size ◌>>=◌ ◌>>◌
channel-found d g room h {cs} p j l =
    by_parts (admit room 0 (leb 32) (eqb 0) h) _ p λ _ u v e a₀ p.
    let m = counted p in
    let s = counted (checked (checked (checked m.then).then).then).then in
    let k = skipped (checked s.then).then in
    let f = series-found d (channel g.sub) 256 (λ room i t c. channel-bytes g.sub room i) m.word 1 (span h - 32) k.then j (omega (arith, series-count m.word 1 256 (span h - 32) (channel g.sub) k.then)) in
    let q : numeral 4 m.word ∷ numeral 4 s.word ∷ blank k.bytes ∷ k.others ≡ v =
    sym (m.split ∙ ap (λ (x : List Event). numeral 4 m.word ∷ x) (s.split ∙ ap (λ (x : List Event). numeral 4 s.word ∷ x) k.split)) in
    let z = admit-size room 0 (leb 32) (eqb 0) h a₀ in
    let f₁ : Found v (channel g.sub (span h - 32 - 256 * j) (1 + j)) (get_or cs j d) (16 + 256 * j) = found-second (numeral 4 m.word ∷ numeral 4 s.word ∷ blank k.bytes ∷ []) f q (omega (arith, k.width)) in
    found-second u f₁ e (omega arith)

-- a 350 that is accepted: the file is one of electrodes, and the walk is that over the montage's group
pub montage-is : (label : Label) (es : List Channel) (room : ℕ) (h : Head) {t : List Event} {cs : List Channel} → Plays t (montage label es room h) cs →
    (label.form ≡ Form.Electrodes) × Plays t (channels (montage_group (length es)) room h) cs
unfolding montage
montage-is label es room h {t} {cs} =
    by_form (λ l. Plays t (montage l es room h) cs → (l.form ≡ Form.Electrodes) × Plays t (channels (montage_group (length es)) room h) cs) label (λ p. absurd (traced p).trace) (λ p. (refl, p))

-- an item among items

item-bytes : (ok : ℕ → Bool) (room : ℕ) {t : List Event} {i : Item} → Plays t (item ok room) i → size t ≡ item_size i
unfolding item size ◌>>=◌ ◌>>◌
item-bytes ok room p =
    let q = traced p in
    let s = q.trace.then in
    let k = leb-true 8 s.word (and-true (leb 8 s.word) _ s.then.then.holds).0 in
    let m : size (events_of (item ok room) q.trace) ≡ item_size (value_of (item ok room) q.trace) = omega arith in
    ap size q.events ∙ m ∙ ap (λ (x : Item). item_size x) (sym q.value)

items-zero : (d : Item) (ok : ℕ → Bool) (n room : ℕ) {t : List Event} {is : List Item} → Plays t (item_list ok (suc n) room) is →
    Found t (item ok (room - item_bytes (take 0 is))) (get_or is 0 d) (item_bytes (take 0 is))
unfolding item_list item_bytes
items-zero d ok n room p =
    by_parts (item ok room) _ p λ a u v e h₀ p.
    by_parts (item_list ok n (room - item_size a)) _ p λ l x y e₁ q₀ p.
    let r : room - 0 ≡ room = omega arith in
    rw (plays-gave p, r) (found_first v (found-whole h₀) e)

items-suc : (d : Item) (ok : ℕ → Bool) (n room j : ℕ) →
    ((room : ℕ) (t : List Event) (is : List Item) → Plays t (item_list ok n room) is → Found t (item ok (room - item_bytes (take j is))) (get_or is j d) (item_bytes (take j is))) →
    {t : List Event} {is : List Item} → Plays t (item_list ok (suc n) room) is → Found t (item ok (room - item_bytes (take (suc j) is))) (get_or is (suc j) d) (item_bytes (take (suc j) is))
unfolding item_list item_bytes
items-suc d ok n room j ih p =
    by_parts (item ok room) _ p λ a u v e h₀ p.
    by_parts (item_list ok n (room - item_size a)) _ p λ l x y e₁ q₀ p.
    let r : room - (item_size a + item_bytes (take j l)) ≡ room - item_size a - item_bytes (take j l) = omega arith in
    rw (plays-gave p, r) (found-second u (found_first y (ih (room - item_size a) x l q₀) e₁) e (rw (item-bytes ok room h₀)))

pub items-found : (d : Item) (ok : ℕ → Bool) (n room : ℕ) {t : List Event} {is : List Item} → Plays t (item_list ok n room) is → (j : ℕ) → j < n →
    Found t (item ok (room - item_bytes (take j is))) (get_or is j d) (item_bytes (take j is))
items-found d ok zero room p j k = absurd (omega arith)
items-found d ok (suc n) room p zero k = items-zero d ok n room p
items-found d ok (suc n) room p (suc j) k = items-suc d ok n room j (λ room' t is q. items-found d ok n room' q j (omega arith)) p

items-count : (ok : ℕ → Bool) (n room : ℕ) {t : List Event} {is : List Item} → Plays t (item_list ok n room) is → length is ≡ n
unfolding item_list
items-count ok zero room p = ap length (plays-gave p)
items-count ok (suc n) room p =
    by_parts (item ok room) _ p λ a u v e h₀ p.
    by_parts (item_list ok n (room - item_size a)) _ p λ l x y e₁ q₀ p.
    ap length (plays-gave p) ∙ ap suc (items-count ok n (room - item_size a) q₀)

-- a sample of a channel

pub numbers-found : (w n : ℕ) {t : List Event} {l : List ℕ} → Plays t (number_list w n) l → (j : ℕ) → j < n → Found t (number w give) (get_or l j 0) (w * j)
unfolding number_list size ◌>>=◌
numbers-found w zero p j k = absurd (omega arith)
numbers-found w (suc n) p zero k =
    let c = counted p in
    by_parts (number_list w n) _ c.then λ l u v e q₀ p.
    let z : w * 0 ≡ 0 = omega arith in
    rw (plays-gave p, z) (record { before = []; events = numeral w c.word ∷ []; behind = c.others; split = c.split; place = refl; plays = numbers c.small gives })
numbers-found w (suc n) p (suc j) k =
    let c = counted p in
    by_parts (number_list w n) _ c.then λ l u v e q₀ p.
    rw (plays-gave p) (found-second (numeral w c.word ∷ []) (found_first v (numbers-found w n q₀ j (omega arith)) e) (sym c.split) (omega arith))

pub gave-nothing : {A : Type 0} {t : List Event} {b a : A} → Plays t (give b) a → size t ≡ 0
unfolding size
gave-nothing gives = refl

numbers-bytes : (w n : ℕ) {t : List Event} {l : List ℕ} → Plays t (number_list w n) l → size t ≡ n * w
unfolding number_list size ◌>>=◌
numbers-bytes w zero p = rw (traced p).events (omega arith)
numbers-bytes w (suc n) p =
    let c = counted p in
    by_parts (number_list w n) _ c.then λ l u v e q₀ p.
    rw c.split (omega (arith, join u v e (numbers-bytes w n q₀) (gave-nothing p)))

-- a channel's samples in a frame, counted from the first sample
pub samples-found : (d : Channel) (t : ℕ) (cs : List Channel) {u : List Event} {ss : List (List ℕ)} → Plays u (samples t cs) ss → (j : ℕ) → j < length cs →
    Found u (number_list (width (get_or cs j d).format) (samples_in t (get_or cs j d))) (get_or ss j []) (sample_bytes t (take j cs))
unfolding samples sample_bytes
samples-found d t [] p j k = absurd (omega arith)
samples-found d t (c ∷ cs) p zero k =
    by_parts (number_list (width c.format) (samples_in t c)) _ p λ a u v e h₀ p.
    by_parts (samples t cs) _ p λ l x y e₁ q₀ p.
    rw (plays-gave p) (found_first v (found-whole h₀) e)
samples-found d t (c ∷ cs) p (suc j) k =
    by_parts (number_list (width c.format) (samples_in t c)) _ p λ a u v e h₀ p.
    by_parts (samples t cs) _ p λ l x y e₁ q₀ p.
    rw (plays-gave p) (found-second u (found_first y (samples-found d t cs q₀ j (omega arith)) e₁) e (rw (numbers-bytes (width c.format) (samples_in t c) h₀)))

-- 145

samples-bytes : (t : ℕ) (cs : List Channel) {u : List Event} {ss : List (List ℕ)} → Plays u (samples t cs) ss → size u ≡ sample_bytes t cs
unfolding samples sample_bytes
samples-bytes t [] p = gave-nothing p
samples-bytes t (c ∷ cs) p =
    by_parts (number_list (width c.format) (samples_in t c)) _ p λ a u v e h₀ p.
    by_parts (samples t cs) _ p λ l x y e₁ q₀ p.
    join u v e (numbers-bytes (width c.format) (samples_in t c) h₀) (join x y e₁ (samples-bytes t cs q₀) (gave-nothing p) ∙ add-zero (sample_bytes t cs))

pub record InFrame (n t : ℕ) (cs : List Channel) (u : List Event) (f : Frame) : Type 0 where
  pub samples : Found u (samples t cs) f.channels 24
  pub bytes : size u ≡ 24 + sample_bytes t cs + (n - (24 + sample_bytes t cs))

in_frame : (n t : ℕ) (cs : List Channel) (room : ℕ) (h : Head) {u : List Event} (u₁ v₁ u₂ v₂ : List Event) {w : List Event} {f : Frame} (x y z : ℕ) (bs : List ℕ) → Plays u₁ (head room) h → size u₂ ≡ 0 → u₁ ++ v₁ ≡ u → u₂ ++ v₂ ≡ v₁ →
    length bs ≡ 2 → numeral 2 x ∷ numeral 2 y ∷ numeral 2 z ∷ blank bs ∷ w ≡ v₂ →
    Plays w (samples t cs >>= λ ss. read Padding (n - (24 + sample_bytes t cs)) zeros >>= λ _. give (record { hour = x; minute = y; second = z; channels = ss })) f → InFrame n t cs u f
unfolding size ◌>>=◌
in_frame n t cs room h {u} u₁ v₁ u₂ v₂ {w} {f} x y z bs h₀ a₀ e₁ e₂ l q p =
    by_parts (samples t cs) _ p λ ss a b e s₀ p.
    let r = taken p in
    by_parts (zeros r.bytes) _ r.then λ _ c d e₃ z₀ p.
    let v : f ≡ record { hour = x; minute = y; second = z; channels = ss } = plays-gave p in
    let none : size r.others ≡ 0 = join c d e₃ (zeros-none r.bytes z₀) (gave-nothing p) in
    let sb : size b ≡ n - (24 + sample_bytes t cs) = ap size r.split ∙ omega (arith, r.width) in
    let sw : size w ≡ sample_bytes t cs + (n - (24 + sample_bytes t cs)) = join a b e (samples-bytes t cs s₀) sb in
    let s₂ : size v₂ ≡ 8 + (sample_bytes t cs + (n - (24 + sample_bytes t cs))) = ap size (sym q) ∙ omega arith in
    let s₁ : size v₁ ≡ 0 + (8 + (sample_bytes t cs + (n - (24 + sample_bytes t cs)))) = join u₂ v₂ e₂ a₀ s₂ in
    let s₀₁ : size u ≡ 16 + (0 + (8 + (sample_bytes t cs + (n - (24 + sample_bytes t cs))))) = join u₁ v₁ e₁ (head-size room h₀) s₁ in
    let g : Found w (samples t cs) ss 0 = found_first b (found-whole s₀) e in
    let g₂ : Found v₂ (samples t cs) ss 8 = found-second (numeral 2 x ∷ numeral 2 y ∷ numeral 2 z ∷ blank bs ∷ []) g q (omega arith) in
    let g₁ : Found v₁ (samples t cs) ss 8 = found-second u₂ g₂ e₂ (omega arith) in
    record { samples = rw v (found-second u₁ g₁ e₁ (rw (head-size room h₀))); bytes = omega arith }

pub frame_found : (label : Label) (n t : ℕ) (cs : List Channel) (room i : ℕ) {u : List Event} {f : Frame} → Plays u (frame label n t cs room i) f → InFrame n t cs u f
unfolding frame frame_body size ◌>>=◌ ◌>>◌ between padding padded maker_code
frame_found label n t cs room i p =
    by_parts (head room) _ p λ h u₁ v₁ e₁ h₀ p.
    by_parts (admit room (most_of label) _ (eqb i) h) _ (checked p).then λ _ u₂ v₂ e₂ a₀ p.
    let x = counted p in
    let y = counted (checked x.then).then in
    let z = counted (checked y.then).then in
    let k = skipped (checked z.then).then in
    let q : numeral 2 x.word ∷ numeral 2 y.word ∷ numeral 2 z.word ∷ blank k.bytes ∷ k.others ≡ v₂ = sym (x.split ∙ ap (λ (x₁ : List Event). numeral 2 x.word ∷ x₁)
    (y.split ∙ ap (λ (x₁ : List Event). numeral 2 y.word ∷ x₁) (z.split ∙ ap (λ (x₁ : List Event). numeral 2 z.word ∷ x₁) k.split))) in
    in_frame n t cs room h u₁ v₁ u₂ v₂ x.word y.word z.word k.bytes h₀ (admit-size room (most_of label) _ (eqb i) h a₀) e₁ e₂ k.width q k.then

series-bytes : {A : Type 0} (w : ℕ → ℕ → Walk A) (step : ℕ) → ((room i : ℕ) (t : List Event) (a : A) → Plays t (w room i) a → size t ≡ step) →
    (n i room : ℕ) {t : List Event} {l : List A} → Plays t (series n i step room w) l → size t ≡ step * n
unfolding series
series-bytes w step f zero i room p = gave-nothing p ∙ omega arith
series-bytes w step f (suc n) i room p =
    by_parts (w room i) _ p λ a u v e h₀ p.
    by_parts (series n (suc i) step (room - step) w) _ p λ l x y e₁ q₀ p.
    join u v e (f room i u a h₀) (join x y e₁ (series-bytes w step f n (suc i) (room - step) q₀) (gave-nothing p)) ∙ omega arith

-- 140, 130 and 200: counted from behind the head

pub record InFrames (label : Label) (d : Frame) (cs : List Channel) (h : Head) (u : List Event) (x : Frames) : Type 0 where
  pub low : 24 + sample_bytes x.seconds cs ≤ x.size
  pub bytes : size u + 16 ≡ span h
  pub frame : (j : ℕ) → j < length x.frames → Found u (frame label x.size x.seconds cs (span h - 32 - x.size * j) (1 + j)) (get_or x.frames j d) (16 + x.size * j)

frame-bytes : (label : Label) (n t : ℕ) (cs : List Channel) → 24 + sample_bytes t cs ≤ n → (room i : ℕ) (u : List Event) (f : Frame) → Plays u (frame label n t cs room i) f → size u ≡ n
frame-bytes label n t cs l room i u f p = omega (arith, (frame_found label n t cs room i p).bytes)

-- how far a walk goes behind a piece of n bytes
pub piece-size : (bs : List ℕ) (n a b : ℕ) → length bs ≡ n → a ≡ b → length bs + a ≡ n + b
piece-size bs n a b h k = omega arith

frames-sum : (s n x : ℕ) → 32 + n * s ≤ x → 0 + (4 + (4 + (4 + (4 + (s * n + (x - (32 + n * s) + (0 + 0))))))) + 16 ≡ x
frames-sum s n x h = omega (arith, mul_comm n s)

frames-inside : {label : Label} (d : Frame) (cs : List Channel) (h : Head) (t s n : ℕ) (bs : List ℕ) (u : List Event) {v w : List Event} {x : Frames} (z : ℕ) → 24 + sample_bytes t cs ≤ s → 32 + n * s ≤ span h → length bs ≡ 4 → size u ≡ 0 →
    u ++ (numeral 4 t ∷ numeral 4 s ∷ numeral 4 n ∷ blank bs ∷ w) ≡ v →
    Plays w (series n 1 s (span h - 32) (frame label s t cs) >>= λ fs. read Padding (span h - (32 + n * s)) zeros >>= λ _. give (record { seconds = t; frames = fs; size = s; padded = z })) x → InFrames label d cs h v x
unfolding size ◌>>=◌
frames-inside {label} d cs h t s n bs u {v} {w} {x} z l g k a e p =
    by_parts (series n 1 s (span h - 32) (frame label s t cs)) _ p λ fs b c e₁ s₀ p.
    let r = taken p in
    by_parts (zeros r.bytes) _ r.then λ _ c₁ d₁ e₂ z₀ p.
    let y : x ≡ record { seconds = t; frames = fs; size = s; padded = z } = plays-gave p in
    let m = series-count n 1 s (span h - 32) (frame label s t cs) s₀ in
    let o : size r.others ≡ 0 + 0 = join c₁ d₁ e₂ (zeros-none r.bytes z₀) (gave-nothing p) in
    let sc : size c ≡ span h - (32 + n * s) + (0 + 0) = ap size r.split ∙ piece-size r.bytes (span h - (32 + n * s)) (size r.others) (0 + 0) r.width o in
    let sw : size w ≡ s * n + (span h - (32 + n * s) + (0 + 0)) = join b c e₁ (series-bytes (frame label s t cs) s (frame-bytes label s t cs l) n 1 (span h - 32) s₀) sc in
    let sv : size v ≡ 0 + (4 + (4 + (4 + (4 + (s * n + (span h - (32 + n * s) + (0 + 0))))))) = join u (numeral 4 t ∷ numeral 4 s ∷ numeral 4 n ∷ blank bs ∷ w) e a (rw (sw, k)) in
    rw y (record {
      low = l;
      bytes = rw sv (frames-sum s n (span h) g);
      frame = λ j q. found-second u {u = numeral 4 t ∷ numeral 4 s ∷ numeral 4 n ∷ blank bs ∷ w} {p = 16 + s * j}
          (found-second (numeral 4 t ∷ numeral 4 s ∷ numeral 4 n ∷ blank bs ∷ []) (found_first c (series-found d (frame label s t cs) s (frame-bytes label s t cs l) n 1 (span h - 32) s₀ j (omega arith)) e₁) refl (omega arith)) e (omega arith);
    })

pub frames-found : {label : Label} (d : Frame) (b : Basic) (own : Bool) (cs : List Channel) (back room : ℕ) (h : Head) {u : List Event} {x : Frames} → Plays u (frames label b own cs back room h) x → InFrames label d cs h u x
unfolding frames frames_body ◌>>=◌ ◌>>◌ between padding padded maker_code
frames-found {label} d b own cs back room h p =
    by_parts (admit room (most_of label) (leb 32) (eqb 0) h) _ p λ _ u v e a₀ p.
    let t = counted (checked p).then in
    let s = counted (checked (checked t.then).then).then in
    let c = checked s.then in
    let n = counted c.then in
    let g = checked (checked n.then).then in
    let k = skipped g.then in
    let q : u ++ (numeral 4 t.word ∷ numeral 4 s.word ∷ numeral 4 n.word ∷ blank k.bytes ∷ k.others) ≡ _ = ap (λ (x₁ : List Event). u ++ x₁) (sym (t.split ∙ ap (λ (x₁ : List Event). numeral 4 t.word ∷ x₁)
    (s.split ∙ ap (λ (x₁ : List Event). numeral 4 s.word ∷ x₁) (n.split ∙ ap (λ (x₁ : List Event). numeral 4 n.word ∷ x₁) k.split)))) ∙ e in
    let l : ℕ = 24 + sample_bytes t.word cs in
    let f = and-true (leb l s.word && leb s.word (l + 127)) _ c.holds in
    frames-inside d cs h t.word s.word n.word k.bytes u _ (leb-true l s.word (and-true (leb l s.word) _ f.0).0)
    (leb-true (32 + n.word * s.word) (span h) (and-true (leb (32 + n.word * s.word) (span h)) _ g.holds).0) k.width (admit-size room (most_of label) (leb 32) (eqb 0) h a₀) q k.then

pub items-in : (d : Item) (ok : ℕ → Bool) (room : ℕ) (h : Head) {t : List Event} {is : List Item} → Plays t (items ok room h) is → (j : ℕ) → j < length is →
    Found t (item ok (span h - 24 - item_bytes (take j is))) (get_or is j d) (8 + item_bytes (take j is))
unfolding items items_body size ◌>>=◌ ◌>>◌
items-in d ok room h {is} p j l =
    by_parts (admit room 0 (leb 24) (eqb 0) h) _ p λ _ u v e a₀ p.
    let m = counted p in
    let k = skipped (checked m.then).then in
    by_parts (item_list ok m.word (span h - 24)) _ k.then λ is₁ b c e₁ i₀ p.
    let y : is ≡ is₁ = plays-gave (checked p).then in
    let q : numeral 4 m.word ∷ blank k.bytes ∷ k.others ≡ v = sym (m.split ∙ ap (λ (x : List Event). numeral 4 m.word ∷ x) k.split) in
    let n : length is ≡ m.word = ap length y ∙ items-count ok m.word (span h - 24) i₀ in
    let f : Found b (item ok (span h - 24 - item_bytes (take j is))) (get_or is j d) (item_bytes (take j is)) = rw y (items-found d ok m.word (span h - 24) i₀ j (omega arith)) in
    let g : Found v (item ok (span h - 24 - item_bytes (take j is))) (get_or is j d) (8 + item_bytes (take j is)) =
    found-second (numeral 4 m.word ∷ blank k.bytes ∷ []) (found_first c f e₁) q (omega (arith, k.width)) in
    found-second u g e (omega (arith, admit-size room 0 (leb 24) (eqb 0) h a₀))

-- how long the rest of a record is, behind its head

pub channels-bytes : (g : Group) (room : ℕ) (h : Head) {t : List Event} {cs : List Channel} → Plays t (channels g room h) cs → size t + 16 ≡ span h
unfolding channels channels_body size ◌>>=◌ ◌>>◌
channels-bytes g room h p =
    by_parts (admit room 0 (leb 32) (eqb 0) h) _ p λ _ u v e a₀ p.
    let m = counted p in
    let c = checked (checked (checked m.then).then).then in
    let s = counted c.then in
    let k = skipped (checked s.then).then in
    let n : size k.others ≡ 256 * m.word = series-bytes (channel g.sub) 256 (λ room i t c. channel-bytes g.sub room i) m.word 1 (span h - 32) k.then in
    let q : size v ≡ 16 + 256 * m.word = ap size m.split ∙ ap (λ (x : List Event). 4 + size x) s.split ∙ ap (λ (x : List Event). 4 + (4 + size x)) k.split ∙ omega (arith, k.width) in
    let o : span h ≡ 32 + 256 * m.word = eqb-true (span h) (32 + 256 * m.word) c.holds in
    ap (λ (x : ℕ). x + 16) (join u v e (admit-size room 0 (leb 32) (eqb 0) h a₀) q) ∙ sum m.word (span h) o
  where
    sum : (m s : ℕ) → s ≡ 32 + 256 * m → 0 + (16 + 256 * m) + 16 ≡ s
    sum m s e = omega arith

items-list-bytes : (ok : ℕ → Bool) (n room : ℕ) {t : List Event} {is : List Item} → Plays t (item_list ok n room) is → size t ≡ item_bytes is
unfolding item_list item_bytes
items-list-bytes ok zero room p = gave-nothing p ∙ ap item_bytes (sym (plays-gave p))
items-list-bytes ok (suc n) room p =
    by_parts (item ok room) _ p λ a u v e h₀ p.
    by_parts (item_list ok n (room - item_size a)) _ p λ l x y e₁ q₀ p.
    join u v e (item-bytes ok room h₀) (join x y e₁ (items-list-bytes ok n (room - item_size a) q₀) (gave-nothing p)) ∙ sum (item_size a) (item_bytes l) ∙ ap item_bytes (sym (plays-gave p))
  where
    sum : (a b : ℕ) → a + (b + 0) ≡ a + b
    sum a b = omega arith

pub items-bytes : (ok : ℕ → Bool) (room : ℕ) (h : Head) {t : List Event} {is : List Item} → Plays t (items ok room h) is → size t + 16 ≡ span h
unfolding items items_body size ◌>>=◌ ◌>>◌
items-bytes ok room h p =
    by_parts (admit room 0 (leb 24) (eqb 0) h) _ p λ _ u v e a₀ p.
    let m = counted p in
    let k = skipped (checked m.then).then in
    by_parts (item_list ok m.word (span h - 24)) _ k.then λ is₁ b c e₁ i₀ p.
    let g : 24 + item_bytes is₁ ≡ span h = eqb-true (24 + item_bytes is₁) (span h) (checked p).holds in
    let n : size k.others ≡ item_bytes is₁ + 0 = join b c e₁ (items-list-bytes ok m.word (span h - 24) i₀) (gave-nothing (checked p).then) in
    let q : size v ≡ 8 + item_bytes is₁ = ap size m.split ∙ ap (λ (x : List Event). 4 + size x) k.split ∙ omega (arith, k.width) in
    ap (λ (x : ℕ). x + 16) (join u v e (admit-size room 0 (leb 24) (eqb 0) h a₀) q) ∙ sum (item_bytes is₁) (span h) g
  where
    sum : (m s : ℕ) → 24 + m ≡ s → 0 + (8 + m) + 16 ≡ s
    sum m s e = omega arith
