-- The rules read no byte outside the room that they are given, and refuse by document 01's numbers: shown once for each walk.
-- Assumes nothing.
use mathlib.Core.Path.{◌≡◌, refl, ◌∙◌}
use mathlib.Core.Bool.{Bool, true, false, ◌&&◌}
use mathlib.Core.List.{List, [], ◌∷◌}
use mathlib.Core.Option.{Option, none, some}
use Prim.Native.Nat.{ℕ, zero, suc, ◌+◌, ◌*◌, ◌-◌, ◌≤◌, ◌<◌}
use native.Mathlib.Nat.{suc-mul}
use native.Mathlib.Omega.{arith}
use borrow.Author.Tests.{leb-true, eqb-true}
use lib.Dec.{leb, ltb, eqb}
use lib.ListN.{length}
use Rattle.walk.specs.See.{Stays}
use Rattle.walk.specs.Walk.{Walk, give, ◌>>=◌, ◌>>◌, pick, text, refuse}
use Rattle.walk.proofs.Seen.{stays-bind, stays_then, stays-weaken, and_left, and_right, stays-require}
use Rattle.rules.specs.Rules.{event_table, most_of, items_body, channels_body, frame_body, Head, head, limit, admit, span, coded, exactly, fixed, Basic, basic_body, Label, Sub, Group, channels_group, montage_group, anything, field_if, channel_body, channel, item, item_size, item_bytes, item_list, series, zeros, padding, Channel, width, samples_in, sample_bytes, number_list, samples, frame, Next, channels, montage, frames, frames_body, items, next, pad_ok, maker_code, between, delimiter, part, recording, Held, Part, basic, held_channels, patient_code, held_patient, event_code, file, file_header, recordings, descriptions, recording_body, signals}
use Rattle.rules.proofs.Cases.{by_form}

pub stays-head : (at room : ℕ) → Stays (at + room) at (head room) (λ h e. (e ≡ at + 16) × (16 ≤ room))
unfolding head ◌>>=◌ ◌>>◌
stays-head at room c =
    let h : 16 ≤ room = leb-true 16 room c in
    (omega arith, λ _. (omega arith, λ _. (omega arith, λ _. (omega arith, λ _. (omega arith, h)))))

-- what a head that is admitted says: its record has room
pub stays-admit : (room most : ℕ) (fits serial : ℕ → Bool) (h : Head) (L at : ℕ) → Stays L at (admit room most fits serial h) (λ _ e. (e ≡ at) × (fits (span h) ≡ true) × (span h ≤ room))
unfolding admit ◌>>=◌ ◌>>◌
stays-admit room most fits serial h L at m l s =
    let x : Bool = ltb h.size limit in
    let y : Bool = fits (span h) in
    let z : Bool = leb (span h) room in
    let r : y && z ≡ true = and_right x (y && z) l in
    (refl, and_left y z r, leb-true (span h) room (and_right y z r))

pub stays-basic_body : (at L : ℕ) → at + 112 ≤ L → Stays L at basic_body (λ b e. e ≡ at + 112)
unfolding basic_body ◌>>=◌ ◌>>◌
stays-basic_body at L h = (omega arith, λ _ _. (omega arith, λ _ _. (omega arith, λ _ _. (omega arith, (omega arith, λ _ _. (omega arith, λ _ _. (omega arith, λ _ _. (omega arith, λ _ _. (omega arith, λ _ _. (omega arith, λ _ _. (omega arith, λ _ _. (omega arith, λ _ _. (omega arith, (omega arith, λ _ _. omega arith))))))))))))))

-- a field that only some subs have takes its 4 bytes either way
stays-field_if : {A : Type 0} (c : Bool) (ok : ℕ → Bool) (f : ℕ → Walk A) (L at : ℕ) (Q : A → ℕ → Type 0) → at + 4 ≤ L → ((n : ℕ) → Stays L (at + 4) (f n) Q) → Stays L at (field_if c ok >>= f) Q
unfolding field_if ◌>>=◌
stays-field_if true ok f L at Q h k = (h, λ n _. k n)
stays-field_if false ok f L at Q h k = (h, k 0)

pub stays-channel_body : (k : Sub) (at L : ℕ) → at + 240 ≤ L → Stays L at (channel_body k) (λ b e. e ≡ at + 240)
unfolding channel_body ◌>>=◌ ◌>>◌
stays-channel_body k at L h = (omega arith, λ _ _. (omega arith, λ _. (omega arith, λ _ _. (omega arith, λ _ _. (omega arith, λ _ _. (omega arith, λ _. (omega arith, λ _. (omega arith, λ _. (omega arith, λ _. stays-field_if k.calibrated anything _ _ _ _ (omega arith) λ _. (omega arith, λ _. (omega arith, λ _. stays-field_if k.calibrated anything _ _ _ _ (omega arith) λ _. (omega arith, (omega arith, λ _ _. (omega arith, λ _ _. stays-field_if k.wired k.input _ _ _ _ (omega arith) λ _. stays-field_if k.wired k.input _ _ _ _ (omega arith) λ _. (omega arith, (omega arith, λ _ _. omega arith))))))))))))))))

-- a record: its head, its code, and that it is admitted; then what stands behind the head
stays-record : {A : Type 0} (code most : ℕ) (fits : Head → ℕ → Bool) (serial : ℕ → Bool) (body : Head → Walk A) (R : A → ℕ → Type 0) (at room : ℕ) →
    ((h : Head) → fits h (span h) ≡ true → span h ≤ room → Stays (at + span h) (at + 16) (body h) R) →
    Stays (at + room) at (head room >>= λ h. coded h code >> (admit room most (fits h) serial h >> body h)) R
stays-record code most fits serial body R at room k =
    stays-bind _ _ _ _ _ _ (stays-head at room)
    (λ h e q. stays-require _ 9 12 _ _ _ _ refl
    (λ _. stays_then _ _ _ _ _ _ (stays-admit room most (fits h) serial h (at + room) e)
    (λ _ x v. rw (v.0 ∙ q.0) (stays-weaken (body h) (at + span h) (at + room) (at + 16) R R (omega (arith, v.2)) (λ _ _ r. r) (k h v.1 v.2)))))

-- a record of a fixed size, whose body takes what is behind the head
pub stays-fixed : {A : Type 0} (size code serial : ℕ) (body : Walk A) → ((at : ℕ) → Stays (at + (size - 16)) at body (λ _ e. e ≡ at + (size - 16))) → 16 ≤ size → (at room : ℕ) → Stays (at + room) at (fixed (exactly size code serial) body room) (λ _ e. (e ≡ at + size) × (e ≤ at + room))
unfolding fixed
stays-fixed size code serial body k z at room =
    stays-record code 0 (λ _. eqb size) (eqb serial) (λ _. body) _ at room
    (λ h f l. let n : size ≡ span h = eqb-true size (span h) f in
    stays-weaken body (at + 16 + (size - 16)) (at + span h) (at + 16) _ _ (omega arith) (λ a e q. (omega arith, omega arith)) (k (at + 16)))

pub stays-basic : (at room : ℕ) → Stays (at + room) at (basic room) (λ _ e. (e ≡ at + 128) × (e ≤ at + room))
stays-basic = stays-fixed 128 100 0 basic_body (λ x. stays-basic_body x (x + 112) (omega arith)) (omega arith)

pub stays-channel : (k : Sub) (i at room : ℕ) → Stays (at + room) at (channel k room i) (λ _ e. (e ≡ at + 256) × (e ≤ at + room))
stays-channel k i = stays-fixed 256 k.code i (channel_body k) (λ x. stays-channel_body k x (x + 240) (omega arith)) (omega arith)

pub stays-item : (ok : ℕ → Bool) (room at : ℕ) → Stays (at + room) at (item ok room) (λ i e. (e ≡ at + item_size i) × (e ≤ at + room))
unfolding item ◌>>=◌ ◌>>◌
stays-item ok room at c =
    let h : 8 ≤ room = leb-true 8 room c in (
      omega arith,
      λ size. (
        omega arith,
        λ code k o.
            let r : ltb size limit && leb size room ≡ true = and_right (leb 8 size) (ltb size limit && leb size room) k in
            let l : 8 ≤ size = leb-true 8 size (and_left (leb 8 size) (ltb size limit && leb size room) k) in
            let m : size ≤ room = leb-true size room (and_right (ltb size limit) (leb size room) r) in
            (omega arith, λ bs e. (omega (arith, e), omega arith)),
      ),
    )

pub stays-item_list : (ok : ℕ → Bool) (n room at : ℕ) → Stays (at + room) at (item_list ok n room) (λ is e. (e ≡ at + item_bytes is) × (e ≤ at + room))
unfolding item_list item_bytes
stays-item_list ok zero room at = (omega arith, omega arith)
stays-item_list ok (suc n) room at =
    stays-bind _ _ _ _ _ _ (stays-item ok room at)
    (λ i e q. stays-bind _ _ _ _ _ _
    (stays-weaken (item_list ok n (room - item_size i)) (e + (room - item_size i)) (at + room) e _ (λ is x. (x ≡ e + item_bytes is) × (x ≤ at + room)) (omega (arith, q.0, q.1)) (λ is x r. (r.0, omega (arith, q.0, q.1, r.1))) (stays-item_list ok n (room - item_size i) e))
    (λ is x r. (omega (arith, q.0, r.0), r.1)))

pub stays-items_body : (ok : ℕ → Bool) (n at : ℕ) → 24 ≤ n → Stays (at + (n - 16)) at (items_body ok n) (λ _ e. e ≡ at + (n - 16))
unfolding items_body ◌>>=◌ ◌>>◌
stays-items_body ok n at h = (
  omega arith,
  λ count c. (
    omega arith,
    stays-bind (item_list ok count (n - 24)) _ (at + (n - 16)) (at + 4 + 4) (λ is e. e ≡ at + 8 + item_bytes is) (λ _ e. e ≡ at + (n - 16))
        (stays-weaken (item_list ok count (n - 24)) (at + 4 + 4 + (n - 24)) (at + (n - 16)) (at + 4 + 4) _ _ (omega arith) (λ is e q. omega (arith, q.0)) (stays-item_list ok count (n - 24) (at + 4 + 4)))
        (λ is e q k. let z : 24 + item_bytes is ≡ n = eqb-true (24 + item_bytes is) n k in omega (arith, q, z)),
  ),
)

-- walks of one length, one after the other
pub stays-series : {A : Type 0} (step : ℕ) (w : ℕ → ℕ → Walk A) → ((i at room : ℕ) → Stays (at + room) at (w room i) (λ _ e. (e ≡ at + step) × (e ≤ at + room))) → (n i room L at : ℕ) → n * step ≤ room → at + room ≡ L → Stays L at (series n i step room w) (λ _ e. e ≡ at + n * step)
unfolding series
stays-series step w k zero i room L at h l = omega arith
stays-series step w k (suc n) i room L at h l =
    let d : suc n * step ≡ n * step + step = suc-mul n step in
    stays-bind (w room i) _ L at (λ _ e. (e ≡ at + step) × (e ≤ L)) _ (rw l at (k i at room))
    (λ c e q. stays-bind (series n (suc i) step (room - step) w) _ L e _ _ (stays-series step w k n (suc i) (room - step) L e (omega arith) (omega (arith, q.0)))
    (λ cs x r. omega (arith, q.0, r)))

pub stays-channels : (k : Sub) (n i room at : ℕ) → n * 256 ≤ room → Stays (at + room) at (series n i 256 room (channel k)) (λ _ e. e ≡ at + n * 256)
stays-channels k n i room at h = stays-series 256 (channel k) (stays-channel k) n i room (at + room) at h refl

pub stays-channels_body : (g : Group) (n at : ℕ) → 32 ≤ n → Stays (at + (n - 16)) at (channels_body g n) (λ _ e. e ≡ at + (n - 16))
unfolding channels_body ◌>>=◌ ◌>>◌
stays-channels_body g n at h = (
  omega arith,
  λ m c₁ c₂ c₃.
      let z : n ≡ 32 + 256 * m = eqb-true n (32 + 256 * m) c₃ in (
        omega arith,
        λ _ c₄. (
          omega arith,
          stays-weaken (series m 1 256 (n - 32) (channel g.sub)) (at + 4 + 4 + 8 + (n - 32)) (at + (n - 16)) (at + 4 + 4 + 8) _ _ (omega arith) (λ cs e q. omega (arith, q, z)) (stays-channels g.sub m 1 (n - 32) (at + 4 + 4 + 8) (omega arith)),
        ),
      ),
)

stays-zeros : (L at : ℕ) (bs : List ℕ) → Stays L at (zeros bs) (λ _ e. e ≡ at)
unfolding zeros
stays-zeros L at [] = refl
stays-zeros L at (x ∷ bs) = λ _. stays-zeros L at bs

pub stays-padding : (L at n : ℕ) → at + n ≤ L → Stays L at (padding n) (λ _ e. e ≡ at + n)
unfolding padding
stays-padding L at n h = (h, λ bs e. stays-zeros L (at + n) bs)

stays-numbers : (L w n at : ℕ) → at + n * w ≤ L → Stays L at (number_list w n) (λ _ e. e ≡ at + n * w)
unfolding number_list ◌>>=◌
stays-numbers L w zero at h = omega arith
stays-numbers L w (suc n) at h =
    let d : suc n * w ≡ n * w + w = suc-mul n w in
    (omega arith, λ v. stays-bind (number_list w n) (λ l. give (v ∷ l)) L (at + w) (λ _ e. e ≡ at + w + n * w) (λ _ e. e ≡ at + suc n * w) (stays-numbers L w n (at + w) (omega arith)) (λ l e q. omega arith))

stays-samples : (L t : ℕ) (cs : List Channel) (at : ℕ) → at + sample_bytes t cs ≤ L → Stays L at (samples t cs) (λ _ e. e ≡ at + sample_bytes t cs)
unfolding samples sample_bytes
stays-samples L t [] at h = omega arith
stays-samples L t (c ∷ cs) at h =
    let w : ℕ = width c.format in
    let n : ℕ = samples_in t c in
    stays-bind _ _ _ _ _ _ (stays-numbers L w n at (omega arith)) (λ l e q. stays-bind _ _ _ _ _ _ (stays-samples L t cs e (omega arith)) (λ r x p. omega arith))

pub stays-frame_body : (n t : ℕ) (cs : List Channel) (at : ℕ) → 24 + sample_bytes t cs ≤ n → Stays (at + (n - 16)) at (frame_body n t cs) (λ _ e. e ≡ at + (n - 16))
unfolding frame_body ◌>>=◌ ◌>>◌
stays-frame_body n t cs at h = (
  omega arith,
  λ _ _. (
    omega arith,
    λ _ _. (
      omega arith,
      λ _ _. (
        omega arith,
        stays-bind (samples t cs) _ _ _ _ _ (stays-samples (at + (n - 16)) t cs (at + 2 + 2 + 2 + 2) (omega arith))
            (λ ss e q. stays-bind (padding (n - (24 + sample_bytes t cs))) _ _ _ _ _ (stays-padding (at + (n - 16)) e (n - (24 + sample_bytes t cs)) (omega arith)) (λ _ x r. omega arith)),
      ),
    ),
  ),
)

pub stays-frame : (label : Label) (size t : ℕ) (cs : List Channel) → 24 + sample_bytes t cs ≤ size → (i at room : ℕ) → Stays (at + room) at (frame label size t cs room i) (λ _ e. (e ≡ at + size) × (e ≤ at + room))
unfolding frame
stays-frame label size t cs z i at room =
    stays-record 145 (most_of label) (λ h n. eqb n size && pad_ok h (n - (24 + sample_bytes t cs))) (eqb i) (λ _. frame_body size t cs) _ at room
    (λ h f l. let n : span h ≡ size = eqb-true (span h) size (and_left _ _ f) in
    stays-weaken (frame_body size t cs) (at + 16 + (size - 16)) (at + span h) (at + 16) _ _ (omega arith) (λ a e q. (omega arith, omega arith)) (stays-frame_body size t cs (at + 16) z))

pub stays-frames_body : (label : Label) (b : Basic) (cs : List Channel) (h : Head) (at : ℕ) → 32 ≤ span h → Stays (at + (span h - 16)) at (frames_body label b cs h) (λ _ e. e ≡ at + (span h - 16))
unfolding frames_body between ◌>>=◌ ◌>>◌
stays-frames_body label b cs h at z = (
  omega arith,
  λ t _ _. (
    omega arith,
    λ size c. (
      omega arith,
      λ n _ d.
          let s : 24 + sample_bytes t cs ≤ size = leb-true (24 + sample_bytes t cs) size (and_left _ _ (and_left _ (ltb size limit) c)) in
          let u : 32 + n * size ≤ span h = leb-true (32 + n * size) (span h) (and_left _ _ d) in (
            omega arith,
            stays-bind (series n 1 size (span h - 32) (frame label size t cs)) _ _ _ _ _ (stays-series size (frame label size t cs) (stays-frame label size t cs s) n 1 (span h - 32) (at + (span h - 16)) (at + 4 + 4 + 4 + 4) (omega arith) (omega arith))
                (λ fs e q. stays_then (padding (span h - (32 + n * size))) _ _ _ _ _ (stays-padding (at + (span h - 16)) e (span h - (32 + n * size)) (omega arith)) (λ _ x r. omega arith)),
          ),
    ),
  ),
)

-- the rest of a record whose head is read: it stays in the room, counted from the record's start, and ends where the record ends
abbrev pub Rests : {A : Type 0} → (ℕ → Head → Walk A) → Type 0
Rests body = (room : ℕ) (h : Head) (L at : ℕ) → at + room ≡ L + 16 → Stays L at (body room h) (λ _ e. (16 ≤ span h) × (span h ≤ room) × (e + (room - span h) ≡ L))

stays-rest : {A : Type 0} (low most : ℕ) (body : Head → Walk A) → 16 ≤ low →
    ((h : Head) (at : ℕ) → low ≤ span h → Stays (at + (span h - 16)) at (body h) (λ _ e. e ≡ at + (span h - 16))) →
    Rests (λ room h. admit room most (leb low) (eqb 0) h >> body h)
stays-rest low most body z k room h L at s =
    stays_then _ _ _ _ _ _ (stays-admit room most (leb low) (eqb 0) h L at)
    (λ _ x v.
    let n : low ≤ span h = leb-true low (span h) v.1 in
    stays-weaken (body h) (x + (span h - 16)) L x _ _ (omega (arith, v.0, v.2)) (λ a e q. (omega arith, v.2, omega (arith, v.0, v.2))) (k h x n))

pub stays-channels_rest : (g : Group) → Rests (channels g)
unfolding channels
stays-channels_rest g = stays-rest 32 0 (λ h. channels_body g (span h)) (omega arith) (λ h at. stays-channels_body g (span h) at)

pub stays-montage_rest : (label : Label) (cs : List Channel) → Rests (montage label cs)
unfolding montage
stays-montage_rest label cs = by_form (λ l. Rests (montage l cs)) label (λ room h L at s. tt) (stays-channels_rest (montage_group (length cs)))

pub stays-items_rest : (ok : ℕ → Bool) → Rests (items ok)
unfolding items
stays-items_rest ok = stays-rest 24 0 (λ h. items_body ok (span h)) (omega arith) (λ h at. stays-items_body ok (span h) at)

pub stays-frames_rest : (label : Label) (b : Basic) (own : Bool) (cs : List Channel) (back : ℕ) → Rests (frames label b own cs back)
unfolding frames
stays-frames_rest label b own cs back = stays-rest 32 (most_of label) _ (omega arith) (λ h at z. stays-require _ 14 back (frames_body label b cs h) _ at _ refl (λ _. stays-frames_body label b cs h at z))

stays-pick : {A : Type 0} (c : Bool) (x y : Walk A) (L at : ℕ) (Q : A → ℕ → Type 0) → Stays L at x Q → Stays L at y Q → Stays L at (pick c x y) Q
stays-pick true x y L at Q h k = h
stays-pick false x y L at Q h k = k

-- the walk stands behind the head of a record, whose room is counted from its start to L and is less than the fuel
abbrev pub Behind : ℕ → ℕ → Next → ℕ → Type 0
Behind L fuel n e = (16 ≤ n.room) × (n.room < fuel) × (e + n.room ≡ L + 16)

-- a maker's record takes 16 bytes of the room at least, so the fuel does not end
pub stays-next : (label : Label) (fuel room most L at : ℕ) → room < fuel → room < most → at + room ≡ L → Stays L at (next label fuel room) (Behind L most)
unfolding next
stays-next label zero room most L at f m l = absurd (omega arith)
stays-next label (suc fuel) room most L at f m l =
    stays-bind _ _ _ _ _ _ (rw l at (stays-head at room))
    (λ h e q. stays-pick (maker_code h.code) _ _ _ _ _
    (stays_then _ _ _ _ _ _ (stays-admit room (most_of label) (leb 16) (λ _. true) h L e)
    (λ _ x v.
    let s : 16 ≤ span h = leb-true 16 (span h) v.1 in
    stays-bind (text (span h - 16)) _ _ _ (λ _ y. y ≡ at + span h) _ (omega (arith, q.0, v.0, v.2), λ _ _. omega (arith, q.0, v.0))
    (λ body y u. stays-bind _ _ _ _ _ _ (stays-next label fuel (room - span h) most L y (omega (arith, v.2)) (omega arith) (omega (arith, v.2)))
    (λ n z w. w))))
    (q.1, m, omega (arith, q.0)))

-- a part that is there, or what is held in its place
stays-own : {A : Type 0} (own : Bool) (held : Option A) (n : Next) (w : Walk (Part A)) (fuel L at : ℕ) → Stays L at w (λ p. Behind L fuel p.next) → Behind L fuel n at →
    Stays {A = Part A} L at (elim own [ true ↦ w | false ↦ elim held [ none ↦ refuse 9 12 | some a ↦ give (record { own = false; value = a; next = record { makers = []; head = n.head; room = n.room } }) ] ]) (λ p. Behind L fuel p.next)
stays-own true held n w fuel L at k h = k
stays-own false none n w fuel L at k h = tt
stays-own false (some a) n w fuel L at k h = h

pub stays-part : (label : Label) {A : Type 0} (fuel code : ℕ) (body : ℕ → Head → Walk A) → Rests body → (held : Option A) (n : Next) (L at : ℕ) → Behind L fuel n at → Stays L at (part label fuel code body held n) (λ p. Behind L fuel p.next)
unfolding part
stays-part label fuel code body k held n L at q =
    stays-own (eqb n.head.code code) held n _ fuel L at
    (stays-bind _ _ _ _ _ _ (k n.room n.head L at q.2)
    (λ a e u. stays-bind _ _ _ _ _ _ (stays-next label fuel (n.room - span n.head) fuel L e (omega (arith, q.1)) (omega (arith, q.1)) u.2)
    (λ m x w. w)))
    q

pub stays-table : (label : Label) (fuel : ℕ) (n : Next) (L at : ℕ) → Behind L fuel n at → Stays L at (event_table label fuel n) (λ p. Behind L fuel p.next)
unfolding event_table
stays-table label fuel n L at q = stays-require _ 9 12 (part label fuel 200 (items event_code) (some []) n) L at _ refl (λ _. stays-part label fuel 200 (items event_code) (stays-items_rest event_code) (some []) n L at q)

pub stays-delimiter : (h : Head) (L at : ℕ) → Stays L at (delimiter h) (λ _ e. e ≡ at)
unfolding delimiter ◌>>=◌ ◌>>◌
stays-delimiter h L at = λ _ _ _ _. refl

-- the tables of a recording of n bytes stay in it, and end behind the head of its 140
pub stays-descriptions : (label : Label) (held : Option Held) (n at : ℕ) → Stays (at + (n - 16)) at (descriptions label held n) (λ t e. Behind (at + (n - 16)) n t.montage.next e)
unfolding descriptions
stays-descriptions label held n at =
    let L : ℕ = at + (n - 16) in
    stays-bind _ _ _ _ _ _ (stays-basic at (n - 16))
    (λ b e₁ q₁. stays-bind _ _ _ _ _ _ (stays-next label n (n - 144) n L e₁ (omega (arith, q₁)) (omega (arith, q₁)) (omega (arith, q₁)))
    (λ r e₂ q₂. stays-bind _ _ _ _ _ _ (stays-part label n _ _ (stays-channels_rest (channels_group label b.channels)) (held_channels held) r L e₂ q₂)
    (λ c e₃ q₃. stays-bind _ _ _ _ _ _ (stays-part label n 130 (items patient_code) (stays-items_rest patient_code) (held_patient held) c.next L e₃ q₃)
    (λ p e₄ q₄. stays-bind _ _ _ _ _ _ (stays-table label n p.next L e₄ q₄)
    (λ e e₅ q₅. stays-bind _ _ _ _ _ _ (stays-part label n 350 (montage label c.value) (stays-montage_rest label c.value) (some []) e.next L e₅ q₅)
    (λ m e₆ q₆. q₆))))))

pub stays-recording_body : (label : Label) (held : Option Held) (h : Head) (at : ℕ) → 16 ≤ span h → Stays (at + (span h - 16)) at (recording_body label held h) (λ x e. (x.layout.bytes ≡ span h) × (e ≡ at + (span h - 16)))
unfolding recording_body signals
stays-recording_body label held h at s =
    let L : ℕ = at + (span h - 16) in
    stays-bind _ _ _ _ _ _ (stays-descriptions label held (span h) at)
    (λ t e₁ q₁. stays-require _ 9 12 _ _ _ _ refl
    (λ _. stays-bind _ _ _ _ _ _ (stays-frames_rest label t.basic t.channels.own t.channels.value _ t.montage.next.room t.montage.next.head L e₁ q₁.2)
    (λ f e₂ q₂. stays-bind _ _ _ _ _ _ (stays-next label (span h) (t.montage.next.room - span t.montage.next.head) (span h) L e₂ (omega (arith, q₁.1)) (omega (arith, q₁.1)) q₂.2)
    (λ d e₃ q₃. stays_then _ _ _ _ _ _ (stays-delimiter d.head L e₃)
    (λ _ e₄ q₄. stays-require _ 14 _ _ _ _ _ refl
    (λ _. stays-require _ 10 0 _ _ _ _ refl
    (λ _. stays_then _ _ _ _ _ _ (stays-padding L e₄ (d.room - 16) (omega (arith, q₃.0, q₃.2, q₄)))
    (λ _ x r. (refl, omega (arith, q₃.0, q₃.2, q₄, r))))))))))

pub stays-recording : (label : Label) (held : Option Held) (i at room : ℕ) → Stays (at + room) at (recording label held room i) (λ x e. (e ≡ at + x.layout.bytes) × (x.layout.bytes ≤ room))
unfolding recording
stays-recording label held i at room =
    stays-record 10 (most_of label) (λ _. leb 16) (eqb i) (recording_body label held) _ at room
    (λ h f l.
    let s : 16 ≤ span h = leb-true 16 (span h) f in
    stays-weaken (recording_body label held h) (at + 16 + (span h - 16)) (at + span h) (at + 16) _ _ (omega arith) (λ x e q. (omega (arith, q.0, q.1), omega (arith, q.0))) (stays-recording_body label held h (at + 16) s))

pub stays-recordings : (label : Label) (n : ℕ) (held : Option Held) (room i L at : ℕ) → at + room ≡ L → Stays L at (recordings label n held room i) (λ _ e. e ≤ L)
unfolding recordings
stays-recordings label zero held room i L at l = omega arith
stays-recordings label (suc n) held room i L at l =
    stays-bind _ _ _ _ _ _ (rw l at (stays-recording label held i at room))
    (λ x e q. stays-bind _ _ _ _ _ _ (stays-recordings label n (some (record { channels = x.recording.channels; patient = x.recording.patient })) (room - x.layout.bytes) (suc i) L e (omega (arith, q.0, q.1)))
    (λ _ _ r. r))

pub stays-file_header : (size at : ℕ) → Stays (at + size) at (file_header size) (λ _ e. (e ≡ at + 32) × (32 ≤ size))
unfolding file_header ◌>>=◌ ◌>>◌
stays-file_header size at c =
    let h : 32 ≤ size = leb-true 32 size c in
    (omega arith, λ _ _ _. (omega arith, λ _ _ _. (omega arith, λ _ _ _. (omega arith, λ _ _ _. (omega arith, λ _ _ _. (omega arith, λ _ _ _. (omega arith, λ _ _ _. (omega arith, h))))))))

pub stays-file : (size at : ℕ) → Stays (at + size) at (file size) (λ _ e. e ≤ at + size)
unfolding file
stays-file size at =
    stays-bind _ _ _ _ _ _ (stays-file_header size at)
    (λ f e q. stays-bind _ _ _ _ _ _ (stays-recordings f.heading.label f.count none (size - 32) 1 (at + size) e (omega (arith, q.0, q.1)))
    (λ _ _ r. r))
