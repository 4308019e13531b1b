-- What the scan tells of the recordings is what the version's own tests refuse.
-- Assumes nothing.
use mathlib.Core.Path.{◌≡◌, refl, sym, ap, ◌∙◌}
use mathlib.Core.Bool.{Bool, true, false, ◌||◌}
use mathlib.Core.List.{List, []}
use mathlib.Core.Option.{Option, none, some}
use Prim.Native.Nat.{ℕ, zero, suc, ◌+◌, ◌-◌, ◌≤◌}
use native.Mathlib.Omega.{arith}
use lib.Dec.{leb, eqb}
use borrow.Author.Tests.{leb-true, le-leb, eqb-true, ne_eqb}
use lib.ListN.{length}
use Rattle.walk.specs.Plays.{Plays, gives}
use Rattle.walk.specs.Walk.{Event, size, Walk, give, refuse, ◌>>=◌, ◌>>◌, pick, require, num, reserve}
use Rattle.walk.proofs.Apart.{false-true}
use Rattle.walk.proofs.Laws.{by-check, traced}
use Rattle.walk.proofs.Implied.{Implies, faults, itself}
use Rattle.walk.proofs.Ordered.{Orders, ordered-implies}
use Rattle.walk.proofs.Seen.{and_left}
use Rattle.rules.specs.Rules.{allows, most_of, between, field, Head, head, span, Sub, montage_sub, channels_group, Channel, channel, channels_body, channels, montage, Item, items, patient_code, event_code, Basic, basic, Frame, Frames, frame, frames_body, frames, maker_code, Next, next, Part, part, event_table, Held, held_channels, held_patient, Descriptions, descriptions, delimiter, count_back, Placed, signals, recording_body, recording, recordings, padding, code_back, field_back}
use Rattle.rules.specs.declared.Form.{Form}
use Rattle.rules.specs.declared.Form.TheVariants as Form
use Rattle.rules.specs.declared.Label.{Label}
use Rattle.rules.specs.declared.Version.{Version}
use Rattle.rules.specs.declared.Version.TheVariants as Version
use Rattle.rules.proofs.Silent.{silent-padding, silent-frame_body, silent-items_body}
use Rattle.labels.specs.Breaches.{Before, behind_table, broken, breaches_in}
use Rattle.labels.proofs.Breaches.{steps, or-true, is_sub, Calm, other, Tells, Kept, Any, implies-series, tells-bind, tells-then, tells-weaken, tells-give, tells-require, tells-pick, tells-if, settled, quiet, past-quiet, quiet_then, tells-series}
use Rattle.labels.proofs.Ordered.{newest, spent, ordered-admit, ordered-next, ordered-channel, ordered-electrode, ordered-channels, ordered-frame, ordered-frames, ordered-part, ordered-event_table, ordered-montage, ordered-group, ordered-descriptions, ordered-recording, ordered-recordings}
use Rattle.labels.proofs.Records.{Behind, listing, Plain, past_head, Limits, no-multiplier, tells-admit, tells-behind, tells-plain, tells-basic, tells-montage, tells-channel, tells-electrode}

module _ (w : Version) where
  -- the body of a record that holds subs
  module _ (code : ℕ) (count : ℕ → Bool) (k k' : Sub) (j : (room i : ℕ) → Implies (channel k room i) (channel k' room i))
      (f : (room i : ℕ) (t : List Event) (x : Channel) → Plays t (channel k' room i) x → (S : Before) → Calm S → (at : ℕ) → Tells w false false S at t (channel k room i) (Kept S)) where
    tells-channels_body : (bytes : ℕ) {t : List Event} {x : List Channel} → Plays t (channels_body (record { code = code; counts = count; sub = k' }) bytes) x → (S : Before) → Calm S → (at : ℕ) →
        Tells w false false S at t (channels_body (record { code = code; counts = count; sub = k }) bytes) (Kept S)
    unfolding channels_body
    tells-channels_body bytes p S c at =
        past-quiet w (field (between 1 128)) _ _ S at (Kept S) (λ _. tt) c p λ m u S₁ at₁ c₁ k₁ p.
        tells-require w _ 14 field_back _ _ S₁ at₁ (Kept S) p λ _ p. tells-require w _ 14 field_back _ _ S₁ at₁ (Kept S) p λ _ p.
        past-quiet w (field (eqb 256)) _ _ S₁ at₁ (Kept S) (λ _. tt) c₁ p λ _ u S₂ at₂ c₂ k₂ p.
        quiet_then w (reserve 8) _ _ S₂ at₂ (Kept S) tt c₂ p λ u S₃ at₃ c₃ k₃ p.
        tells-weaken w (Kept S₃) (Kept S) (λ S' q. q ∙ k₃ ∙ k₂ ∙ k₁) (tells-series w (channel k) (channel k') j f m 1 256 (bytes - 32) p S₃ c₃ at₃)

    -- 120 and 320
    tells-channels : Plain code → (room : ℕ) (h : Head) {t : List Event} {x : List Channel} → Plays t (channels (record { code = code; counts = count; sub = k' }) room h) x → h.code ≡ code →
        (S : Before) → Calm S → (at : ℕ) → S.last ≡ h.multiplier → Tells w false false S at t (channels (record { code = code; counts = count; sub = k }) room h) (Kept S)
    unfolding channels
    tells-channels g room h p d S c at e =
        tells-then w _ _ _ _ S at (Kept S) (Kept S) (itself _) p (λ _ t q. tells-plain w room 0 0 _ _ h (no-multiplier w) q S at e (rw d g)) λ u S₁ at₁ c₁ k₁ p.
        tells-weaken w (Kept S₁) (Kept S) (λ S' q. q ∙ k₁) (tells-channels_body (span h) p S₁ c₁ at₁)

  -- 350, with what is due
  tells-montages : (f : Form) (cs : List Channel) (room : ℕ) (h : Head) {t : List Event} {x : List Channel} → Plays t (montage (record { version = Version.V300; form = f }) cs room h) x → h.code ≡ 350 →
      (S : Before) → Calm S → (at : ℕ) → S.last ≡ h.multiplier → Tells w true false S at t (montage (record { version = w; form = f }) cs room h) (λ S'. S'.table ≡ true)
  unfolding montage channels
  tells-montages Form.Channels cs room h p d S c at e = absurd (traced p).trace
  tells-montages Form.Electrodes cs room h p d S c at e =
      tells-then w _ _ _ _ S at (λ S'. S' ≡ listing S h) _ (itself _) p (λ _ t q. tells-behind w room 0 0 _ _ h (no-multiplier w) q S at e (rw d) (rw d)) λ u S₁ at₁ c₁ k₁ p.
      tells-weaken w (Kept S₁) _ (λ S' q. q ∙ ap (λ (x : Before). x.table) k₁ ∙ rw d)
      (tells-channels_body 350 _ (montage_sub (length cs)) (montage_sub (length cs)) (λ _ _. itself _) (λ r i t x q S c at. tells-montage w (length cs) r i q S c at) (span h) p S₁ c₁ at₁)

  -- 130 and 200
  tells-items : (ok : ℕ → Bool) (room : ℕ) (h : Head) {t : List Event} {x : List Item} → Plays t (items ok room h) x → is_sub h.code ≡ false → behind_table h.code ≡ false → (S : Before) (at : ℕ) → S.last ≡ h.multiplier →
      Tells w false false S at t (items ok room h) (λ S'. S'.table ≡ (listing S h).table)
  unfolding items
  tells-items ok room h p d f S at e =
      tells-then w _ _ _ _ S at (λ S'. S' ≡ listing S h) _ (itself _) p (λ _ t q. tells-admit w room 0 0 _ _ h (no-multiplier w) q S at e d f) λ u S₁ at₁ c₁ k₁ p.
      tells-weaken w (Kept S₁) _ (λ S' q. q ∙ ap (λ (x : Before). x.table) k₁) (quiet w p (silent-items_body ok (span h)) S₁ c₁ at₁)

  -- the delimiter
  tells-delimiter : (h : Head) {t : List Event} {x : Unit {0}} → Plays t (delimiter h) x → (S : Before) (at : ℕ) → S.last ≡ h.multiplier → Tells w false false S at t (delimiter h) Any
  unfolding delimiter breaches_in broken steps faults ◌>>=◌ ◌>>◌
  tells-delimiter h p S at e =
      let q = traced p in
      let a = q.trace in
      let m : S.last ≡ 0 = e ∙ eqb-true h.multiplier 0 a.then.holds in
      let z : leb 0 (allows w).multiplier ≡ true = le-leb 0 (allows w).multiplier (omega arith) in
      rw q.events (record { equal = rw (a.holds, a.then.holds, a.then.then.holds, a.then.then.then.holds, m, z); calm = other refl; post = tt })

  module _ (f : Form) where
    abbrev label : Label
    label = record { version = w; form = f }

    limits : Limits w (most_of (newest label)) (most_of label)
    limits m h = refl

    -- 145
    tells-frame : (size s : ℕ) (cs : List Channel) (room i : ℕ) {t : List Event} {x : Frame} → Plays t (frame (newest label) size s cs room i) x → (S : Before) → Calm S → (at : ℕ) → Tells w false false S at t (frame label size s cs room i) (Kept S)
    unfolding frame
    tells-frame n s cs room i p S c at =
        past_head w room _ _ S at (Kept S) c p λ h u S₁ at₁ c₁ k₁ p.
        tells-require w (eqb h.code 145) 9 code_back _ _ S₁ at₁ (Kept S) p λ e p.
        tells-then w _ _ _ _ S₁ at₁ (Kept S₁) (Kept S) (ordered-implies (ordered-admit label 16 room _ _ h (omega arith))) p (λ _ t q. tells-plain w room _ _ _ _ h limits q S₁ at₁ k₁.1 (rw (eqb-true h.code 145 e) ((refl, refl, refl), refl))) λ u S₂ at₂ c₂ k₂ p.
        tells-weaken w (Kept S₂) (Kept S) (λ S' q. q ∙ k₂ ∙ k₁.0) (quiet w p (silent-frame_body n s cs) S₂ c₂ at₂)

    -- makers' records, and the head behind them
    maker-plain : (c : ℕ) → maker_code c ≡ true → Plain c
    unfolding maker_code
    maker-plain c h =
        let k : 1024 ≤ c = leb-true 1024 c (and_left (leb 1024 c) _ h) in
        let a : eqb c 350 ≡ false = ne_eqb c 350 (λ e. omega arith) in
        let b : eqb c 140 ≡ false = ne_eqb c 140 (λ e. omega arith) in
        let d : eqb c 125 ≡ false = ne_eqb c 125 (λ e. omega arith) in
        let g : eqb c 325 ≡ false = ne_eqb c 325 (λ e. omega arith) in
        ((ne_eqb c 10 (λ e. omega arith), rw (a, b), ne_eqb c 200 (λ e. omega arith)), rw (d, g))

    tells-next : (fuel room : ℕ) {t : List Event} {n : Next} → Plays t (next (newest label) fuel room) n → (S : Before) → Calm S → (at : ℕ) → Tells w false false S at t (next label fuel room) (Behind S n.head)
    unfolding next
    tells-next zero room p S c at = absurd (traced p).trace
    tells-next (suc fuel) room {n} p S c at =
        past_head w room _ _ S at (Behind S n.head) c p λ h u S₁ at₁ c₁ k₁ p.
        tells-pick w (maker_code h.code) _ _ _ _ S₁ at₁ (Behind S n.head) p
        (λ e p.
        tells-then w _ _ _ _ S₁ at₁ (Kept S₁) (Behind S n.head) (ordered-implies (ordered-admit label 16 room _ _ h (omega arith))) p (λ _ t q. tells-plain w room _ _ _ _ h limits q S₁ at₁ k₁.1 (maker-plain h.code e)) λ u S₂ at₂ c₂ k₂ p.
        past-quiet w _ _ _ S₂ at₂ (Behind S n.head) (λ _. tt) c₂ p λ bs u S₃ at₃ c₃ k₃ p.
        tells-bind w _ _ _ _ S₃ at₃ (λ m. Behind S₃ m.head) (Behind S n.head) (ordered-implies (ordered-next label 0 fuel (room - span h))) p (λ m t q. tells-next fuel (room - span h) q S₃ c₃ at₃) λ m u S₄ at₄ c₄ k₄ p.
        tells-give w S₄ at₄ (Behind S n.head) c₄ p (λ g. (k₄.0 ∙ k₃ ∙ k₂ ∙ k₁.0, k₄.1 ∙ sym (ap (λ (x : Next). x.head.multiplier) g))))
        (λ e p. tells-give w S₁ at₁ (Behind S n.head) c₁ p (λ g. (k₁.0, k₁.1 ∙ sym (ap (λ (x : Next). x.head.multiplier) g))))

    -- a part that may be absent; what is due before it is due behind it, or it lies behind the place of the event table
    abbrev Parted : {A : Type 0} → Bool → Bool → Before → Part A → Before → Type 0
    Parted c e S x S' = (S'.table ≡ pick c e S.table) × (S'.last ≡ x.next.head.multiplier)

    tells-part : {A : Type 0} (d : Bool) (fuel code : ℕ) (y v : ℕ → Head → Walk A) (held : Option A) (n : Next) (e : Bool) {T : List Event} {x : Part A} → Implies (y n.room n.head) (v n.room n.head) →
        (S : Before) → Calm S → (at : ℕ) → S.last ≡ n.head.multiplier → (d ≡ true → e ≡ true) →
        ((t : List Event) (a : A) → n.head.code ≡ code → Plays t (v n.room n.head) a → Tells w d false S at t (y n.room n.head) (λ S'. S'.table ≡ e)) →
        Plays T (part (newest label) fuel code v held n) x → Tells w d d S at T (part label fuel code y held n) (Parted (eqb n.head.code code) e S x)
    unfolding part
    tells-part {A} d fuel code y v held n e {x} i S c at m r g p =
        tells-if w (eqb n.head.code code) _ _ _ _ S at (Parted (eqb n.head.code code) e S x) p
        (λ h p.
        tells-bind w _ _ _ _ S at (λ _ S'. S'.table ≡ e) (Parted (eqb n.head.code code) e S x) i p (λ a t q. g t a (eqb-true n.head.code code h) q) λ a u S₁ at₁ c₁ k₁ p.
        tells-bind w _ _ _ _ S₁ at₁ (λ m. Behind S₁ m.head) (Parted (eqb n.head.code code) e S x) (ordered-implies (ordered-next label 0 fuel (n.room - span n.head))) p
        (λ m t q. settled w d (Behind S₁ m.head) (λ S' b z. b.0 ∙ k₁ ∙ r z) (tells-next fuel (n.room - span n.head) q S₁ c₁ at₁)) λ m u S₂ at₂ c₂ k₂ p.
        tells-give w S₂ at₂ (Parted (eqb n.head.code code) e S x) c₂ p (λ g. rw (g, h) (k₂.0 ∙ k₁, k₂.1)))
        (λ h p. absent h held p)
      where
        absent : eqb n.head.code code ≡ false → (held : Option A) {T : List Event} {x : Part A} →
            Plays T (elim held [ none ↦ refuse 9 code_back | some a ↦ give (record { own = false; value = a; next = record { makers = []; head = n.head; room = n.room } }) ]) x →
            Tells w d d S at T {A = Part A} (elim held [ none ↦ refuse 9 code_back | some a ↦ give (record { own = false; value = a; next = record { makers = []; head = n.head; room = n.room } }) ]) (Parted (eqb n.head.code code) e S x)
        absent h none p = absurd (traced p).trace
        absent h (some a) {x} p = tells-give w S at (Parted (eqb n.head.code code) e S x) c p (λ g. rw (g, h) (refl, m))

    -- before the place of the event table
    abbrev Passed : {A : Type 0} → Before → Part A → Before → Type 0
    Passed S x S' = (S'.table ≡ S.table) × (S'.last ≡ x.next.head.multiplier)

    pick_same : (c a : Bool) → pick c a a ≡ a
    pick_same true a = refl
    pick_same false a = refl

    tells-early : {A : Type 0} (fuel code : ℕ) (y v : ℕ → Head → Walk A) (held : Option A) (n : Next) {T : List Event} {x : Part A} → Implies (y n.room n.head) (v n.room n.head) →
        (S : Before) → Calm S → (at : ℕ) → S.last ≡ n.head.multiplier →
        ((t : List Event) (a : A) → n.head.code ≡ code → Plays t (v n.room n.head) a → Tells w false false S at t (y n.room n.head) (Kept S)) →
        Plays T (part (newest label) fuel code v held n) x → Tells w false false S at T (part label fuel code y held n) (Passed S x)
    tells-early fuel code y v held n {x} i S c at m g p =
        tells-weaken w (Parted (eqb n.head.code code) S.table S x) (Passed S x) (λ S' q. (q.0 ∙ pick_same (eqb n.head.code code) S.table, q.1))
        (tells-part false fuel code y v held n S.table i S c at m (λ z. false-true z) g p)

    tells-holder : (code : ℕ) (count : ℕ → Bool) (k k' : Sub) → ((room i : ℕ) → Orders 0 (channel k room i) (channel k' room i) 0) →
        ((room i : ℕ) (t : List Event) (x : Channel) → Plays t (channel k' room i) x → (S : Before) → Calm S → (at : ℕ) → Tells w false false S at t (channel k room i) (Kept S)) → Plain code →
        (fuel : ℕ) (held : Option (List Channel)) (n : Next) {T : List Event} {x : Part (List Channel)} → Plays T (part (newest label) fuel code (channels (record { code = code; counts = count; sub = k' })) held n) x →
        (S : Before) → Calm S → (at : ℕ) → S.last ≡ n.head.multiplier → Tells w false false S at T (part label fuel code (channels (record { code = code; counts = count; sub = k })) held n) (Passed S x)
    tells-holder code count k k' o g d fuel held n p S c at m =
        tells-early fuel code _ _ held n (ordered-implies (ordered-channels code count k k' o 16 n.room n.head)) S c at m
        (λ t a e q. tells-channels code count k k' (λ r i. ordered-implies (o r i)) g d n.room n.head q e S c at m) p

    -- 200: where the version demands one and there is none, that is due

    absent-due : {A : Type 0} {T : List Event} {a b : A} → Plays T (give a) b → (S : Before) → Calm S → (at : ℕ) → S.table ≡ false → (Q : Before → Type 0) → (b ≡ a → Q S) →
        Tells w false true S at T (require ((allows w).eventless || false) 9 code_back >> give a) Q
    unfolding breaches_in steps faults size ◌>>=◌ ◌>>◌
    absent-due gives S c at z Q q = let y : at + 0 ≡ at = omega arith in record { equal = rw (y, z); calm = c; post = q refl }

    require-pass : {A : Type 0} {d d' : Bool} (c : Bool) (n q : ℕ) (x : Walk A) {S : Before} {at : ℕ} {T : List Event} (Q : Before → Type 0) → c ≡ true → Tells w d d' S at T x Q → Tells w d d' S at T (require c n q >> x) Q
    unfolding faults ◌>>=◌ ◌>>◌
    require-pass c n q x Q e y = record { equal = rw e y.equal; calm = y.calm; post = y.post }

    part-gone : {A : Type 0} (l : Label) (fuel code : ℕ) (v : ℕ → Head → Walk A) (a : A) (n : Next) → eqb n.head.code code ≡ false →
        part l fuel code v (some a) n ≡ give (record { own = false; value = a; next = record { makers = []; head = n.head; room = n.room } })
    unfolding part
    part-gone l fuel code v a n e = rw (part, e)

    tells-events : (fuel : ℕ) (n : Next) {T : List Event} {x : Part (List Item)} → Plays T (part (newest label) fuel 200 (items event_code) (some []) n) x → (S : Before) → Calm S → (at : ℕ) → S.last ≡ n.head.multiplier → S.table ≡ false →
        (c : Bool) → eqb n.head.code 200 ≡ c → Tells w false true S at T (require ((allows w).eventless || c) 9 code_back >> part label fuel 200 (items event_code) (some []) n) (λ S'. S'.last ≡ x.next.head.multiplier)
    tells-events fuel n {x} p S s at m z true e =
        require-pass ((allows w).eventless || true) 9 code_back _ _ (or-true (allows w).eventless)
        (tells-weaken w (Parted (eqb n.head.code 200) true S x) _ (λ S' q. q.1)
        (settled w true (Parted (eqb n.head.code 200) true S x) (λ S' q _. q.0 ∙ rw e)
        (tells-part false fuel 200 (items event_code) (items event_code) (some []) n true (itself _) S s at m (λ y. false-true y)
        (λ t a d q. tells-weaken w _ _ (λ S' r. r ∙ rw d) (tells-items event_code n.room n.head q (rw d) (rw d) S at m)) p)))
    tells-events fuel n {T} {x} p S s at m z false e =
        rw (part-gone label fuel 200 (items event_code) [] n e) (absent-due (rw (part-gone (newest label) fuel 200 (items event_code) [] n e) at p) S s at z (λ S'. S'.last ≡ x.next.head.multiplier) (λ g. rw g m))

    tells-event_table : (fuel : ℕ) (n : Next) {T : List Event} {x : Part (List Item)} → Plays T (event_table (newest label) fuel n) x → (S : Before) → Calm S → (at : ℕ) → S.last ≡ n.head.multiplier → S.table ≡ false →
        Tells w false true S at T (event_table label fuel n) (λ S'. S'.last ≡ x.next.head.multiplier)
    unfolding event_table ◌>>=◌ ◌>>◌
    tells-event_table fuel n p S s at m z = by-check p λ _ p. tells-events fuel n p S s at m z (eqb n.head.code 200) refl

    -- 140, with what is due

    tells-frames_body : (b : Basic) (cs : List Channel) (h : Head) {t : List Event} {x : Frames} → Plays t (frames_body (newest label) b cs h) x → (S : Before) → Calm S → (at : ℕ) → Tells w false false S at t (frames_body label b cs h) Any
    unfolding frames_body
    tells-frames_body b cs h p S c at =
        past-quiet w (field (between 1 3600)) _ _ S at Any (λ _. tt) c p λ s u S₁ at₁ c₁ _ p. tells-require w _ 14 field_back _ _ S₁ at₁ Any p λ _ p.
        past-quiet w (num 4) _ _ S₁ at₁ Any (λ _. tt) c₁ p λ n u S₂ at₂ c₂ _ p. tells-require w _ 14 field_back _ _ S₂ at₂ Any p λ _ p.
        past-quiet w (num 4) _ _ S₂ at₂ Any (λ _. tt) c₂ p λ m u S₃ at₃ c₃ _ p. tells-require w _ 14 field_back _ _ S₃ at₃ Any p λ _ p. tells-require w _ 14 field_back _ _ S₃ at₃ Any p λ _ p.
        quiet_then w (reserve 4) _ _ S₃ at₃ Any tt c₃ p λ u S₄ at₄ c₄ _ p.
        let j : (room i : ℕ) → Implies (frame label n s cs room i) (frame (newest label) n s cs room i) = λ room i. ordered-implies (ordered-frame label n s cs room i) in
        tells-bind w _ _ _ _ S₄ at₄ (λ _. Kept S₄) Any (implies-series _ _ j m 1 n (span h - 32)) p
        (λ _ t q. tells-series w _ _ j (λ r i t x q S c at. tells-frame n s cs r i q S c at) m 1 n (span h - 32) q S₄ c₄ at₄) λ _ u S₅ at₅ c₅ _ p.
        quiet_then w (padding _) _ _ S₅ at₅ Any (silent-padding _) c₅ p λ u S₆ at₆ c₆ _ p. tells-give w S₆ at₆ Any c₆ p (λ _. tt)

    tells-frames : (b : Basic) (own : Bool) (cs : List Channel) (back room : ℕ) (h : Head) {t : List Event} {x : Frames} → Plays t (frames (newest label) b own cs back room h) x → h.code ≡ 140 → (S : Before) (at : ℕ) → S.last ≡ h.multiplier →
        Tells w true false S at t (frames label b own cs back room h) Any
    unfolding frames
    tells-frames b own cs back room h p d S at e =
        tells-then w _ _ _ _ S at (λ S'. S' ≡ listing S h) Any (ordered-implies (ordered-admit label 16 room _ _ h (omega arith))) p (λ _ t q. tells-behind w room _ _ _ _ h limits q S at e (rw d) (rw d)) λ u S₁ at₁ c₁ _ p.
        tells-require w _ 14 back _ _ S₁ at₁ Any p λ _ p. tells-frames_body b cs h p S₁ c₁ at₁

    tells-signals : (t : Descriptions) (h : Head) {T : List Event} {x : Placed} → Plays T (signals (newest label) t h) x → (S : Before) (at : ℕ) → S.last ≡ t.montage.next.head.multiplier → Tells w true false S at T (signals label t h) Any
    unfolding signals
    tells-signals t h p S at m =
        let n : Next = t.montage.next in
        tells-require w (eqb n.head.code 140) 9 code_back _ _ S at Any p λ e p.
        tells-bind w _ _ _ _ S at (λ _. Any) Any (ordered-implies (ordered-frames label t.basic t.channels.own t.channels.value (count_back (span h) n.room) 16 n.room n.head (omega arith))) p
        (λ _ u q. tells-frames t.basic t.channels.own t.channels.value (count_back (span h) n.room) n.room n.head q (eqb-true n.head.code 140 e) S at m) λ f u S₁ at₁ c₁ _ p.
        tells-bind w _ _ _ _ S₁ at₁ (λ d. Behind S₁ d.head) Any (ordered-implies (ordered-next label 0 (span h) (n.room - span n.head))) p (λ d u q. tells-next (span h) (n.room - span n.head) q S₁ c₁ at₁) λ d u S₂ at₂ c₂ k₂ p.
        tells-then w _ _ _ _ S₂ at₂ Any Any (itself _) p (λ _ u q. tells-delimiter d.head q S₂ at₂ k₂.1) λ u S₃ at₃ c₃ _ p.
        tells-require w _ 14 _ _ _ S₃ at₃ Any p λ _ p. tells-require w _ 10 0 _ _ S₃ at₃ Any p λ _ p.
        quiet_then w (padding _) _ _ S₃ at₃ Any (silent-padding _) c₃ p λ u S₄ at₄ c₄ _ p. tells-give w S₄ at₄ Any c₄ p (λ _. tt)

  -- 120 or 320
  tells-group : (f : Form) (count fuel : ℕ) (held : Option (List Channel)) (n : Next) {T : List Event} {x : Part (List Channel)} →
      Plays T (part (newest (label f)) fuel (channels_group (newest (label f)) count).code (channels (channels_group (newest (label f)) count)) held n) x → (S : Before) → Calm S → (at : ℕ) → S.last ≡ n.head.multiplier →
      Tells w false false S at T (part (label f) fuel (channels_group (label f) count).code (channels (channels_group (label f) count)) held n) (Passed f S x)
  unfolding channels_group
  tells-group Form.Channels count fuel held n p S c at m = tells-holder Form.Channels 120 _ _ _ (ordered-channel w) (λ r i t x q S c at. tells-channel w r i q S c at) ((refl, refl, refl), refl) fuel held n p S c at m
  tells-group Form.Electrodes count fuel held n p S c at m = tells-holder Form.Electrodes 320 _ _ _ (ordered-electrode w) (λ r i t x q S c at. tells-electrode w r i q S c at) ((refl, refl, refl), refl) fuel held n p S c at m

  module _ (f : Form) where
    tells-descriptions : (held : Option Held) (bytes : ℕ) {T : List Event} {x : Descriptions} → Plays T (descriptions (newest (label f)) held bytes) x → (S : Before) → Calm S → (at : ℕ) → S.table ≡ false →
        Tells w false true S at T (descriptions (label f) held bytes) (λ S'. S'.last ≡ x.montage.next.head.multiplier)
    unfolding descriptions
    tells-descriptions held bytes p S c at z =
        tells-bind w _ _ _ _ S at (λ _. Kept S) _ (itself _) p (λ _ t q. tells-basic w (bytes - 16) q S c at) λ b u S₁ at₁ c₁ k₁ p.
        tells-bind w _ _ _ _ S₁ at₁ (λ n. Behind S₁ n.head) _ (ordered-implies (ordered-next (label f) 0 bytes (bytes - 144))) p (λ n t q. tells-next f bytes (bytes - 144) q S₁ c₁ at₁) λ n u S₂ at₂ c₂ k₂ p.
        tells-bind w _ _ _ _ S₂ at₂ (λ x. Passed f S₂ x) _ (ordered-implies (ordered-group (label f) b.channels bytes (held_channels held) n)) p
        (λ _ t q. tells-group f b.channels bytes (held_channels held) n q S₂ c₂ at₂ k₂.1) λ x u S₃ at₃ c₃ k₃ p.
        tells-bind w _ _ _ _ S₃ at₃ (λ y. Passed f S₃ y) _ (ordered-implies (ordered-part (label f) 16 bytes 130 (items patient_code) (items patient_code) (held_patient held) x.next (omega arith) (λ _ _. spent))) p
        (λ _ t q. tells-early f bytes 130 (items patient_code) (items patient_code) (held_patient held) x.next (itself _) S₃ c₃ at₃ k₃.1
        (λ t a d q. tells-weaken w _ _ (λ S' r. r ∙ rw d) (tells-items patient_code x.next.room x.next.head q (rw d) (rw d) S₃ at₃ k₃.1)) q) λ y u S₄ at₄ c₄ k₄ p.
        tells-bind w _ _ _ _ S₄ at₄ (λ e S'. S'.last ≡ e.next.head.multiplier) _ (ordered-implies (ordered-event_table (label f) bytes y.next)) p
        (λ _ t q. tells-event_table f bytes y.next q S₄ c₄ at₄ k₄.1 (k₄.0 ∙ k₃.0 ∙ k₂.0 ∙ k₁ ∙ z)) λ e u S₅ at₅ c₅ k₅ p.
        tells-bind w _ _ _ _ S₅ at₅ (λ m. Parted f (eqb e.next.head.code 350) true S₅ m) _ (ordered-implies (ordered-part (label f) 16 bytes 350 _ _ (some []) e.next (omega arith) (ordered-montage (label f) x.value 16))) p
        (λ _ t q. tells-part f true bytes 350 _ _ (some []) e.next true (ordered-implies (ordered-montage (label f) x.value 16 e.next.room e.next.head)) S₅ c₅ at₅ k₅ (λ _. refl)
        (λ t a d q. tells-montages f x.value e.next.room e.next.head q d S₅ c₅ at₅ k₅) q) λ m u S₆ at₆ c₆ k₆ p.
        tells-give w S₆ at₆ _ c₆ p (λ g. rw g k₆.1)

    tells-recording : (held : Option Held) (room i : ℕ) {T : List Event} {x : Placed} → Plays T (recording (newest (label f)) held room i) x → (S : Before) → Calm S → (at : ℕ) → Tells w false false S at T (recording (label f) held room i) Any
    unfolding recording recording_body
    tells-recording held room i p S c at =
        past_head w room _ _ S at Any c p λ h u S₁ at₁ c₁ k₁ p.
        tells-require w (eqb h.code 10) 9 code_back _ _ S₁ at₁ Any p λ e p.
        let d : h.code ≡ 10 = eqb-true h.code 10 e in
        tells-then w _ _ _ _ S₁ at₁ (λ S'. S'.table ≡ false) Any (ordered-implies (ordered-admit (label f) 16 room _ _ h (omega arith))) p
        (λ _ t q. tells-weaken w _ _ (λ S' r. ap (λ (x : Before). x.table) r ∙ rw d) (tells-admit w room _ _ _ _ h (limits f) q S₁ at₁ k₁.1 (rw d) (rw d))) λ u S₂ at₂ c₂ k₂ p.
        tells-bind w _ _ _ _ S₂ at₂ (λ t S'. S'.last ≡ t.montage.next.head.multiplier) Any (ordered-implies (ordered-descriptions (label f) held (span h))) p
        (λ _ t q. tells-descriptions held (span h) q S₂ c₂ at₂ k₂) λ t u S₃ at₃ c₃ k₃ p. tells-signals f t h p S₃ at₃ k₃

    pub tells-recordings : (n : ℕ) (held : Option Held) (room i : ℕ) {T : List Event} {xs : List Placed} → Plays T (recordings (newest (label f)) n held room i) xs → (S : Before) → Calm S → (at : ℕ) → Tells w false false S at T (recordings (label f) n held room i) Any
    unfolding recordings
    tells-recordings zero held room i p S c at = tells-give w S at Any c p (λ _. tt)
    tells-recordings (suc n) held room i p S c at =
        tells-bind w _ _ _ _ S at (λ _. Any) Any (ordered-implies (ordered-recording (label f) held room i)) p (λ _ t q. tells-recording held room i q S c at) λ r u S₁ at₁ c₁ _ p.
        tells-bind w _ _ _ _ S₁ at₁ (λ _. Any) Any (ordered-implies (ordered-recordings (label f) n _ _ (suc i))) p (λ _ t q. tells-recordings n _ _ (suc i) q S₁ c₁ at₁) λ _ u S₂ at₂ c₂ _ p.
        tells-give w S₂ at₂ Any c₂ p (λ _. tt)
