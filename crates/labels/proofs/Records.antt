-- What the scan tells of each kind of record is what the version's own tests refuse.
-- Assumes nothing.
use mathlib.Core.Path.{◌≡◌, refl, sym, ap, ◌∙◌}
use mathlib.Core.Bool.{Bool, true, false, ◌&&◌, ◌||◌, not}
use mathlib.Core.List.{List, [], ◌∷◌, ◌++◌, append-nil}
use Prim.Native.Nat.{ℕ, ◌+◌, ◌-◌, ◌≤◌}
use native.Mathlib.Omega.{arith}
use lib.Dec.{leb, eqb}
use borrow.Author.Tests.{leb-true, le-leb, eqb-true}
use Rattle.walk.specs.Faults.{Fault}
use Rattle.walk.specs.Plays.{Plays, numbers}
use Rattle.walk.specs.Walk.{Event, numeral, row, size, Walk, check, number, ◌>>=◌, ◌>>◌, pick}
use Rattle.walk.proofs.Apart.{false-true}
use Rattle.walk.proofs.Laws.{by-check, traced}
use Rattle.walk.proofs.Implied.{faults, itself}
use Rattle.walk.proofs.Told.{Silent}
use Rattle.rules.specs.Rules.{allows, between, Head, head, span, admit, exactly, fixed, Basic, basic, basic_body, is_type, Sub, channel_sub, electrode_sub, montage_sub, channel_body, Channel, channel, code_back}
use Rattle.rules.specs.declared.Version.{Version}
use Rattle.rules.specs.declared.Version.TheVariants as Version
use Rattle.rules.proofs.Renew.{and-true}
use Rattle.rules.proofs.Silent.{silent-head, silent-basic_body, silent-channel_body}
use Rattle.labels.specs.Breaches.{Before, behind_table, step, unless, broken, breaches_in}
use Rattle.labels.proofs.Breaches.{steps, is_sub, Calm, other, later, Tells, Kept, tells-bind, tells-then, tells-raw, tells-weaken, told, tells-require, quiet}
use Rattle.labels.proofs.Ordered.{tested}

-- a head: its multiplier is the last number

head-last : (room : ℕ) {t : List Event} {h : Head} (S : Before) → Plays t (head room) h → (steps S t).last ≡ h.multiplier
unfolding head steps ◌>>=◌ ◌>>◌
head-last room S p = let q = traced p in ap (λ (u : List Event). (steps S u).last) q.events ∙ sym (ap (λ (x : Head). x.multiplier) q.value)

-- behind a head
abbrev pub Behind : Before → Head → Before → Type 0
Behind S h S' = (S'.table ≡ S.table) × (S'.last ≡ h.multiplier)

-- what is listed
abbrev pub listing : Before → Head → Before
listing S h = step S (row 16 (span h) h.code h.serial)

-- a record that neither begins a recording nor lies at the place of its event table or behind it; and one without a type or a format
abbrev pub Inner : ℕ → Type 0
Inner c = (eqb c 10 ≡ false) × (behind_table c ≡ false) × (eqb c 200 ≡ false)

abbrev pub Plain : ℕ → Type 0
Plain c = Inner c × (is_sub c ≡ false)

inner-kept : (S : Before) (h : Head) → Inner h.code → (listing S h).table ≡ S.table
inner-kept S h c = rw (c.0, c.1, c.2)

-- a test and what the scan asks, where 000300 passes

narrowed : (a b c e : Bool) → (b ≡ true → a || e ≡ false) → (a || (true && b)) || e ≡ true → (a || (c && b)) || e ≡ c || not b
narrowed true true c e f h = false-true (sym (f refl))
narrowed false true true true f h = refl
narrowed false true true false f h = refl
narrowed false true false true f h = false-true (sym (f refl))
narrowed false true false false f h = refl
narrowed true false true e f h = refl
narrowed true false false e f h = refl
narrowed false false true e f h = h
narrowed false false false e f h = h

or-false : (a : Bool) → a || false ≡ a
or-false true = refl
or-false false = refl

pub narrowed-two : (a b c : Bool) → (b ≡ true → a ≡ false) → a || (true && b) ≡ true → a || (c && b) ≡ c || not b
narrowed-two a b c f h = sym (or-false (a || (c && b))) ∙ narrowed a b c false (λ e. or-false a ∙ f e) (or-false (a || b) ∙ h)

by-counted : {A C : Type 0} {n : ℕ} {t : List Event} {g : ℕ → Walk A} {a : A} → Plays t (number n g) a → ((v : ℕ) (u : List Event) → t ≡ numeral n v ∷ u → Plays u (g v) a → C) → C
by-counted (numbers {v} {t} l p) f = f v t refl p

module _ (w : Version) where
  type-asked : (t : ℕ) → is_type Version.V300 t ≡ true → is_type w t ≡ (allows w).twenty || not (eqb t 20)
  unfolding is_type allows
  type-asked t h = narrowed-two (leb t 18) (eqb t 20) (allows w).twenty (λ e. rw (eqb-true t 20 e)) h

  electrode-asked : (t : ℕ) → is_type Version.V300 t || eqb t 101 ≡ true → is_type w t || eqb t 101 ≡ (allows w).twenty || not (eqb t 20)
  unfolding is_type allows
  electrode-asked t h = narrowed (leb t 18) (eqb t 20) (allows w).twenty (eqb t 101) (λ e. rw (eqb-true t 20 e)) h

  format-asked : (f : ℕ) → between 1 (allows Version.V300).format f ≡ true → between 1 (allows w).format f ≡ leb f (allows w).format
  unfolding between
  format-asked f h = rw (and-true (leb 1 f) _ h).0

  tells-head : (room : ℕ) {t : List Event} {h : Head} → Plays t (head room) h → (S : Before) → Calm S → (at : ℕ) → Tells w false false S at t (head room) (Behind S h)
  tells-head room p S c at =
      let q = quiet w p (silent-head room) S c at in
      record { equal = q.equal; calm = q.calm; post = (q.post, head-last room S p) }

  pub past_head : {A : Type 0} {T : List Event} (room : ℕ) (k g : Head → Walk A) {b : A} (S : Before) (at : ℕ) (Q : Before → Type 0) → Calm S → Plays T (head room >>= g) b →
      ((h : Head) (u : List Event) (S' : Before) (at' : ℕ) → Calm S' → Behind S h S' → Plays u (g h) b → Tells w false false S' at' u (k h) Q) → Tells w false false S at T (head room >>= k) Q
  past_head room k g S at Q c p f = tells-bind w (head room) (head room) k g S at (λ h. Behind S h) Q (itself _) p (λ a t q. tells-head room q S c at) f

  -- what a version's test of the multiplier says, where the wider one passes: the version's own limit, or none
  abbrev pub Limits : ℕ → ℕ → Type 0
  Limits most least = (m : ℕ) → leb m most ≡ true → leb m (allows w).multiplier ≡ leb m least

  pub no-multiplier : Limits 0 0
  no-multiplier m h = le-leb m (allows w).multiplier (omega (arith, leb-true m 0 h)) ∙ sym h

  -- a head that the wider walk admits
  admit-broken : (room most least : ℕ) (fits serial : ℕ → Bool) (h : Head) → Limits most least → {t : List Event} {x : Unit {0}} → Plays t (admit room most fits serial h) x → (S : Before) (at : ℕ) → S.last ≡ h.multiplier →
      breaches_in w S at t ≡ unless (not (behind_table h.code) || ((allows w).eventless || S.table)) 9 (at - code_back) ++ faults at t (admit room least fits serial h)
  unfolding admit breaches_in broken faults ◌>>=◌ ◌>>◌
  admit-broken room most least fits serial h j p S at e =
      let q = traced p in
      let f = q.trace.then in
      rw (q.events, f.holds, f.then.holds, e, j h.multiplier q.trace.holds, append-nil)

  admit-listed : (room most : ℕ) (fits serial : ℕ → Bool) (h : Head) {t : List Event} {x : Unit {0}} → Plays t (admit room most fits serial h) x → (S : Before) → steps S t ≡ listing S h
  unfolding admit steps ◌>>=◌ ◌>>◌
  admit-listed room most fits serial h p S = ap (steps S) (traced p).events

  pub tells-admit : (room most least : ℕ) (fits serial : ℕ → Bool) (h : Head) → Limits most least → {t : List Event} {x : Unit {0}} → Plays t (admit room most fits serial h) x → (S : Before) (at : ℕ) → S.last ≡ h.multiplier →
      is_sub h.code ≡ false → behind_table h.code ≡ false → Tells w false false S at t (admit room least fits serial h) (λ S'. S' ≡ listing S h)
  tells-admit room most least fits serial h j p S at e c d =
      let q = admit-listed room most fits serial h p S in
      told w (λ S'. S' ≡ listing S h) (admit-broken room most least fits serial h j p S at e ∙ rw d) (rw q (other c)) q

  -- a 350 or a 140, with what is due
  pub tells-behind : (room most least : ℕ) (fits serial : ℕ → Bool) (h : Head) → Limits most least → {t : List Event} {x : Unit {0}} → Plays t (admit room most fits serial h) x → (S : Before) (at : ℕ) → S.last ≡ h.multiplier →
      is_sub h.code ≡ false → behind_table h.code ≡ true → Tells w true false S at t (admit room least fits serial h) (λ S'. S' ≡ listing S h)
  tells-behind room most least fits serial h j {t} p S at e c d =
      let q = admit-listed room most fits serial h p S in
      record { equal = append-nil (breaches_in w S at t) ∙ admit-broken room most least fits serial h j p S at e ∙ rw d; calm = rw q (other c); post = q }

  pub tells-plain : (room most least : ℕ) (fits serial : ℕ → Bool) (h : Head) → Limits most least → {t : List Event} {x : Unit {0}} → Plays t (admit room most fits serial h) x → (S : Before) (at : ℕ) → S.last ≡ h.multiplier →
      Plain h.code → Tells w false false S at t (admit room least fits serial h) (Kept S)
  tells-plain room most least fits serial h j p S at e c =
      tells-weaken w (λ S'. S' ≡ listing S h) (Kept S) (λ S' q. ap (λ (x : Before). x.table) q ∙ inner-kept S h c.0) (tells-admit room most least fits serial h j p S at e c.1 c.0.1)

  -- 100 and 355: a fixed body without a type or a format
  tells-fixed : {A : Type 0} (bytes code i : ℕ) (body : Walk A) → Plain code → Silent body → (room : ℕ) {t : List Event} {x : A} → Plays t (fixed (exactly bytes code i) body room) x → (S : Before) → Calm S → (at : ℕ) →
      Tells w false false S at t (fixed (exactly bytes code i) body room) (Kept S)
  unfolding fixed
  tells-fixed bytes code i body d r room p S c at =
      past_head room _ _ S at (Kept S) c p λ h u S₁ at₁ c₁ k₁ p.
      tells-require w (eqb h.code code) 9 code_back _ _ S₁ at₁ (Kept S) p λ e p.
      tells-then w _ _ _ _ S₁ at₁ (Kept S₁) (Kept S) (itself _) p (λ _ t q. tells-plain room 0 0 _ _ h no-multiplier q S₁ at₁ k₁.1 (rw (eqb-true h.code code e) d)) λ u S₂ at₂ c₂ k₂ p.
      tells-weaken w (Kept S₂) (Kept S) (λ S' q. q ∙ k₂ ∙ k₁.0) (quiet w p r S₂ c₂ at₂)

  pub tells-basic : (room : ℕ) {t : List Event} {x : Basic} → Plays t (basic room) x → (S : Before) → Calm S → (at : ℕ) → Tells w false false S at t (basic room) (Kept S)
  tells-basic room p S c at = tells-fixed 128 100 0 basic_body ((refl, refl, refl), refl) silent-basic_body room p S c at

  pub tells-montage : (n room i : ℕ) {t : List Event} {x : Channel} → Plays t (channel (montage_sub n) room i) x → (S : Before) → Calm S → (at : ℕ) → Tells w false false S at t (channel (montage_sub n) room i) (Kept S)
  tells-montage n room i p S c at = tells-fixed 256 355 i (channel_body (montage_sub n)) ((refl, refl, refl), refl) (silent-channel_body (montage_sub n)) room p S c at

  -- 125 and 325: the third number is the type, and the fourth the format
  abbrev listed : ℕ → Bool → ℕ → Before
  listed c e m = record { table = e; last = m; code = c; count = 0 }

  two-tests : (c d : Bool) (p q p' q' : ℕ) (y z : List Fault) → p' ≡ p → q' ≡ q → z ≡ y → (unless c 13 p ++ []) ++ (unless d 13 q ++ z) ≡
      pick c (pick d y (record { number = 13; place = q' } ∷ y)) (record { number = 13; place = p' } ∷ pick d y (record { number = 13; place = q' } ∷ y))
  two-tests true true p q p' q' y z g h i = i
  two-tests true false p q p' q' y z g h i = rw (h, i)
  two-tests false true p q p' q' y z g h i = rw (g, i)
  two-tests false false p q p' q' y z g h i = rw (g, h, i)

  abbrev four : {A : Type 0} → (ℕ → Bool) → (ℕ → Bool) → (ℕ → Bool) → (ℕ → ℕ → ℕ → ℕ → Walk A) → Walk A
  four ok type format k = number 4 λ n. check (ok n) 13 4 (number 4 λ f. number 4 λ t. check (type t) 13 4 (number 4 λ g. check (format g) 13 4 (k n f t g)))

  four-tests : {A : Type 0} (c : ℕ) (ok type format : ℕ → Bool) (k : ℕ → ℕ → ℕ → ℕ → Walk A) (n f t g : ℕ) → is_sub c ≡ true → ok n ≡ true → type t ≡ (allows w).twenty || not (eqb t 20) → format g ≡ leb g (allows w).format →
      Silent (k n f t g) → {u : List Event} {x : A} → Plays u (k n f t g) x → (e : Bool) (m at : ℕ) →
      Tells w false false (listed c e m) at (numeral 4 n ∷ numeral 4 f ∷ numeral 4 t ∷ numeral 4 g ∷ u) (four ok type format k) (λ S'. S'.table ≡ e)
  unfolding breaches_in broken steps faults size
  four-tests c ok type format k n f t g s o a b r {u} p e m at =
      let S : Before = record { table = e; last = g; code = c; count = 4 } in
      let l : 4 ≤ S.count = omega arith in
      let q = quiet w p r S (later l) (at + 4 + 4 + 4 + 4) in
      let y : at + 4 + 4 + 4 - 4 ≡ at + 4 + 4 = omega arith in
      let z : at + 4 + 4 + 4 + 4 - 4 ≡ at + 4 + 4 + 4 = omega arith in
      let h : breaches_in w S (at + 4 + 4 + 4 + 4) u ≡ faults (at + 4 + 4 + 4 + 4) u (k n f t g) = sym (append-nil (breaches_in w S (at + 4 + 4 + 4 + 4) u)) ∙ q.equal in
      told w (λ S'. S'.table ≡ e)
      (rw (s, o, a, b) (two-tests ((allows w).twenty || not (eqb t 20)) (leb g (allows w).format) (at + 4 + 4) (at + 4 + 4 + 4) (at + 4 + 4 + 4 - 4) (at + 4 + 4 + 4 + 4 - 4) (faults (at + 4 + 4 + 4 + 4) u (k n f t g)) (breaches_in w S (at + 4 + 4 + 4 + 4) u) y z h))
      q.calm q.post

  tells-four : {A : Type 0} (c : ℕ) (ok type type' format format' : ℕ → Bool) (k : ℕ → ℕ → ℕ → ℕ → Walk A) → is_sub c ≡ true → ((t : ℕ) → type' t ≡ true → type t ≡ (allows w).twenty || not (eqb t 20)) →
      ((g : ℕ) → format' g ≡ true → format g ≡ leb g (allows w).format) → ((n f t g : ℕ) → Silent (k n f t g)) → {T : List Event} {x : A} →
      Plays T (four ok type' format' k) x → (e : Bool) (m at : ℕ) → Tells w false false (listed c e m) at T (four ok type format k) (λ S'. S'.table ≡ e)
  tells-four c ok type type' format format' k s a b r p e m at =
      by-counted p λ n u₁ e₁ p. by-check p λ o p. by-counted p λ f u₂ e₂ p. by-counted p λ t u₃ e₃ p. by-check p λ x p. by-counted p λ g u₄ e₄ p. by-check p λ y p.
      rw (e₁, e₂, e₃, e₄) (four-tests c ok type format k n f t g s o (a t x) (b g y) (r n f t g) p e m at)

  tells-body : (k : Sub) (type type' format format' : ℕ → Bool) → is_sub k.code ≡ true → ((t : ℕ) → type' t ≡ true → type t ≡ (allows w).twenty || not (eqb t 20)) →
      ((g : ℕ) → format' g ≡ true → format g ≡ leb g (allows w).format) → {T : List Event} {x : Channel} → Plays T (channel_body (tested k type' format')) x → (e : Bool) (m at : ℕ) →
      Tells w false false (listed k.code e m) at T (channel_body (tested k type format)) (λ S'. S'.table ≡ e)
  unfolding channel_body ◌>>=◌ ◌>>◌
  tells-body k type type' format format' s a b p e m at = tells-four k.code k.number type type' format format' _ s a b (silent-channel_body (tested k type format)) p e m at

  tells-sub : (k : Sub) (type type' format format' : ℕ → Bool) → is_sub k.code ≡ true → Inner k.code → ((t : ℕ) → type' t ≡ true → type t ≡ (allows w).twenty || not (eqb t 20)) →
      ((g : ℕ) → format' g ≡ true → format g ≡ leb g (allows w).format) → (room i : ℕ) {t : List Event} {x : Channel} → Plays t (channel (tested k type' format') room i) x → (S : Before) → Calm S → (at : ℕ) →
      Tells w false false S at t (channel (tested k type format) room i) (Kept S)
  unfolding fixed
  tells-sub k type type' format format' s d a b room i p S c at =
      past_head room _ _ S at (Kept S) c p λ h u S₁ at₁ c₁ k₁ p.
      tells-require w (eqb h.code k.code) 9 code_back _ _ S₁ at₁ (Kept S) p λ e p.
      let g : h.code ≡ k.code = eqb-true h.code k.code e in
      tells-raw w _ _ _ _ S₁ (listed k.code S₁.table S₁.last) at₁ (Kept S) (itself _) p
      (λ _ t q. (append-nil (breaches_in w S₁ at₁ t) ∙ admit-broken room 0 0 _ _ h no-multiplier q S₁ at₁ k₁.1 ∙ rw (g, d.1), admit-listed room 0 _ _ h q S₁ ∙ rw (g, d.0, d.1, d.2)))
      (λ u at₂ p. tells-weaken w _ (Kept S) (λ S' q. q ∙ k₁.0) (tells-body k type type' format format' s a b p S₁.table S₁.last at₂))

  pub tells-channel : (room i : ℕ) {t : List Event} {x : Channel} → Plays t (channel (channel_sub Version.V300) room i) x → (S : Before) → Calm S → (at : ℕ) → Tells w false false S at t (channel (channel_sub w) room i) (Kept S)
  tells-channel room i p S c at = tells-sub (channel_sub w) _ _ _ _ refl (refl, refl, refl) type-asked format-asked room i p S c at

  pub tells-electrode : (room i : ℕ) {t : List Event} {x : Channel} → Plays t (channel (electrode_sub Version.V300) room i) x → (S : Before) → Calm S → (at : ℕ) → Tells w false false S at t (channel (electrode_sub w) room i) (Kept S)
  tells-electrode room i p S c at = tells-sub (electrode_sub w) _ _ _ _ refl (refl, refl, refl) electrode-asked format-asked room i p S c at
