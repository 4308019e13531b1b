-- The tests of a version that fail on a file of 000300 are the places where it breaks that version's rules.
-- Assumes nothing.
use mathlib.Core.Path.{◌≡◌, refl, sym, ap, ◌∙◌}
use mathlib.Core.Bool.{Bool, true, false, ◌&&◌, ◌||◌}
use mathlib.Core.List.{List, [], ◌∷◌, ◌++◌, append_assoc, append-nil}
use Prim.Native.Nat.{ℕ, zero, suc, ◌+◌, ◌-◌, ◌≤◌}
use native.Mathlib.Omega.{arith}
use lib.Dec.{eqb}
use borrow.Author.Tests.{ne_eqb}
use lib.ListN.{length}
use Rattle.walk.specs.Faults.{Fault}
use Rattle.walk.specs.Plays.{Plays, gives, checks, numbers, reads, skips, lists}
use Rattle.walk.specs.Walk.{Event, numeral, size, Walk, give, ◌>>=◌, ◌>>◌, pick, require}
use Rattle.walk.proofs.Laws.{size-append, size-cons, by_parts, by-check}
use Rattle.walk.proofs.Told.{Silent}
use Rattle.walk.proofs.Implied.{Implies, faults, itself, implies-bind, faults-bind}
use Rattle.rules.specs.Rules.{allows, series, code_back}
use Rattle.rules.specs.declared.Version.{Version}
use Rattle.labels.specs.Breaches.{Before, step, unless, of_channel, broken, breaches_in}

-- no number that is read next is a channel's type or format
abbrev pub is_sub : ℕ → Bool
is_sub c = eqb c 125 || eqb c 325

pub data Calm (S : Before) : Type 0 where
  other : is_sub S.code ≡ false → Calm S
  later : 4 ≤ S.count → Calm S

calm-field : {S : Before} (i : ℕ) → i ≤ 3 → Calm S → of_channel i S ≡ false
calm-field {S} i h (other e) = ap (λ (c : Bool). c && eqb S.count i) e
calm-field {S} i h (later l) = go (is_sub S.code) (ne_eqb S.count i (λ e. omega arith))
  where
    go : (c : Bool) → eqb S.count i ≡ false → c && eqb S.count i ≡ false
    go true h = h
    go false h = refl

calm-step : {S : Before} (n v : ℕ) → Calm S → Calm (step S (numeral n v))
calm-step n v (other e) = other e
calm-step {S} n v (later l) = let z : 4 ≤ suc S.count = omega arith in later z

-- what was read before, after more was read
unfoldable pub steps : Before → List Event → Before
steps S [] = S
steps S (v ∷ t) = steps (step S v) t

steps-append : (t u : List Event) (S : Before) → steps S (t ++ u) ≡ steps (steps S t) u
unfolding steps
steps-append [] u S = refl
steps-append (v ∷ t) u S = steps-append t u (step S v)

joins : (b b' d d₁ d₂ f f' : List Fault) → b ++ d₁ ≡ d ++ f → b' ++ d₂ ≡ d₁ ++ f' → (b ++ b') ++ d₂ ≡ d ++ (f ++ f')
joins b b' d d₁ d₂ f f' h k = append_assoc b b' d₂ ∙ ap (λ (x : List Fault). b ++ x) k ∙ sym (append_assoc b d₁ f') ∙ ap (λ (x : List Fault). x ++ f') h ∙ append_assoc d f f'

pub or-true : (c : Bool) → c || true ≡ true
or-true true = refl
or-true false = refl

-- the breach that a walk has told at the place of the event table, and the scan tells where the record that stands there is listed
abbrev pub due : Version → Bool → Before → ℕ → List Fault
due w d S at = pick d (unless ((allows w).eventless || S.table) 9 (at - code_back)) []

-- a walk's faults are the breaches in its events, but for what is due before and behind
abbrev pub Equal : Version → Bool → Bool → Before → ℕ → List Event → {A : Type 0} → Walk A → Type 0
Equal w d d' S at t x = breaches_in w S at t ++ due w d' (steps S t) (at + size t) ≡ due w d S at ++ faults at t x

-- and what holds of what was read behind it
pub record Tells (w : Version) (d d' : Bool) (S : Before) (at : ℕ) (t : List Event) {A : Type 0} (x : Walk A) (Q : Before → Type 0) : Type 0 where
  pub equal : Equal w d d' S at t x
  pub calm : Calm (steps S t)
  pub post : Q (steps S t)

-- the place of the event table is behind, or not yet, as before
abbrev pub Kept : Before → Before → Type 0
Kept S S' = S'.table ≡ S.table

abbrev pub Any : Before → Type 0
Any S = Unit {0}

pub implies-series : {A : Type 0} (w v : ℕ → ℕ → Walk A) → ((room i : ℕ) → Implies (w room i) (v room i)) → (n i step room : ℕ) → Implies (series n i step room w) (series n i step room v)
unfolding series
implies-series w v f zero i step room = itself _
implies-series w v f (suc n) i step room = implies-bind (f room i) (λ a. implies-bind (implies-series w v f n (suc i) step (room - step)) (λ _. itself _))

module _ (w : Version) where
  pub breaches-append : (t u : List Event) (S : Before) (at : ℕ) → breaches_in w S at (t ++ u) ≡ breaches_in w S at t ++ breaches_in w (steps S t) (at + size t) u
  unfolding breaches_in steps size
  breaches-append [] u S at = let z : at + 0 ≡ at = omega arith in rw z
  breaches-append (v ∷ t) u S at =
      let z : at + size (v ∷ []) + size t ≡ at + size (v ∷ t) = omega (arith, size-cons v t) in
      rw (breaches-append t u (step S v) (at + size (v ∷ [])), z, append_assoc)

  -- one walk after the other
  equal-bind : {A B : Type 0} (d d₁ d₂ : Bool) {t : List Event} (u : List Event) (x v : Walk A) (k : A → Walk B) {a : A} (S : Before) (at : ℕ) → Implies x v → Plays t v a →
      Equal w d d₁ S at t x → Equal w d₁ d₂ (steps S t) (at + size t) u (k a) → Equal w d d₂ S at (t ++ u) (x >>= k)
  equal-bind d d₁ d₂ {t} u x v k {a} S at i p e f =
      let z : at + size (t ++ u) ≡ at + size t + size u = omega (arith, size-append t u) in
      rw (breaches-append t u S at, steps-append t u S, z, faults-bind u k i p at)
      (joins (breaches_in w S at t) (breaches_in w (steps S t) (at + size t) u) (due w d S at) (due w d₁ (steps S t) (at + size t)) (due w d₂ (steps (steps S t) u) (at + size t + size u)) (faults at t x) (faults (at + size t) u (k a)) e f)

  module _ {A B : Type 0} where
    pub tells-bind : {d d₁ d₂ : Bool} {T : List Event} (x v : Walk A) (k g : A → Walk B) {b : B} (S : Before) (at : ℕ) (R : A → Before → Type 0) (Q : Before → Type 0) → Implies x v → Plays T (v >>= g) b →
        ((a : A) (t : List Event) → Plays t v a → Tells w d d₁ S at t x (R a)) →
        ((a : A) (u : List Event) (S' : Before) (at' : ℕ) → Calm S' → R a S' → Plays u (g a) b → Tells w d₁ d₂ S' at' u (k a) Q) → Tells w d d₂ S at T (x >>= k) Q
    tells-bind {d} {d₁} {d₂} x v k g S at R Q i p f h =
        by_parts v g p λ a t u j p₁ p₂.
        let y = f a t p₁ in
        let z = h a u (steps S t) (at + size t) y.calm y.post p₂ in
        rw (← j) (record { equal = equal-bind d d₁ d₂ u x v k S at i p₁ y.equal z.equal; calm = rw (steps-append t u S) z.calm; post = rw (steps-append t u S) z.post })

    pub tells-then : {d d₁ d₂ : Bool} {T : List Event} (x v : Walk A) (k g : Walk B) {b : B} (S : Before) (at : ℕ) (R Q : Before → Type 0) → Implies x v → Plays T (v >> g) b →
        ((a : A) (t : List Event) → Plays t v a → Tells w d d₁ S at t x R) →
        ((u : List Event) (S' : Before) (at' : ℕ) → Calm S' → R S' → Plays u g b → Tells w d₁ d₂ S' at' u k Q) → Tells w d d₂ S at T (x >> k) Q
    unfolding ◌>>◌
    tells-then x v k g S at R Q i p f h = tells-bind x v (λ _. k) (λ _. g) S at (λ _. R) Q i p f (λ _. h)

    -- where the state behind the first is known
    pub tells-raw : {d d₁ d₂ : Bool} {T : List Event} (x v : Walk A) (k g : Walk B) {b : B} (S S₁ : Before) (at : ℕ) (Q : Before → Type 0) → Implies x v → Plays T (v >> g) b →
        ((a : A) (t : List Event) → Plays t v a → Equal w d d₁ S at t x × (steps S t ≡ S₁)) →
        ((u : List Event) (at' : ℕ) → Plays u g b → Tells w d₁ d₂ S₁ at' u k Q) → Tells w d d₂ S at T (x >> k) Q
    unfolding ◌>>◌
    tells-raw {d} {d₁} {d₂} x v k g S S₁ at Q i p f h =
        by_parts v (λ _. g) p λ a t u j p₁ p₂.
        let y = f a t p₁ in
        let z : Tells w d₁ d₂ (steps S t) (at + size t) u k Q = rw y.1 (h u (at + size t) p₂) in
        rw (← j) (record { equal = equal-bind d d₁ d₂ u x v (λ _. k) S at i p₁ y.0 z.equal; calm = rw (steps-append t u S) z.calm; post = rw (steps-append t u S) z.post })

  module _ {A : Type 0} where
    pub tells-weaken : {d d' : Bool} {S : Before} {at : ℕ} {t : List Event} {x : Walk A} (Q R : Before → Type 0) → ((S' : Before) → Q S' → R S') → Tells w d d' S at t x Q → Tells w d d' S at t x R
    tells-weaken {S} {t} Q R f y = record { equal = y.equal; calm = y.calm; post = f (steps S t) y.post }

    -- nothing is due
    pub told : {S : Before} {at : ℕ} {t : List Event} {x : Walk A} (Q : Before → Type 0) → breaches_in w S at t ≡ faults at t x → Calm (steps S t) → Q (steps S t) → Tells w false false S at t x Q
    told {S} {at} {t} Q e c q = record { equal = append-nil (breaches_in w S at t) ∙ e; calm = c; post = q }

    pub tells-give : {d : Bool} {t : List Event} {a b : A} (S : Before) (at : ℕ) (Q : Before → Type 0) → Calm S → Plays t (give a) b → (b ≡ a → Q S) → Tells w d d S at t (give a) Q
    unfolding breaches_in steps faults size
    tells-give {d} S at Q c gives f = let z : at + 0 ≡ at = omega arith in record { equal = rw z (sym (append-nil (due w d S at))); calm = c; post = f refl }

    -- a test that the wider walk has too
    pub tells-require : {d d' : Bool} {t : List Event} (c : Bool) (n q : ℕ) (x v : Walk A) {a : A} (S : Before) (at : ℕ) (Q : Before → Type 0) → Plays t (require c n q >> v) a →
        (c ≡ true → Plays t v a → Tells w d d' S at t x Q) → Tells w d d' S at t (require c n q >> x) Q
    unfolding faults ◌>>=◌ ◌>>◌
    tells-require c n q x v S at Q p f = by-check p λ h p. let y = f h p in record { equal = rw h y.equal; calm = y.calm; post = y.post }

    pub tells-pick : {d d' : Bool} {t : List Event} (c : Bool) (x v x' v' : Walk A) {a : A} (S : Before) (at : ℕ) (Q : Before → Type 0) → Plays t (pick c v v') a →
        (c ≡ true → Plays t v a → Tells w d d' S at t x Q) → (c ≡ false → Plays t v' a → Tells w d d' S at t x' Q) → Tells w d d' S at t (pick c x x') Q
    tells-pick true x v x' v' S at Q p f g = f refl p
    tells-pick false x v x' v' S at Q p f g = g refl p

    pub tells-if : {d d' : Bool} {t : List Event} (c : Bool) (x v x' v' : Walk A) {a : A} (S : Before) (at : ℕ) (Q : Before → Type 0) → Plays {A = A} t (elim c [ true ↦ v | false ↦ v' ]) a →
        (c ≡ true → Plays t v a → Tells w d d' S at t x Q) → (c ≡ false → Plays t v' a → Tells w d d' S at t x' Q) → Tells w d d' S at t {A = A} (elim c [ true ↦ x | false ↦ x' ]) Q
    tells-if true x v x' v' S at Q p f g = f refl p
    tells-if false x v x' v' S at Q p f g = g refl p

    -- nothing is due behind the place of the event table
    pub settled : {S : Before} {at : ℕ} {t : List Event} {x : Walk A} {d : Bool} (d' : Bool) (Q : Before → Type 0) → ((S' : Before) → Q S' → d' ≡ true → S'.table ≡ true) → Tells w d false S at t x Q → Tells w d d' S at t x Q
    settled {S} {at} {t} true Q f y = let e : (steps S t).table ≡ true = f (steps S t) y.post refl in record { equal = rw (e, or-true (allows w).eventless) y.equal; calm = y.calm; post = y.post }
    settled false Q f y = y

    -- a walk that lists no record
    quiet-equal : {t : List Event} {x : Walk A} {a : A} → Plays t x a → Silent x → (S : Before) → Calm S → (at : ℕ) → (breaches_in w S at t ≡ faults at t x) × Calm (steps S t) × Kept S (steps S t)
    unfolding breaches_in broken steps faults size
    quiet-equal gives r S c at = (refl, c, refl)
    quiet-equal (checks h p) r S c at = let q = quiet-equal p r S c at in (rw h q.0, q.1, q.2)
    quiet-equal (numbers {n} {v} {t} b p) r S c at =
        let q = quiet-equal p (r v) (step S (numeral n v)) (calm-step n v c) (at + n) in
        let z : at + (n + 0) ≡ at + n = omega arith in
        (rw (calm-field 2 (omega arith) c, calm-field 3 (omega arith) c, z) q.0, q.1, q.2)
    quiet-equal (reads {n} {bs} x b p) r S c at =
        let q = quiet-equal p (r bs) S c (at + n) in
        let z : at + (length bs + 0) ≡ at + n = omega arith in
        (rw z q.0, q.1, q.2)
    quiet-equal (skips {n} {bs} x b p) r S c at =
        let q = quiet-equal p r S c (at + n) in
        let z : at + (length bs + 0) ≡ at + n = omega arith in
        (rw z q.0, q.1, q.2)
    quiet-equal (lists p) r S c at = absurd r

    pub quiet : {t : List Event} {x : Walk A} {a : A} → Plays t x a → Silent x → (S : Before) → Calm S → (at : ℕ) → Tells w false false S at t x (Kept S)
    quiet p r S c at = let q = quiet-equal p r S c at in told (Kept S) q.0 q.1 q.2

  -- such a walk first
  pub past-quiet : {A B : Type 0} {d : Bool} {T : List Event} (v : Walk A) (k g : A → Walk B) {b : B} (S : Before) (at : ℕ) (Q : Before → Type 0) → Silent v → Calm S → Plays T (v >>= g) b →
      ((a : A) (u : List Event) (S' : Before) (at' : ℕ) → Calm S' → Kept S S' → Plays u (g a) b → Tells w false d S' at' u (k a) Q) → Tells w false d S at T (v >>= k) Q
  past-quiet v k g S at Q r c p h = tells-bind v v k g S at (λ _. Kept S) Q (itself v) p (λ a t q. quiet q r S c at) h

  pub quiet_then : {A B : Type 0} {d : Bool} {T : List Event} (v : Walk A) (k g : Walk B) {b : B} (S : Before) (at : ℕ) (Q : Before → Type 0) → Silent v → Calm S → Plays T (v >> g) b →
      ((u : List Event) (S' : Before) (at' : ℕ) → Calm S' → Kept S S' → Plays u g b → Tells w false d S' at' u k Q) → Tells w false d S at T (v >> k) Q
  quiet_then v k g S at Q r c p h = tells-then v v k g S at (Kept S) Q (itself v) p (λ a t q. quiet q r S c at) h

  -- n of one kind
  pub tells-series : {A : Type 0} (x v : ℕ → ℕ → Walk A) → ((room i : ℕ) → Implies (x room i) (v room i)) →
      ((room i : ℕ) (t : List Event) (a : A) → Plays t (v room i) a → (S : Before) → Calm S → (at : ℕ) → Tells w false false S at t (x room i) (Kept S)) →
      (n i d room : ℕ) {t : List Event} {xs : List A} → Plays t (series n i d room v) xs → (S : Before) → Calm S → (at : ℕ) → Tells w false false S at t (series n i d room x) (Kept S)
  unfolding series
  tells-series x v j f zero i d room p S c at = tells-give S at (Kept S) c p (λ _. refl)
  tells-series x v j f (suc n) i d room p S c at =
      tells-bind (x room i) (v room i) _ _ S at (λ _. Kept S) (Kept S) (j room i) p (λ a t q. f room i t a q S c at) λ a u S₁ at₁ c₁ k₁ p.
      tells-bind (series n (suc i) d (room - d) x) (series n (suc i) d (room - d) v) _ _ S₁ at₁ (λ _. Kept S₁) (Kept S) (implies-series x v j n (suc i) d (room - d)) p (λ _ t q. tells-series x v j f n (suc i) d (room - d) q S₁ c₁ at₁) λ _ u S₂ at₂ c₂ k₂ p.
      tells-give S₂ at₂ (Kept S) c₂ p (λ _. k₂ ∙ k₁)
