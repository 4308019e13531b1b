-- What the cursor's step comes to in a chain.
-- Assumes nothing.
use Rattle.std.proofs.Common.{Option, Some, None}
use mathlib.Core.Path.{◌≡◌, sym, ap, ◌∙◌}
use mathlib.Core.Bool.{Bool, true, ◌||◌}
use mathlib.Core.List.{List}
use Prim.Native.Nat.{ℕ, ◌+◌, ◌-◌, ◌≤◌}
use native.Mathlib.Omega.{arith}
use borrow.Author.Tests.{leb-true, le-leb, eqb-true}
use lib.Dec.{leb, ltb, eqb}
use lib.ListN.{length}
use Rattle.words.specs.declared.Order.{Order}
use Rattle.walk.specs.Walk.{Walk, ◌>>=◌, ◌>>◌, require, text}
use Rattle.walk.specs.See.{stops, goes, see}
use Rattle.walk.proofs.Apart.{false-true, stops-goes}
use Rattle.walk.proofs.Seen.{and_left, and_right, gate-true}
use Rattle.walk.proofs.Went.{goes_same, gate-went}
use Rattle.rules.specs.declared.Head as At
use Rattle.rules.proofs.Cases.{most-low}
use Rattle.rules.specs.Rules.{most_of, Head, head, admit, span, limit, basic_body, channels, channels_body, items, items_body, patient_code, event_code, frames, frames_body, maker_code, delimiter}
use Rattle.records.specs.Says.{head_of, is_group}
use Rattle.children.specs.Children.{Said, ◌then◌, Known, Heads, Inner, is100, is_subs, is130, is200, is140, is_maker, Links, more, last, Parted, Chain, Closed, RecordAt, NoRecord, Visits}

-- the cursor's answer where it is a record
pub recorded : {o : Order} {b : ℕ} {s : List ℕ} {p : ℕ} {a : Option (At.Head × ℕ)} {h : At.Head} {q : ℕ} → a ≡ Some (h, q) → Visits o b s p a → RecordAt o b s p h q
recorded e v = rw e at v

-- and where it is none
pub unrecorded : {o : Order} {b : ℕ} {s : List ℕ} {p : ℕ} {a : Option (At.Head × ℕ)} → a ≡ None → Visits o b s p a → NoRecord o b s p
unrecorded e v = rw e at v

low : (n m : ℕ) → 16 ≤ n → leb n m ≡ true → 16 ≤ m
low n m z q = let l : n ≤ m = leb-true n m q in omega arith

module _ (o : Order) (b : ℕ) (s : List ℕ) where
  -- a head that is admitted more strictly
  admits : {A : Type 0} (at room most : ℕ) (fits serial : ℕ → Bool) (h : Head) (v : Walk A) {a : A} {e : ℕ} → most ≤ 128 → (fits (span h) ≡ true → 16 ≤ span h) →
      see o b s at (admit room most fits serial h >> v) ≡ goes a e → see o b s at (admit room 128 (leb 16) (λ _. true) h) ≡ goes tt at
  unfolding admit see ◌>>=◌ ◌>>◌
  admits at room most fits serial h v m f g =
      let g₁ = gate-went _ _ _ _ g in
      let g₂ = gate-went _ _ _ _ g₁.1 in
      let r = and_right (ltb h.size limit) _ g₂.0 in
      let i₁ : leb h.multiplier 128 ≡ true = le-leb h.multiplier 128 (omega (arith, leb-true h.multiplier most g₁.0)) in
      let i₂ : leb 16 (span h) ≡ true = le-leb 16 (span h) (f (and_left (fits (span h)) _ r)) in
      simp (i₁, i₂, and_left (ltb h.size limit) _ g₂.0, and_right (fits (span h)) _ r, gate-true)

  delimiter-coded : (at : ℕ) (h : Head) {e : ℕ} → see o b s at (delimiter h) ≡ goes tt e → h.code ≡ 0
  unfolding delimiter see ◌>>=◌ ◌>>◌
  delimiter-coded at h g = eqb-true h.code 0 (gate-went _ _ _ _ g).0

  module _ (p : ℕ) {k : Known} {h : Head} where
    inner-admits : {l : Said} → Inner o b s p k h l → see o b s (b + (p + 16)) (admit (length s - p) 128 (leb 16) (λ _. true) h) ≡ goes tt (b + (p + 16))
    unfolding channels items frames
    inner-admits (is100 q r) = admits (b + (p + 16)) (length s - p) 0 (eqb 128) (eqb 0) h basic_body (omega arith) (λ z. let l : 128 ≡ span h = eqb-true 128 (span h) z in omega arith) r.is
    inner-admits (is_subs g t q r) = admits (b + (p + 16)) (length s - p) 0 (leb 32) (eqb 0) h (channels_body g (span h)) (omega arith) (low 32 (span h) (omega arith)) r.is
    inner-admits (is130 q r) = admits (b + (p + 16)) (length s - p) 0 (leb 24) (eqb 0) h (items_body patient_code (span h)) (omega arith) (low 24 (span h) (omega arith)) r.is
    inner-admits (is200 q r) = admits (b + (p + 16)) (length s - p) 0 (leb 24) (eqb 0) h (items_body event_code (span h)) (omega arith) (low 24 (span h) (omega arith)) r.is
    inner-admits (is140 q r) = admits (b + (p + 16)) (length s - p) (most_of k.label) (leb 32) (eqb 0) h (require (k.own || eqb (length k.channels) k.basic.channels) 14 k.back >> frames_body k.label k.basic k.channels h) (most-low k.label) (low 32 (span h) (omega arith)) r.is
    inner-admits (is_maker q r) = admits (b + (p + 16)) (length s - p) (most_of k.label) (leb 16) (λ _. true) h (text (span h - 16)) (most-low k.label) (low 16 (span h) (omega arith)) r.is

    inner-coded : {l : Said} → Inner o b s p k h l → h.code ≡ 0 → ⊥
    unfolding maker_code is_group
    inner-coded (is100 q r) z = omega arith
    inner-coded (is_subs g t q r) z = false-true (sym (ap is_group (sym q ∙ z)) ∙ t.group)
    inner-coded (is130 q r) z = omega arith
    inner-coded (is200 q r) z = omega arith
    inner-coded (is140 q r) z = omega arith
    inner-coded (is_maker q r) z = let n : 1024 ≤ h.code = leb-true 1024 h.code (and_left (leb 1024 h.code) _ q) in omega arith

  -- what the cursor's answer at byte p says of links from there on
  module _ {X : Type 0} {join : X → X → X} {I : ℕ → Head → X → Type 0} {E : ℕ → X → Type 0} {p : ℕ} {x : X} where
    pub links-parted : {h : At.Head} {q : ℕ} → RecordAt o b s p h q → (E p x → ⊥) → Links o b s join I E p x → Parted o b s join I E p (head_of h) q x
    links-parted {h} v none (more h₁ own rest k₁ i d e) =
        let y : h₁ ≡ head_of h = (goes_same (sym k₁ ∙ v.heads)).0 in
        record { own = own; rest = rest; inner = rw y at i; on = rw v.ends (rw y at d); is = e }
    links-parted v none (last e) = absurd (none e)

    pub links-ended : ((h : Head) (y : X) → Heads o b s p h → I p h y → ⊥) → Links o b s join I E p x → E p x
    links-ended none (more h own rest k i d e) = absurd (none h own k i)
    links-ended none (last e) = e

  -- a delimiter is no record, and a record that may stand in a recording is one
  pub closed-alone : {p : ℕ} {l : Said} {h : At.Head} {q : ℕ} → RecordAt o b s p h q → Closed o b s p l → ⊥
  closed-alone {p} {h} v c = v.kind (ap (λ (x : Head). x.code) (goes_same (sym v.heads ∙ c.stands)).0 ∙ delimiter-coded (b + (p + 16)) c.head c.ends)

  pub inner-there : {p : ℕ} {k : Known} {h : Head} {l : Said} → NoRecord o b s p → Heads o b s p h → Inner o b s p k h l → ⊥
  inner-there {p} {h} v k i = v.none h k (inner-coded p i) (inner-admits p i)

  -- and so of a chain
  module _ {k : Known} {p : ℕ} {l : Said} where
    pub chain-parted : {h : At.Head} {q : ℕ} → RecordAt o b s p h q → Chain o b s k p l → Parted o b s ◌then◌ (λ p. Inner o b s p k) (Closed o b s) p (head_of h) q l
    chain-parted v = links-parted v (closed-alone v)

    pub chain-closed : NoRecord o b s p → Chain o b s k p l → Closed o b s p l
    chain-closed v = links-ended (λ _ _. inner-there v)

-- the cursor's answers at byte p, by what the code found there: no head, the delimiter's, one that is not admitted
module _ {o : Order} {b : ℕ} {s : List ℕ} {p : ℕ} where
  pub none-headless : {m q : ℕ} → see o b s (b + p) (head (length s - p)) ≡ stops m q → NoRecord o b s p
  none-headless z = record { none = λ h k _ _. stops-goes (sym z ∙ k) }

  module _ {h : Head} (found : Heads o b s p h) where
    pub none-delimiter : h.code ≡ 0 → NoRecord o b s p
    none-delimiter z = record { none = λ h₁ k n _. n (ap (λ (x : Head). x.code) (goes_same (sym k ∙ found)).0 ∙ z) }

    pub none-refused : {m q : ℕ} → see o b s (b + (p + 16)) (admit (length s - p) 128 (leb 16) (λ _. true) h) ≡ stops m q → NoRecord o b s p
    none-refused z = record { none = λ h₁ k _ a. stops-goes (sym z ∙ (rw (goes_same (sym k ∙ found)).0 at a)) }
