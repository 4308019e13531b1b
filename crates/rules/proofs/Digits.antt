-- The file header of an accepted file leaves the digits of K open; without a leading zero these are known too.
-- Assumes nothing.
use mathlib.Core.Path.{◌≡◌, refl, sym, ap, ◌∙◌}
use mathlib.Core.Bool.{Bool, true, false}
use mathlib.Core.List.{List, [], ◌∷◌}
use mathlib.Core.Option.{Option, some}
use Prim.Native.Nat.{ℕ, ◌+◌, ◌*◌, ◌-◌, ◌/◌, ◌%◌, ◌≤◌, ◌<◌}
use native.Mathlib.Omega.{arith}
use lib.Dec.{leb, ltb, eqb}
use borrow.Author.Tests.{leb-true, ltb-true, ltb-false, eqb-true}
use lib.ListN.{length, get_or, replicate}
use Rattle.walk.specs.Plays.{Plays}
use Rattle.walk.specs.Walk.{Letter, Text, Event, piece, ◌>>=◌, ◌>>◌}
use Rattle.walk.proofs.Apart.{false-true}
use Rattle.walk.proofs.Laws.{traced}
use Rattle.rules.specs.Canonical.{digits}
use Rattle.rules.specs.Rules.{between, spelled, spelling_of, versioned, version_of, formed, form_of, all_spaces, is_digit, decimal, count_of, count_fits, count_is, Heading, FileHeader, file_header}
use Rattle.rules.proofs.Canon.{one-digit, two_digits}
use Rattle.rules.proofs.Renew.{and-true}
use Rattle.rules.proofs.Named.{spelled_as, versioned-as, formed-as}

-- The header's events

-- with these digits
abbrev pub header_with : Heading → List ℕ → List Event
header_with g d = piece Text (spelled g.spelling) ∷ piece Text (versioned g.label.version) ∷ piece Text (formed g.label.form) ∷ piece Letter (76 ∷ []) ∷ piece Text (g.script ∷ []) ∷ piece Text d ∷ piece Text (replicate 10 32) ∷ []

pub record HeaderChosen (t : List Event) (f : FileHeader) : Type 0 where
  pub digits : List ℕ
  pub long : length digits ≡ 4
  pub fits : count_fits (count_of digits) ≡ true
  pub count : f.count ≡ count_is (count_of digits)
  pub events : t ≡ header_with f.heading digits

one-is : (a : List ℕ) → length a ≡ 1 → a ≡ get_or a 0 0 ∷ []
one-is [] h = absurd (omega arith)
one-is (x ∷ []) h = refl
one-is (x ∷ y ∷ a) h = absurd (omega arith)

spaces-are : (a : List ℕ) → all_spaces a ≡ true → a ≡ replicate (length a) 32
unfolding all_spaces
spaces-are [] h = refl
spaces-are (x ∷ a) h = let k = and-true (eqb x 32) (all_spaces a) h in λ i. eqb-true x 32 k.0 i ∷ spaces-are a k.1 i

header_is : (g : Heading) (id v f l s d e : List ℕ) → id ≡ spelled g.spelling → v ≡ versioned g.label.version → f ≡ formed g.label.form → l ≡ 76 ∷ [] → s ≡ g.script ∷ [] → e ≡ replicate 10 32 →
    piece Text id ∷ piece Text v ∷ piece Text f ∷ piece Letter l ∷ piece Text s ∷ piece Text d ∷ piece Text e ∷ [] ≡ header_with g d
header_is g id v f l s d e h₁ h₂ h₃ h₄ h₅ h₆ = λ i. piece Text (h₁ i) ∷ piece Text (h₂ i) ∷ piece Text (h₃ i) ∷ piece Letter (h₄ i) ∷ piece Text (h₅ i) ∷ piece Text d ∷ piece Text (h₆ i) ∷ []

pub header-chosen : (n : ℕ) {t : List Event} {f : FileHeader} → Plays t (file_header n) f → HeaderChosen t f
unfolding file_header ◌>>=◌ ◌>>◌
header-chosen n p =
    let q = traced p in
    let a = q.trace.then in
    let b = a.then.then in
    let c = b.then.then in
    let d = c.then.then in
    let e = d.then.then in
    let g = e.then.then in
    let k = g.then.then in
    rw q.value (record {
      digits = g.bytes;
      long = g.width;
      fits = g.then.holds;
      count = refl;
      events = q.events ∙ header_is (record { spelling = spelling_of a.bytes; label = record { version = version_of b.bytes; form = form_of c.bytes }; script = get_or e.bytes 0 0 }) a.bytes b.bytes c.bytes d.bytes e.bytes g.bytes k.bytes
          (spelled_as a.bytes a.then.holds) (versioned-as b.bytes b.then.holds) (formed-as (version_of b.bytes) c.bytes c.then.holds)
          (one-is d.bytes d.width ∙ ap (λ (x : ℕ). x ∷ []) (eqb-true (get_or d.bytes 0 0) 76 d.then.holds)) (one-is e.bytes e.width)
          (spaces-are k.bytes k.then.holds ∙ ap (λ (x : ℕ). replicate x 32) k.width);
    })

-- The digits

digit-is : (b : ℕ) → is_digit b ≡ true → (48 ≤ b) × (b ≤ 57)
unfolding between
digit-is b h = let k = and-true (leb 48 b) (leb b 57) h in (leb-true 48 b k.0, leb-true b 57 k.1)

-- K begins with a digit
begins : (b : ℕ) (bs : List ℕ) → count_fits (count_of (b ∷ bs)) ≡ true → (48 ≤ b) × (b ≤ 57) × (count_of (b ∷ bs) ≡ decimal (10 * 0 + (b - 48)) bs)
unfolding count_of decimal
begins b bs h = go (is_digit b) refl
  where
    go : (x : Bool) → is_digit b ≡ x → (48 ≤ b) × (b ≤ 57) × (count_of (b ∷ bs) ≡ decimal (10 * 0 + (b - 48)) bs)
    go true e = let k = digit-is b e in (k.0, k.1, rw (count_of, e, decimal, e))
    go false e = false-true (rw (count_of, e) at h)

-- and goes on with another, or there are only spaces
goes_on : {P : Type 0} (v b : ℕ) (bs : List ℕ) → count_fits (decimal v (b ∷ bs)) ≡ true →
    (48 ≤ b → b ≤ 57 → decimal v (b ∷ bs) ≡ decimal (10 * v + (b - 48)) bs → P) → (all_spaces (b ∷ bs) ≡ true → decimal v (b ∷ bs) ≡ some v → P) → P
unfolding decimal
goes_on {P} v b bs h f g = go (is_digit b) (all_spaces (b ∷ bs)) refl refl
  where
    go : (x y : Bool) → is_digit b ≡ x → all_spaces (b ∷ bs) ≡ y → P
    go true y e d = let k = digit-is b e in f k.0 k.1 (rw (decimal, e))
    go false true e d = g d (rw (decimal, e, d))
    go false false e d = false-true (rw (decimal, e, d) at h)

fits_low : (v : ℕ) → count_fits (some v) ≡ true → v ≤ 64
unfolding between
fits_low v h = leb-true v 64 (and-true (leb 1 v) (leb v 64) h).1

at_most : (v : ℕ) (bs : List ℕ) → count_fits (decimal v bs) ≡ true → v ≤ 64
unfolding decimal
at_most v [] h = fits_low v h
at_most v (b ∷ bs) h = goes_on v b bs h (λ _ _ e. let k = at_most (10 * v + (b - 48)) bs (rw e at h) in omega arith) (λ _ e. fits_low v (rw e at h))

module _ (a b c d : ℕ) (low : 48 ≤ a) (high : a ≤ 57) where
  one_only : all_spaces (b ∷ c ∷ d ∷ []) ≡ true → a ∷ b ∷ c ∷ d ∷ [] ≡ digits (10 * 0 + (a - 48))
  one_only h =
      let e : a ≡ 48 + (10 * 0 + (a - 48)) = omega arith in
      let k = spaces-are (b ∷ c ∷ d ∷ []) h in
      let l : 10 * 0 + (a - 48) < 10 = omega arith in
      let z : a ∷ b ∷ c ∷ d ∷ [] ≡ (48 + (10 * 0 + (a - 48))) ∷ 32 ∷ 32 ∷ 32 ∷ [] = λ i. e i ∷ k i in
      z ∙ sym (one-digit (10 * 0 + (a - 48)) l)

  two-only : (a ≡ 48 → ⊥) → 48 ≤ b → b ≤ 57 → all_spaces (c ∷ d ∷ []) ≡ true → a ∷ b ∷ c ∷ d ∷ [] ≡ digits (10 * (10 * 0 + (a - 48)) + (b - 48))
  two-only n x y h =
      let m : 48 < a = omega arith in
      let e : a ≡ 48 + (10 * (10 * 0 + (a - 48)) + (b - 48)) / 10 = omega arith in
      let f : b ≡ 48 + (10 * (10 * 0 + (a - 48)) + (b - 48)) % 10 = omega arith in
      let k = spaces-are (c ∷ d ∷ []) h in
      let l : 10 ≤ 10 * (10 * 0 + (a - 48)) + (b - 48) = omega arith in
      let z : a ∷ b ∷ c ∷ d ∷ [] ≡ (48 + (10 * (10 * 0 + (a - 48)) + (b - 48)) / 10) ∷ (48 + (10 * (10 * 0 + (a - 48)) + (b - 48)) % 10) ∷ 32 ∷ 32 ∷ [] = λ i. e i ∷ f i ∷ k i in
      z ∙ sym (two_digits (10 * (10 * 0 + (a - 48)) + (b - 48)) l)

  -- a third would make K too large
  behind : (a ≡ 48 → ⊥) → count_fits (decimal (10 * 0 + (a - 48)) (b ∷ c ∷ d ∷ [])) ≡ true → a ∷ b ∷ c ∷ d ∷ [] ≡ digits (count_is (decimal (10 * 0 + (a - 48)) (b ∷ c ∷ d ∷ [])))
  behind n h =
      goes_on (10 * 0 + (a - 48)) b (c ∷ d ∷ []) h
      (λ x y e.
      let k = rw e at h in
      goes_on (10 * (10 * 0 + (a - 48)) + (b - 48)) c (d ∷ []) k
      (λ u v f. absurd (omega (arith, at_most (10 * (10 * (10 * 0 + (a - 48)) + (b - 48)) + (c - 48)) (d ∷ []) (rw f at k))))
      (λ g f. two-only n x y g ∙ ap (λ (o : Option ℕ). digits (count_is o)) (sym (e ∙ f))))
      (λ g e. one_only g ∙ ap (λ (o : Option ℕ). digits (count_is o)) (sym e))

pub digits-only : (d : List ℕ) → length d ≡ 4 → count_fits (count_of d) ≡ true → (get_or d 0 0 ≡ 48 → ⊥) → d ≡ digits (count_is (count_of d))
digits-only [] l h n = absurd (omega arith)
digits-only (a ∷ []) l h n = absurd (omega arith)
digits-only (a ∷ b ∷ []) l h n = absurd (omega arith)
digits-only (a ∷ b ∷ c ∷ []) l h n = absurd (omega arith)
digits-only (a ∷ b ∷ c ∷ d ∷ x ∷ s) l h n = absurd (omega arith)
digits-only (a ∷ b ∷ c ∷ d ∷ []) l h n =
    let f = begins a (b ∷ c ∷ d ∷ []) h in
    behind a b c d f.0 f.1 n (rw f.2 at h) ∙ ap (λ (o : Option ℕ). digits (count_is o)) (sym f.2)

-- digits without a leading zero have none

pub record Leading (d : List ℕ) : Type 0 where
  pub long : length d ≡ 4
  pub first : 48 < get_or d 0 0

pub leading : (k : ℕ) → 1 ≤ k → k ≤ 64 → Leading (digits k)
leading k h l = go (ltb k 10) refl
  where
    go : (x : Bool) → ltb k 10 ≡ x → Leading (digits k)
    go true e = rw (one-digit k (ltb-true k 10 e)) (record { long = refl; first = omega arith })
    go false e = let m : 10 ≤ k = ltb-false k 10 e in rw (two_digits k m) (record { long = refl; first = omega arith })
