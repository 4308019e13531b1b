-- No code stands twice in the standard's table, so that the order in which it is searched does not matter.
-- Assumes nothing.
use mathlib.Core.Path.{◌≡◌, refl, sym, ap, ◌∙◌}
use mathlib.Core.Bool.{Bool, true, ◌&&◌, not}
use mathlib.Core.List.{List, [], ◌∷◌}
use Prim.Native.Nat.{ℕ, zero, suc}
use borrow.Author.Tests.{eq-eqb, ne_eqb}
use lib.Dec.{eqb}
use Rattle.walk.proofs.Apart.{false-true}
use Rattle.recordings.specs.Answers.{value, indexed}
use Rattle.rules.proofs.Renew.{and-true}
use Rattle.recordings.proofs.Chosen.{refusal-value}
use Rattle.codes.specs.Codes.{Published, published, kind_in, unpublished, kind_of, KindIs}
use Rattle.codes.specs.declared.EventKind.{EventKind}

-- A table without two entries of one code: a test that the checker computes, and what it shows

abbrev fresh : ℕ → List Published → Bool
fresh c [] = true
fresh c (p ∷ ps) = not (eqb c p.code) && fresh c ps

abbrev apart : List Published → Bool
apart [] = true
apart (p ∷ ps) = fresh p.code ps && apart ps

fresh-not : (c : ℕ) (l : List Published) → fresh c l ≡ true → (i : ℕ) (p : Published) → indexed l i ≡ value p → c ≡ p.code → ⊥
unfolding indexed
fresh-not c [] h i p e f = refusal-value e
fresh-not c (q ∷ l) h zero p e f =
    let g : q ≡ p = cc in
    false-true (rw (eq-eqb c q.code (f ∙ ap (λ (x : Published). x.code) (sym g))) at (and-true (not (eqb c q.code)) (fresh c l) h).0)
fresh-not c (q ∷ l) h (suc i) p e f = fresh-not c l (and-true (not (eqb c q.code)) (fresh c l) h).1 i p e f

distinct : (l : List Published) → apart l ≡ true → (i j : ℕ) (p q : Published) → indexed l i ≡ value p → indexed l j ≡ value q → p.code ≡ q.code → i ≡ j
unfolding indexed
distinct [] h i j p q e f g = refusal-value e
distinct (x ∷ l) h zero zero p q e f g = refl
distinct (x ∷ l) h zero (suc j) p q e f g =
    let k : x ≡ p = cc in
    absurd (fresh-not x.code l (and-true (fresh x.code l) (apart l) h).0 j q f (ap (λ (y : Published). y.code) k ∙ g))
distinct (x ∷ l) h (suc i) zero p q e f g =
    let k : x ≡ q = cc in
    absurd (fresh-not x.code l (and-true (fresh x.code l) (apart l) h).0 i p e (ap (λ (y : Published). y.code) k ∙ sym g))
distinct (x ∷ l) h (suc i) (suc j) p q e f g = ap suc (distinct l (and-true (fresh x.code l) (apart l) h).1 i j p q e f g)

listed : (l : List Published) (other : EventKind) → apart l ≡ true → (i : ℕ) (p : Published) → indexed l i ≡ value p → kind_in l other p.code ≡ p.kind
unfolding indexed kind_in
listed [] other h i p e = refusal-value e
listed (q ∷ l) other h zero p e =
    let g : q ≡ p = cc in
    rw (g, eq-eqb p.code p.code refl)
listed (q ∷ l) other h (suc i) p e =
    let (new, rest) = and-true (fresh q.code l) (apart l) h in
    rw (ne_eqb p.code q.code (λ f. fresh-not q.code l new i p e (sym f))) (listed l other rest i p e)

unlisted : (l : List Published) (other : EventKind) (c : ℕ) → ((i : ℕ) (p : Published) → indexed l i ≡ value p → c ≡ p.code → ⊥) → kind_in l other c ≡ other
unfolding indexed kind_in
unlisted [] other c u = refl
unlisted (q ∷ l) other c u = rw (ne_eqb c q.code (u 0 q refl)) (unlisted l other c (λ i. u (suc i)))

-- The standard's

all_apart : apart published ≡ true
unfolding published
all_apart = refl

pub codes-distinct : (i j : ℕ) (p q : Published) → indexed published i ≡ value p → indexed published j ≡ value q → p.code ≡ q.code → i ≡ j
codes-distinct = distinct published all_apart

pub kind-is : (c : ℕ) → KindIs c (kind_of c)
kind-is c = record {
  listed = λ i p e f. rw f (listed published (unpublished p.code) all_apart i p e);
  user = λ u e. unlisted published (unpublished c) c u ∙ rw (eq-eqb _ 1 e);
  reserved = λ u e. unlisted published (unpublished c) c u ∙ rw (ne_eqb _ 1 e);
}
