-- The canonical file header, written piece by piece.
-- Assumes nothing.
use mathlib.Core.Path.{◌≡◌, refl, sym, ap, ◌∙◌}
use mathlib.Core.Bool.{Bool, true, false}
use mathlib.Core.List.{List, [], ◌∷◌, ◌++◌}
use Prim.Native.Nat.{ℕ, ◌+◌, ◌-◌, ◌≤◌}
use native.Mathlib.Omega.{arith}
use borrow.Author.Tests.{ltb-true, ltb-false}
use lib.Dec.{ltb}
use lib.ListN.{length, set, replicate}
use Rattle.words.specs.declared.Order.{Order}
use Rattle.words.proofs.Fronts.{put, Begun, begun, begun_more, begun-byte, begun-end}
use Rattle.walk.specs.Walk.{Letter, Text, laid, render}
use Rattle.walk.proofs.Laid.{laid-text, length-laid}
use Rattle.rules.specs.Rules as R
use Rattle.rules.specs.Canonical as C
use Rattle.rules.proofs.Canon.{one-digit, two_digits}
use Rattle.rules.proofs.Named.{spells, versions, forms}

-- a text comes next
begun-text : {m : ℕ} {all : List ℕ} (o : Order) (d : List ℕ) (n k : ℕ) (xs ys rest : List ℕ) → ys ≡ xs → length xs ≡ k → n + k ≤ m →
    Begun m all d n (laid o Text xs ++ rest) → Begun m all (put n k d ys) (n + k) rest
begun-text o d n k xs ys rest e h f b = begun_more d n k (laid o Text xs) ys rest (e ∙ sym (laid-text o xs)) (length-laid o Text xs ∙ h) f b

-- the digits of a number

length_digits : (k : ℕ) → length (C.digits k) ≡ 4
length_digits k = go (ltb k 10) refl
  where
    go : (x : Bool) → ltb k 10 ≡ x → length (C.digits k) ≡ 4
    go true e = ap length (one-digit k (ltb-true k 10 e))
    go false e = ap length (two_digits k (ltb-false k 10 e))

pub header-written : (o : Order) (g : R.Heading) (count letter : ℕ) (d y₁ y₂ y₃ y₄ y₅ : List ℕ) → length d ≡ 32 →
    y₁ ≡ R.spelled g.spelling → y₂ ≡ R.versioned g.label.version → y₃ ≡ R.formed g.label.form → laid o Letter (76 ∷ []) ≡ letter ∷ [] → y₄ ≡ C.digits count →
    y₅ ≡ replicate 10 32 →
    let d₆ = put 18 4 (set (set (put 14 2 (put 8 6 (put 0 8 d y₁) y₂) y₃) 16 letter) 17 g.script) y₄ in
    put 22 (length d₆ - 22) d₆ y₅ ≡ render o (C.header_events g count)
unfolding render C.header_events
header-written o g count letter d y₁ y₂ y₃ y₄ y₅ l e₁ e₂ e₃ e₄ e₅ e₆ =
    begun-end _ 22 _ y₅ (e₆ ∙ sym (laid-text o (replicate 10 32))) (omega (arith, length-laid o Text (replicate 10 32)))
    (begun-text o _ 18 4 (C.digits count) y₄ _ e₅ (length_digits count) (omega arith)
    (begun-byte _ 17 g.script _ _ (laid-text o (g.script ∷ [])) (omega arith)
    (begun-byte _ 16 letter _ _ e₄ (omega arith)
    (begun-text o _ 14 2 (R.formed g.label.form) y₃ _ e₃ (forms g.label.form).long (omega arith)
    (begun-text o _ 8 6 (R.versioned g.label.version) y₂ _ e₂ (versions g.label.version).long (omega arith)
    (begun-text o d 0 8 (R.spelled g.spelling) y₁ _ e₁ (spells g.spelling).long (omega arith) (begun d l)))))))
