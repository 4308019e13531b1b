-- A record's head, from its four numbers written front to back.
-- Assumes nothing.
use mathlib.Core.Path.{◌≡◌}
use mathlib.Core.List.{List}
use Prim.Native.Nat.{ℕ, ◌-◌}
use native.Mathlib.Omega.{arith}
use lib.ListN.{length}
use Rattle.words.specs.Numbers.{bytes_in}
use Rattle.words.specs.declared.Order.{Order}
use Rattle.words.proofs.Fronts.{put, begun, begun_more, begun-end}
use Rattle.words.proofs.Words.{length-bytes_in}
use Rattle.walk.specs.Walk.{render}
use Rattle.rules.specs.Canonical.{numerals}
use Rattle.rules.specs.Rules.{Head}

pub head-written : (o : Order) (h : Head) (d y₁ y₂ y₃ y₄ : List ℕ) → length d ≡ 16 →
    y₁ ≡ bytes_in o 4 h.size → y₂ ≡ bytes_in o 4 h.code → y₃ ≡ bytes_in o 4 h.serial → y₄ ≡ bytes_in o 4 h.multiplier →
    let d₃ = put 8 4 (put 4 4 (put 0 4 d y₁) y₂) y₃ in
    put 12 (length d₃ - 12) d₃ y₄ ≡ render o (numerals h)
unfolding render
head-written o h d y₁ y₂ y₃ y₄ l e₁ e₂ e₃ e₄ =
    begun-end _ 12 _ y₄ e₄ (omega (arith, length-bytes_in o 4 h.multiplier))
    (begun_more _ 8 4 _ y₃ _ e₃ (length-bytes_in o 4 h.serial) (omega arith)
    (begun_more _ 4 4 _ y₂ _ e₂ (length-bytes_in o 4 h.code) (omega arith)
    (begun_more d 0 4 _ y₁ _ e₁ (length-bytes_in o 4 h.size) (omega arith) (begun d l))))
