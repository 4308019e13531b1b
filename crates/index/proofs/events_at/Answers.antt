-- `index::events_at` meets its contract: the type and the format are read.
-- Assumes nothing.
use mathlib.Core.Path.{◌≡◌, sym, ◌∙◌}
use mathlib.Core.Bool.{false, ◌&&◌}
use Prim.Native.Nat.{ℕ, ◌+◌}
use borrow.Author.Tests.{ne_eqb, eq-eqb}
use lib.Dec.{eqb}
use Rattle.words.specs.Numbers.{number_at}
use Rattle.index.specs.Listing.{events_at}
use Rattle.index.proofs.events_at.Goals as goal

-- by the type, and by the format
no-type : (a b : ℕ) → (a ≡ 1 → ⊥) → false ≡ eqb a 1 && eqb b 1
no-type a b h = rw (ne_eqb a 1 h)

its-type : (a b n : ℕ) → a ≡ 1 → n ≡ b → eqb n 1 ≡ eqb a 1 && eqb b 1
its-type a b n h e = rw (eq-eqb a 1 h, e)

pub returns-then-number-ne-EVENTS : goal.returns-then-number-ne-EVENTS
unfolding events_at
returns-then-number-ne-EVENTS c =
    let a = c.args in
    no-type (number_at a.o 4 a.s.now (a.p + 24)) (number_at a.o 4 a.s.now (a.p + 28)) (λ z. c.if-number-ne-EVENTS.true (c.number.ensures.0 ∙ z))

pub returns : goal.returns
unfolding events_at
returns c =
    let a = c.args in
    its-type (number_at a.o 4 a.s.now (a.p + 24)) (number_at a.o 4 a.s.now (a.p + 28)) c.number-2.result
    (sym c.number.ensures.0 ∙ c.if-number-ne-EVENTS.false) c.number-2.ensures.0
