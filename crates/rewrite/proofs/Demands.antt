-- One answer and one buffer meet the contract of `rewrite`; and what `rewrite` answers and writes of an accepted file, on which demands 2 and 3
-- (crate `demands`) rest.
-- Assumes nothing.
use Rattle.std.proofs.Common.{Result, Ok, Some}
use Rattle.rules.specs.declared.Refusal.{Refusal}
use mathlib.Core.Path.{◌≡◌, refl, sym, ap, ◌∙◌}
use mathlib.Core.Bool.{Bool, true, false}
use mathlib.Core.List.{List, []}
use mathlib.Core.Option.{Option, none}
use Prim.Native.Nat.{ℕ, ◌≤◌}
use borrow.Author.Tests.{le-leb}
use lib.ListN.{length, take, drop}
use Rattle.words.specs.Numbers.{Bytes}
use Rattle.words.specs.declared.Order.{Order}
use Rattle.walk.specs.Walk.{Event, pick, passed, rows}
use Rattle.rules.specs.Canonical.{rewritten, Canonical}
use Rattle.rules.specs.Reading.{reading}
use Rattle.rules.specs.Rules.{File, judge, order_of}
use Rattle.rules.specs.Turned.{turned}
use Rattle.rules.proofs.Rewrite.{rewrite-canonical, rewrite-order, rewrite-turned}
use Rattle.rules.proofs.Turn.{turn-judge}
use Rattle.header.specs.Letters.{lettered}
use Rattle.bodies.specs.Orders.{same_order}
use Rattle.makers.specs.Makers.{first_maker}
use Rattle.permit.proofs.Settled.{writes-unique, writes_bytes}
use Rattle.turn.specs.Turn.{Turns}
use Rattle.turn.proofs.Demands.{turn-answers}
use Rattle.rewrite.specs.Rewrite.{barrier, answer_of, rewritten_in, Rewrites}

pub rewrite-unique : (s : List ℕ) (order : ℕ) (out out₁ out₂ : List ℕ) (a b : Result ℕ Refusal) → Rewrites s order out out₁ a → Rewrites s order out out₂ b →
    (a ≡ b) × (out₁ ≡ out₂)
rewrite-unique s order out out₁ out₂ a b x y = writes-unique (answer_of s order (length out)) (rewritten_in (lettered order) s) out out₁ out₂ a b x y

-- a file that is accepted, a letter that names an order, nothing in the way, and a buffer with room
module _ (s : List ℕ) {v : File} {t : List Event} (h : judge s ≡ passed v [] t) (order : ℕ) (to : Order) (names : lettered order ≡ Some to)
    (free : barrier (order_of s) to (first_maker (rows 0 t)) ≡ none) where
  abbrev need : ℕ
  need = length (rewritten to s)

  module _ (out out' : List ℕ) (a : Result ℕ Refusal) (room : need ≤ length out) (x : Rewrites s order out out' a) where
    -- the answer is the canonical file's length, what was written is the canonical file, and the bytes beyond it stand
    pub rewrite-answers : (a ≡ Ok need) × (take need out' ≡ rewritten to s) × (drop need out' ≡ drop need out)
    rewrite-answers = writes_bytes need (rewritten to s) out out' a refl (rw (h, names, free, le-leb need (length out) room) at x)

    -- what was written is accepted, has the file's reading and is the canonical file of it, in the order asked for
    pub rewrite-accepted : Bytes s → Canonical (reading v) (take need out') × (order_of (take need out') ≡ to)
    rewrite-accepted b = rw rewrite-answers.1 (rewrite-canonical s b h to, rewrite-order s b h to)

-- no maker's record, nothing in the way
clear : (o to : Order) {m : Option ℕ} → m ≡ none → barrier o to m ≡ none
clear o to {m} h = go (same_order o to)
  where
    go : (c : Bool) → pick c none m ≡ none
    go true = refl
    go false = h

-- a file without makers' records and what `turn` wrote of it, rewritten in one order, give one answer and the same bytes
pub rewrite-both : (s : List ℕ) → Bytes s → {v : File} {t : List Event} (h : judge s ≡ passed v [] t) (free : first_maker (rows 0 t) ≡ none) →
    (out out' : List ℕ) (a : Result ℕ Refusal) → length s ≤ length out → Turns s out out' a →
    (order : ℕ) (to : Order) → lettered order ≡ Some to →
    (out₁ out₁' : List ℕ) (a₁ : Result ℕ Refusal) → length (rewritten to s) ≤ length out₁ → Rewrites s order out₁ out₁' a₁ →
    (out₂ out₂' : List ℕ) (a₂ : Result ℕ Refusal) → length (rewritten to s) ≤ length out₂ → Rewrites (take (length s) out') order out₂ out₂' a₂ →
    (a₁ ≡ a₂) × (take (length (rewritten to s)) out₁' ≡ take (length (rewritten to s)) out₂')
rewrite-both s b h free out out' a room x order to names out₁ out₁' a₁ l₁ x₁ out₂ out₂' a₂ l₂ x₂ =
    let e : take (length s) out' ≡ turned s = (turn-answers s h free b out out' a room x).1 in
    let k : rewritten to (turned s) ≡ rewritten to s = rewrite-turned s b h to in
    let n : length (rewritten to (turned s)) ≡ length (rewritten to s) = ap length k in
    let y = rewrite-answers s h order to names (clear (order_of s) to free) out₁ out₁' a₁ l₁ x₁ in
    let z = rewrite-answers (turned s) (turn-judge s b h) order to names (clear (order_of (turned s)) to free) out₂ out₂' a₂ (rw n l₂) (rw e at x₂) in
    (y.0 ∙ sym (z.0 ∙ ap Ok n), y.1 ∙ sym (rw n at z.1 ∙ k))
