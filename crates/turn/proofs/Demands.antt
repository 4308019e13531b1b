-- One answer and one buffer meet the contract of `turn`; and what `turn` answers and writes of an accepted file, on which demand 3 (crate `demands`) rests.
-- Assumes nothing.
use Rattle.std.proofs.Common.{Result, Ok}
use Rattle.rules.specs.declared.Refusal.{Refusal}
use mathlib.Core.Path.{◌≡◌, sym, ap, ◌∙◌}
use mathlib.Core.List.{List, []}
use mathlib.Core.Option.{none}
use Prim.Native.Nat.{ℕ, ◌≤◌}
use native.Mathlib.Omega.{arith}
use borrow.Author.Tests.{le-leb}
use lib.ListN.{length, take, drop}
use Rattle.words.specs.Numbers.{Bytes, other}
use Rattle.walk.specs.Walk.{Event, passed, rows}
use Rattle.rules.specs.Rules.{File, judge, order_of}
use Rattle.rules.specs.Turned.{turned}
use Rattle.rules.proofs.Turn.{turn-judge, turn-length, turn-order, turn-turn}
use Rattle.makers.specs.Makers.{first_maker}
use Rattle.permit.specs.Permit.{bytes, Writes}
use Rattle.permit.proofs.Settled.{writes-unique, writes_bytes}
use Rattle.turn.specs.Turn.{answer_of, Turns}

pub turn-unique : (s out out₁ out₂ : List ℕ) (a b : Result ℕ Refusal) → Turns s out out₁ a → Turns s out out₂ b → (a ≡ b) × (out₁ ≡ out₂)
turn-unique s out out₁ out₂ a b x y = writes-unique (answer_of s (length out)) (turned s) out out₁ out₂ a b x y

-- what the contract says of a file that is accepted, without makers' records, and a buffer with room
said : (s : List ℕ) {v : File} {t : List Event} → judge s ≡ passed v [] t → first_maker (rows 0 t) ≡ none → (out out' : List ℕ) (a : Result ℕ Refusal) →
    length s ≤ length out → Turns s out out' a →
    Writes (bytes (length s)) (turned s) out out' a
said s h free out out' a l x = rw (h, free, le-leb (length s) (length out) l) at x

module _ (s : List ℕ) {v : File} {t : List Event} (h : judge s ≡ passed v [] t) (free : first_maker (rows 0 t) ≡ none) where
  module _ (b : Bytes s) (out out' : List ℕ) (a : Result ℕ Refusal) (room : length s ≤ length out) (x : Turns s out out' a) where
    -- the answer is the file's length, what was written is the turned file, and the bytes beyond it stand
    pub turn-answers : (a ≡ Ok (length s)) × (take (length s) out' ≡ turned s) × (drop (length s) out' ≡ drop (length s) out)
    turn-answers = writes_bytes (length s) (turned s) out out' a (turn-length s b h) (said s h free out out' a room x)

    -- what was written is accepted, with the file's value and its events; it is as long, and in the other order
    pub turn-accepted : (judge (take (length s) out') ≡ passed v [] t) × (length (take (length s) out') ≡ length s) ×
        (order_of (take (length s) out') ≡ other (order_of s))
    turn-accepted =
        let y : take (length s) out' ≡ turned s = turn-answers.1 in
        (rw y (turn-judge s b h), rw y (turn-length s b h), rw y (turn-order s b h))

    -- and turning it gives the file back, byte for byte
    pub turn_twice : (out₂ out₂' : List ℕ) (c : Result ℕ Refusal) → length s ≤ length out₂ → Turns (take (length s) out') out₂ out₂' c →
        (c ≡ Ok (length s)) × (take (length s) out₂' ≡ s)
    turn_twice out₂ out₂' c l z =
        let n : length (turned s) ≡ length s = turn-length s b h in
        let y : take (length s) out' ≡ turned s = turn-answers.1 in
        let w = writes_bytes (length (turned s)) (turned (turned s)) out₂ out₂' c (ap length (turn-turn s b h) ∙ sym n)
        (said (turned s) (turn-judge s b h) free out₂ out₂' c (omega (arith, n)) (rw y at z)) in
        (w.0 ∙ ap Ok n, rw (← n) w.1 ∙ turn-turn s b h)
