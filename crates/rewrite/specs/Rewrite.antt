-- The answer of `rewrite` for a file, a letter and a buffer, and what the buffer holds afterwards, by the rules' outcome for the file.
-- Assumes nothing.
use Rattle.std.specs.Prelude.{Result, Some, None}
use Rattle.rules.specs.declared.Refusal.{Refusal}
use Rattle.std.specs.Prelude as Std
use Rattle.std.specs.Prelude.{List, [], ℕ, length}
use Rattle.std.proofs.Math.Option.{Option, none}
use Rattle.words.specs.declared.Order.{Order}
use Rattle.walk.specs.Walk.{Event, pick, Outcome, refused, passed, rows}
use Rattle.rules.specs.Rules as R
use Rattle.rules.specs.Canonical as C
use Rattle.header.specs.Letters.{lettered}
use Rattle.bodies.specs.Orders.{same_order}
use Rattle.makers.specs.Makers.{first_maker}
use Rattle.permit.specs.Permit.{Answer, refusal, permitted, settled, Writes}

-- a maker's record stands in the way only where the order asked for is not the file's
abbrev pub barrier : Order → Order → Option ℕ → Option ℕ
barrier o to made = pick (same_order o to) none made

-- of an accepted file with these events: the letter names no order, or 18 and 17 are looked at
abbrev pub asked : Std.Option Order → List ℕ → List Event → ℕ → Answer
asked None s t room = refusal 19 0
asked (Some to) s t room = permitted (barrier (R.order_of s) to (first_maker (rows 0 t))) (length (C.rewritten to s)) room

abbrev pub answered : Outcome R.File → Std.Option Order → List ℕ → ℕ → Answer
answered (refused n p) a s room = refusal n p
answered (passed v r t) a s room = asked a s t room

-- the answer for a file and a letter, with room for so many bytes
abbrev pub answer_of : List ℕ → ℕ → ℕ → Answer
answer_of s order room = answered (R.judge s) (lettered order) s room

-- the canonical file in the order that a letter names
abbrev pub rewritten_in : Std.Option Order → List ℕ → List ℕ
rewritten_in (Some to) s = C.rewritten to s
rewritten_in None s = []

-- the buffer afterwards: the canonical file in its first bytes where the answer is a length, else as it was
abbrev pub afterwards : List ℕ → ℕ → List ℕ → List ℕ
afterwards s order out = settled (answer_of s order (length out)) (rewritten_in (lettered order) s) out

-- what `rewrite` answers, and what the buffer then holds
abbrev pub Rewrites : List ℕ → ℕ → List ℕ → List ℕ → Result ℕ Refusal → Type 0
Rewrites s order out out' a = Writes (answer_of s order (length out)) (rewritten_in (lettered order) s) out out' a
