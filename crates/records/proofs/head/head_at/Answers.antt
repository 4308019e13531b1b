-- `records::head::head_at` meets its contract: no room for 16 bytes, or the four numbers. Assumes nothing.
use Rattle.walk.proofs.Seen.{walks, tests}
use Rattle.rules.specs.Rules.{head}
use borrow.Author.Rules.{rules}
use Rattle.records.proofs.head.head_at.Goals as goal

pub returns-then-s-p : goal.returns-then-s-p
unfolding head
returns-then-s-p c = record { seen = simp (walks, tests, c.if-s-p.true); stands = tt }

pub returns : goal.returns
unfolding head
returns c =
    record { seen = simp (walks, tests, ← c.number-multiplier.ensures.0, ← c.number-serial.ensures.0, ← c.number-code.ensures.0, ← c.number-size.ensures.0, c.if-s-p.false); stands = search rules }
