-- `records::items::item_at` meets its contract: one case for each test, in the order of the rules. Assumes nothing.
use Rattle.walk.specs.See.{gate, over, goes, see}
use Rattle.walk.specs.Walk.{◌>>=◌, ◌>>◌}
use Rattle.walk.proofs.Seen.{leb-fits, tests, places}
use Rattle.rules.specs.Rules.{item}
use Prim.Native.Nat.{ℕ}
use mathlib.Core.Path.{ap}
use native.Mathlib.Omega.{arith}
use Rattle.records.proofs.items.item_at.Goals as goal

pub returns-then-n-p : goal.returns-then-n-p
unfolding item see over gate ◌>>=◌ ◌>>◌
returns-then-n-p c = record { seen = simp (places, tests, c.if-n-p.true); stands = tt }

pub returns-then-size-lt-LEAST : goal.returns-then-size-lt-LEAST
unfolding item see over gate ◌>>=◌ ◌>>◌
returns-then-size-lt-LEAST c = record { seen = simp (places, tests, c.if-size-lt-LEAST.true, ← c.number-size.ensures.0, c.if-n-p.false); stands = tt }

pub returns-then-size-ge-LIMIT : goal.returns-then-size-ge-LIMIT
unfolding item see over gate ◌>>=◌ ◌>>◌
returns-then-size-ge-LIMIT c = record { seen = simp (places, tests, c.if-size-ge-LIMIT.true, c.if-size-lt-LEAST.false, ← c.number-size.ensures.0, c.if-n-p.false); stands = tt }

pub returns-then-n-p-2 : goal.returns-then-n-p-2
unfolding item see over gate ◌>>=◌ ◌>>◌
returns-then-n-p-2 c =
    record { seen = simp (places, tests, leb-fits _ _ c.requires.low, c.if-n-p-2.true, c.if-size-ge-LIMIT.false, c.if-size-lt-LEAST.false, ← c.number-size.ensures.0, c.if-n-p.false); stands = tt }

pub returns-then-code_ok : goal.returns-then-code_ok
unfolding item see over gate ◌>>=◌ ◌>>◌
returns-then-code_ok c =
    record { seen = simp (places, tests, leb-fits _ _ c.requires.low, c.if-code_ok.true, ← c.code_ok.ensures, ← c.number-code.ensures.0, c.if-n-p-2.false, c.if-size-ge-LIMIT.false, c.if-size-lt-LEAST.false, ← c.number-size.ensures.0, c.if-n-p.false) (ap (λ (x : ℕ). goes tt x) (omega arith)); stands = record { low = omega arith; inside = omega arith } }

pub returns : goal.returns
unfolding item see over gate ◌>>=◌ ◌>>◌
returns c =
    record { seen = simp (places, tests, leb-fits _ _ c.requires.low, c.if-code_ok.false, ← c.code_ok.ensures, ← c.number-code.ensures.0, c.if-n-p-2.false, c.if-size-ge-LIMIT.false, c.if-size-lt-LEAST.false, ← c.number-size.ensures.0, c.if-n-p.false); stands = tt }
