-- `measures::size_for` meets its contract: the size alone, or with the smallest multiplier that serves.
-- Assumes nothing.
use native.Mathlib.Omega.{arith}
use Rattle.measures.specs.Measures.{Large}
use Rattle.measures.proofs.Measures.{serves-once, share-small, serves_more}
use Rattle.measures.proofs.size_for.Goals as goal

-- a size alone does not serve
large : (c : goal.After-multiplier_for-m) → Large c.args.n
large c = record { more = omega (arith, c.if-n-le-MOST.false); served = c.requires }

pub returns-then-n-le-MOST : goal.returns-then-n-le-MOST
returns-then-n-le-MOST c = serves-once c.args.n (omega arith)

pub overflow_cast-result-2 : goal.overflow_cast-result-2
overflow_cast-result-2 c = record { fits = omega (arith, share-small c.args.n (large c) c.multiplier_for-m.result c.multiplier_for-m.ensures.is) }

pub returns : goal.returns
returns c = serves_more c.args.n (large c) c.multiplier_for-m.result c.multiplier_for-m.ensures.is
