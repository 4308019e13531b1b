-- `measures::measure_for` meets its contract: a length beyond what the largest multiplier serves has no measure.
-- Assumes nothing.
use native.Mathlib.Omega.{arith}
use Rattle.measures.proofs.Measures.{measure-long, measure-over, measure-on}
use Rattle.measures.proofs.measure_for.Goals as goal

pub returns-then-n-gt-LIMIT : goal.returns-then-n-gt-LIMIT
returns-then-n-gt-LIMIT c = measure-long _ _ _ _ _ _ _ (omega arith)

pub returns-then-whole-gt-LIMIT : goal.returns-then-whole-gt-LIMIT
returns-then-whole-gt-LIMIT c = measure-over _ _ _ _ _ _ _ _ c.size_for-signals.ensures.is (omega arith) (omega arith)

pub returns : goal.returns
returns c = measure-on _ _ _ _ _ _ _ _ _ c.size_for-signals.ensures.is c.size_for.ensures.is (omega arith) (omega arith)
