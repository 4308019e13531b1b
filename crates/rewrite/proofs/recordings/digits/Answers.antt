-- `rewrite::recordings::digits` meets its contract: one digit or two, and spaces.
-- Assumes nothing.
use native.Mathlib.Omega.{arith}
use Rattle.rules.proofs.Canon.{one-digit, two_digits}
use Rattle.rewrite.proofs.recordings.digits.Goals as goal

pub returns-then-count-lt10 : goal.returns-then-count-lt10
returns-then-count-lt10 c = rw (c.copy_run.ensures, one-digit c.args.count (omega arith))

pub returns-else-count-lt10 : goal.returns-else-count-lt10
returns-else-count-lt10 c = rw (c.copy_run.ensures, two_digits c.args.count (omega arith))
