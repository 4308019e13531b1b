-- `overview::started_by` meets its contract, by its two tests.
-- Assumes nothing.
use mathlib.Core.Path.{refl}
use native.Mathlib.Omega.{arith}
use borrow.Author.Rules.{rules}
use Rattle.overview.proofs.Seconds.{seconds-low, started-all, started-some}
use Rattle.overview.proofs.started_by.Goals as goal

pub overflow_add-n : goal.overflow_add-n
overflow_add-n c = record { fits = omega (arith, seconds-low c.args.t (search rules) (search rules), c.requires.low) }

pub returns-then-all-n : goal.returns-then-all-n
returns-then-all-n c = started-all _ _ _ refl c.if-all-n.true

pub returns : goal.returns
returns c = started-some _ _ _ refl c.if-all-n.false
