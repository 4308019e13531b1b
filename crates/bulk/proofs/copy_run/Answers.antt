-- `bulk::copy_run` meets its contract: after i turns the first i bytes are written.
-- Assumes nothing.
use mathlib.Core.Path.{refl, ◌∙◌}
use native.Mathlib.Omega.{arith}
use lib.Seq.{take_all}
use borrow.Author.Rules.{rules}
use Rattle.bulk.proofs.Loops.{copied_more, all_done}
use Rattle.bulk.proofs.copy_run.Goals as goal

pub loop-i-init : goal.loop-i-init
loop-i-init c = (refl, search rules)

pub loop-i-preserved : goal.loop-i-preserved
loop-i-preserved c =
    let l = c.loop-i in
    (copied_more l.dst _ l.i (omega arith) (omega arith) l.invariant.0, search rules)

pub returns : goal.returns
returns c =
    let l = c.loop-i in
    all_done l.dst _ l.i l.invariant.0 (omega arith) ∙ take_all l.i _ (omega arith)
