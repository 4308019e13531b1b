-- `bodies::basic_body` meets its contract: what is written piece by piece is the body of the record.
-- Assumes nothing.
use mathlib.Core.Path.{sym, ◌∙◌}
use Rattle.bodies.proofs.Pieces.{basic_body-written}
use Rattle.bodies.proofs.basic_body.Goals as goal

pub returns : goal.returns
returns c =
    let a = c.args in
    basic_body-written a.w a.s.now a.d.now _ _ _ _ _ _ _ c.requires.source (c.requires.room ∙ sym c.requires.source)
    c.numbers.ensures
    c.reserved.ensures
    c.numbers-2.ensures
    c.copy_run.ensures
    c.numbers-3.ensures
    c.reserved-2.ensures
    c.copy_run-2.ensures
