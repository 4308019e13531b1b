-- `bodies::number_if` meets its contract: a field is a run of one number, and else the four bytes are reserve.
-- Assumes nothing.
use mathlib.Core.Path.{◌∙◌}
use Rattle.bodies.proofs.Pieces.{field-number, field-reserved}
use Rattle.bodies.proofs.number_if.Goals as goal

pub returns-then-is : goal.returns-then-is
returns-then-is c =
    let a = c.args in
    λ b ok. c.numbers.ensures b ∙ field-number a.w b a.s.now ok a.is c.if-is.true

pub returns : goal.returns
returns c =
    let a = c.args in
    λ b ok. c.reserved.ensures b ∙ field-reserved a.w b a.s.now ok a.is c.if-is.false c.requires.source
