-- `questions::channels::field_if` meets its contract, by the sub's code.
-- Assumes nothing.
use mathlib.Core.Path.{sym, ◌∙◌}
use borrow.Author.Tests.{eq-eqb, ne_eqb}
use Rattle.samples.proofs.Clocked.{held}
use Rattle.questions.specs.Values.{field_in}
use Rattle.questions.proofs.channels.field_if.Goals as goal

pub returns-then-number-eq-CODE : goal.returns-then-number-eq-CODE
unfolding field_in
returns-then-number-eq-CODE c = rw (eq-eqb _ _ (sym c.number.ensures.0 ∙ c.if-number-eq-CODE.true))

pub returns : goal.returns
unfolding field_in
returns c =
    rw (ne_eqb _ _ (λ h. c.if-number-eq-CODE.false (c.number.ensures.0 ∙ h))) (held c.int.type_inv c.int.ensures)
