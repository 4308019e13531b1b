-- `questions::items::item_in` meets its contract: of the items that the walk passes in the record, the one asked for stands at the place that `item_place` gives.
-- Assumes nothing.
use mathlib.Core.Path.{sym, ◌∙◌}
use native.Mathlib.Omega.{arith}
use Rattle.words.proofs.Ints.{kept}
use Rattle.records.proofs.Facts.{between_in}
use Rattle.questions.proofs.Entries.{items-inside, entry-outside, entry-inside, entry-is}
use Rattle.questions.proofs.items.item_in.Goals as goal

pub returns-then-s-at-lt-FIRST : goal.returns-then-s-at-lt-FIRST
returns-then-s-at-lt-FIRST c = λ ok room h is e g k. absurd (omega (arith, items-inside _ _ _ ok room h g k))

pub returns-then-not-within : goal.returns-then-not-within
returns-then-not-within c = λ ok room h is e g k.
    entry-outside _ _ _ ok room h g k _ c.number-count.ensures.0 _ (sym c.within.ensures ∙ c.if-not-within.true)

pub overflow_sub-item : goal.overflow_sub-item
overflow_sub-item c = omega (arith, (between_in _ _ _ (sym c.within.ensures ∙ c.if-not-within.false)).0)

pub returns-then-s-p-lt-LEAST : goal.returns-then-s-p-lt-LEAST
returns-then-s-p-lt-LEAST c = λ ok room h is e g k.
    let w = sym c.within.ensures ∙ c.if-not-within.false in
    absurd (omega (arith, c.if-s-p-lt-LEAST.true, c.item_place-p.ensures.inside, entry-inside _ _ _ ok room h g k _ c.number-count.ensures.0 _ w _ c.item_place-p.ensures.passed))

pub returns : goal.returns
returns c = λ ok room h is e g k.
    let w = sym c.within.ensures ∙ c.if-not-within.false in
    rw (kept c.int-code.result c.int-code.type_inv, c.int-code.ensures, c.less.ensures, c.number-size.ensures.0)
    (entry-is _ _ _ ok room h g k _ c.number-count.ensures.0 _ w _ c.item_place-p.ensures.passed)
