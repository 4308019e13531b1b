-- `header::count_of` meets its contract. The loop's invariant: the value so far is that of the digits passed. The measure is how many bytes are left. Assumes nothing.
use mathlib.Core.Path.{sym, ◌∙◌}
use native.Mathlib.Omega.{arith}
use Rattle.records.proofs.Facts.{between_in}
use Rattle.header.proofs.Opening.{spaces-rest, digits_more, count-start, count-end, count-more, count-rest}
use Rattle.header.proofs.count_of.Goals as goal

pub loop-i-init : goal.loop-i-init
loop-i-init c = (omega arith, count-start _)

pub returns-then-not-spaces : goal.returns-then-not-spaces
returns-then-not-spaces c = sym (c.loop-i.invariant.1 ∙ count-rest _ _ _ _ c.loop-i-test.true c.byte-b.ensures.0 _ (sym c.between.ensures ∙ c.if-not-between.true) (spaces-rest c.args.s.now c.loop-i.i (sym c.spaces.ensures ∙ c.if-not-spaces.true)))

pub returns-then-not-between : goal.returns-then-not-between
returns-then-not-between c = sym (c.loop-i.invariant.1 ∙ count-rest _ _ _ _ c.loop-i-test.true c.byte-b.ensures.0 _ (sym c.between.ensures ∙ c.if-not-between.true) (spaces-rest c.args.s.now c.loop-i.i (sym c.spaces.ensures ∙ c.if-not-spaces.false)))

pub overflow_sub-value : goal.overflow_sub-value
overflow_sub-value c =
    let d = between_in 48 57 c.byte-b.result (sym c.between.ensures ∙ c.if-not-between.false) in
    omega arith

pub loop-i-preserved : goal.loop-i-preserved
loop-i-preserved c =
    let d = between_in 48 57 c.byte-b.result (sym c.between.ensures ∙ c.if-not-between.false) in
    (digits_more _ _ _ c.loop-i.invariant.0 d.1, c.loop-i.invariant.1 ∙ count-more _ _ _ _ c.loop-i-test.true c.byte-b.ensures.0 (sym c.between.ensures ∙ c.if-not-between.false))

pub returns : goal.returns
returns c = sym (c.loop-i.invariant.1 ∙ count-end _ _ _ c.loop-i-test.false)
