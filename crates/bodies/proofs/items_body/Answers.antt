-- `bodies::items_body` meets its contract: after each turn what stands before p is written, and the walk goes on from p with the items that are left.
-- Assumes nothing.
use mathlib.Core.Path.{◌∙◌}
use native.Mathlib.Nat.{sub-zero}
use native.Mathlib.Omega.{arith}
use borrow.Author.Rules.{rules}
use Rattle.bodies.proofs.Filling.{items-begun, items_more, items-all}
use Rattle.bodies.proofs.items_body.Goals as goal

pub loop-i-init : goal.loop-i-init
loop-i-init c =
    let a = c.args in (
      search rules,
      search rules,
      search rules,
      items-begun a.w a.s.now _ a.d.now _ _ (sub-zero _ ∙ c.number-count.ensures.0) c.requires.least c.requires.room
          c.numbers.ensures c.reserved.ensures,
    )

pub loop-i-preserved : goal.loop-i-preserved
loop-i-preserved c =
    let l = c.loop-i in
    let x = c.item-p in
    (search rules, x.ensures.0, search rules, λ b ok is e g. items_more _ _ (l.invariant.3 b ok is e g) _ _ _ (omega arith) x.ensures.0 (x.ensures.1 b ok))

pub returns : goal.returns
returns c = λ b ok is e g. items-all _ _ (c.loop-i.invariant.3 b ok is e g) (omega (arith, c.loop-i-test.false))
