-- `bodies::item` meets its contract: an item that the walk accepts has room for its size, and is written as two numbers and a text.
-- Assumes nothing.
use native.Mathlib.Nat.{add-sub_cancel_left}
use native.Mathlib.Omega.{arith}
use borrow.Author.Rules.{rules}
use Rattle.walk.proofs.Seen.{add-sub-add}
use Rattle.bodies.proofs.Filling.{item-says, item-copied}
use Rattle.bodies.proofs.item.Goals as goal

pub returns-then-left-lt-LEAST : goal.returns-then-left-lt-LEAST
returns-then-left-lt-LEAST c =
    let a = c.args in
    (search rules, λ b ok x e g. absurd (let i = item-says b a.s.now a.p ok _ a.w.from g in omega (arith, i.0, i.1)))

pub returns-then-size-lt-LEAST : goal.returns-then-size-lt-LEAST
returns-then-size-lt-LEAST c =
    let a = c.args in
    (search rules, λ b ok x e g. absurd (let i = item-says b a.s.now a.p ok _ a.w.from g in omega (arith, i.0, c.number-size.ensures.0)))

pub returns-then-left-size : goal.returns-then-left-size
returns-then-left-size c =
    let a = c.args in
    (search rules, λ b ok x e g. absurd (let i = item-says b a.s.now a.p ok _ a.w.from g in omega (arith, i.1, c.number-size.ensures.0)))

pub returns : goal.returns
returns c =
    let a = c.args in
    let n = c.number-size in (
      search rules,
      item-copied a.w a.s.now a.d.now a.p n.result _ _ c.requires.room n.ensures.0 (omega (arith, c.if-size-lt-LEAST.false))
          (omega (arith, c.if-left-size.false)) (add-sub_cancel_left a.p 8) (add-sub-add a.p n.result 8) _ _ c.numbers.ensures c.copy_run.ensures,
    )
