-- `questions::items::item_place` meets its contract: after each turn p is the place of the item i places behind the first, in each list that the walk passes there.
-- Assumes nothing.
use mathlib.Core.Path.{◌≡◌}
use native.Mathlib.Omega.{arith}
use borrow.Author.Rules.{rules}
use Rattle.questions.proofs.Entries.{reaches-none, reaches-item, reaches_more}
use Rattle.questions.proofs.items.item_place.Goals as goal

pub loop-i-init : goal.loop-i-init
loop-i-init c = (search rules, search rules, reaches-none _ _ _ _)

pub returns-then-s-p-lt-LEAST : goal.returns-then-s-p-lt-LEAST
returns-then-s-p-lt-LEAST c =
    let l = c.loop-i in
    record { inside = search rules; passed = λ ok count room is e m g k. absurd (let x = reaches-item _ _ _ _ _ _ l.invariant.2 c.loop-i-test.true ok count room is e m g k in omega (arith, x.fits)) }

pub returns-then-s-p : goal.returns-then-s-p
returns-then-s-p c =
    let l = c.loop-i in
    let v = c.number-size.ensures in
    record { inside = search rules; passed = λ ok count room is e m g k. absurd (let x = reaches-item _ _ _ _ _ _ l.invariant.2 c.loop-i-test.true ok count room is e m g k in omega (arith, x.fits, x.size)) }

pub loop-i-preserved : goal.loop-i-preserved
loop-i-preserved c =
    (search rules, search rules, reaches_more _ _ _ _ _ _ c.loop-i.invariant.2 c.loop-i-test.true _ c.number-size.ensures.0)

pub returns : goal.returns
returns c =
    let l = c.loop-i in
    let z : l._i ≡ c.args.n = omega arith in
    record { inside = search rules; passed = rw z at l.invariant.2 }
