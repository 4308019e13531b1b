-- `decode::long_at` meets its contract: the number of the bytes at the place, by the width.
-- Assumes nothing.
use mathlib.Core.Path.{◌≡◌, ap, ◌∙◌}
use native.Mathlib.Omega.{arith}
use mir.Facts.{to_z-of_z}
use Rattle.words.specs.Values.{signed}
use Rattle.decode.specs.Wide.{order_for}
use Rattle.decode.proofs.Places.{place-4}
use Rattle.decode.proofs.long_at.Goals as goal

pub returns-then-width-eq3 : goal.returns-then-width-eq3
returns-then-width-eq3 c = rw c.if-width-eq3.true (to_z-of_z {w = mir.Syntax.w32} (record { sfits = c.triple_at.type_inv }) ∙ c.triple_at.ensures)

pub returns : goal.returns
returns c =
    let e : c.args.width ≡ 4 = omega (arith, c.requires.wide.least, c.requires.wide.most) in
    let p = place-4 (order_for c.args.big) c.args.s.now c.args.at (omega (arith, c.requires.inside)) in
    rw e (to_z-of_z {w = mir.Syntax.w32} (record { sfits = c.long.type_inv }) ∙ (c.long.ensures ∙ ap (signed 4) p))
