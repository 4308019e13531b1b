-- `decode::triple_at` meets its contract: the number of the bytes at the place, alone or as the last three of four.
-- Assumes nothing.
use mathlib.Core.Path.{◌≡◌, ap, ◌∙◌}
use Prim.Native.Nat.{◌+◌, ◌-◌}
use native.Mathlib.Omega.{arith}
use mir.Facts.{to_z-of_z}
use Rattle.words.specs.Values.{signed}
use Rattle.decode.proofs.Casts.{last-little, last-big}
use Rattle.decode.proofs.Places.{place-3}
use Rattle.decode.proofs.triple_at.Goals as goal

pub returns-then-at-eq0 : goal.returns-then-at-eq0
returns-then-at-eq0 c =
    let p = place-3 _ c.args.s.now 0 (rw c.if-at-eq0.true at c.requires) in
    rw c.if-at-eq0.true (to_z-of_z {w = mir.Syntax.w32} (record { sfits = c.triple.type_inv }) ∙ (c.triple.ensures ∙ ap (signed 3) p))

pub returns-then-big : goal.returns-then-big
returns-then-big c =
    let e : c.args.at - 1 + 1 ≡ c.args.at = omega (arith, c.if-at-eq0.false) in
    rw c.if-big.true (rw e at (last-big c.args.s.now (c.args.at - 1) c.type_inv.s (omega (arith, c.requires)) c.big_at.ensures))

pub returns : goal.returns
returns c =
    let e : c.args.at - 1 + 1 ≡ c.args.at = omega (arith, c.if-at-eq0.false) in
    rw c.if-big.false (rw e at (last-little c.args.s.now (c.args.at - 1) c.type_inv.s (omega (arith, c.requires)) c.little_at.ensures))
