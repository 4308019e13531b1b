-- `bodies::one_run` meets its contract: as many numbers as there is room for.
-- Assumes nothing.
use native.Mathlib.Nat.{add-sub_cancel_left, div-mul-le_self}
use native.Mathlib.Omega.{arith}
use Prim.Native.Nat.{◌+◌, ◌-◌, ◌*◌, ◌/◌, ◌≤◌}
use lib.ListN.{length}
use mathlib.Core.Path.{refl}
use Rattle.words.proofs.Words.{bytes}
use Rattle.bodies.proofs.Filling.{part-turned, run-copied}
use Rattle.bodies.proofs.one_run.Goals as goal

pub returns : goal.returns
returns c =
    let a = c.args in
    let p = c.requires.part in
    let are = bytes a.s.now (λ i. (c.type_inv.s i).fits) in
    let inside = div-mul-le_self (length a.s.now - 8) a.width in
    let room : 8 + (length a.s.now - 8) / a.width * a.width ≤ length a.s.now = omega (arith, inside, p.clock.least) in
    let turned = part-turned a.w a.s.now 8 _ _ _ _ are c.requires.turned (add-sub_cancel_left _ _) room c.turn_run.ensures in
    run-copied a.w a.s.now a.d.now a.width _ _ _ p.wide.least refl (add-sub_cancel_left _ _) p.clock.least turned
