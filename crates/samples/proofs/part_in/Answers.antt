-- `samples::part_in` meets its contract: the bytes are counted only where they are known to fit.
-- Assumes nothing.
use mathlib.Core.Path.{sym}
use Prim.Native.Nat.{ℕ, ◌-◌, ◌*◌, ◌≤◌}
use native.Mathlib.Omega.{arith}
use Rattle.samples.proofs.Placing.{tested-out, tested-in, part-inside, part-outside}
use Rattle.samples.proofs.part_in.Goals as goal
use Rattle.samples.proofs.part_in.Goals.{After-samples_fit, After-struct_known-3-1}

-- the bytes of the place, and the room behind its position
abbrev taken : After-samples_fit → ℕ
taken z = z.args.place.width * z.args.place.count

abbrev room : After-samples_fit → ℕ
room z = z.args.bytes - z.args.place.position

inside : (c : After-struct_known-3-1) → taken (goal.at.After-struct_known-3-1 c).After-samples_fit ≤ room (goal.at.After-struct_known-3-1 c).After-samples_fit
inside c = tested-in (taken (goal.at.After-struct_known-3-1 c).After-samples_fit) (room (goal.at.After-struct_known-3-1 c).After-samples_fit) c.samples_fit.ensures c.if-not-samples_fit.false

pub returns-then-bytes-place : goal.returns-then-bytes-place
returns-then-bytes-place c =
    let a = c.args in
    sym (part-outside a.bytes a.place (omega (arith, c.if-bytes-place.true)))

pub returns-then-not-samples_fit : goal.returns-then-not-samples_fit
returns-then-not-samples_fit c =
    sym (part-outside c.args.bytes c.args.place (omega (arith, tested-out (taken (goal.at.returns-then-not-samples_fit c).After-samples_fit) (room (goal.at.returns-then-not-samples_fit c).After-samples_fit) c.samples_fit.ensures c.if-not-samples_fit.true, c.if-bytes-place.false)))

pub returns : goal.returns
returns c =
    sym (part-inside c.args.bytes c.args.place (omega (arith, inside c, c.if-bytes-place.false)))
