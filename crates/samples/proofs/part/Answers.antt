-- `samples::part` meets its contract: the slice of the part that `part_in` answers.
-- Assumes nothing.
use mathlib.Core.Path.{◌≡◌, sym, ap, ◌∙◌}
use Prim.Native.Nat.{ℕ, ◌+◌, ◌-◌, ◌≤◌}
use native.Mathlib.Omega.{arith}
use lib.ListN.{length}
use Rattle.samples.specs.declared.Cut.{Cut}
use Rattle.samples.proofs.Placing.{part-within, cut}
use Rattle.samples.proofs.part.Goals as goal

-- it lies in the file
within : (c : goal.After-struct_known-1) →
    let r = c.part_in-cut.result in
    r.start + r.length ≤ length c.args.file.now
within c =
    let a = c.args in
    let e = c.part_in-cut.ensures in
    omega (arith, part-within (length a.file.now) a.place, ap (λ (q : Cut). q.start) e, ap (λ (q : Cut). q.length) e)

pub overflow_add-end : goal.overflow_add-end
overflow_add-end c = record { fits = omega (arith, within c) }

pub slice_bounds-result-end : goal.slice_bounds-result-end
slice_bounds-result-end c = omega (arith, within c)

pub returns : goal.returns
returns c =
    let r = c.part_in-cut.result in
    let d : r.length ≡ r.start + r.length - r.start = omega arith in
    cut _ _ _ _ (sym c.part_in-cut.ensures ∙ ap (λ (n : ℕ). record { start = r.start; length = n }) d)
