-- `records::basic::basic_at` meets its contract: a record that is refused before its body, or its body's answer. Assumes nothing.
use Rattle.rules.proofs.Handed.{handed}
use mathlib.Core.Path.{◌∙◌, sym, ap}
use lib.ListN.{length}
use Prim.Native.Nat.{◌+◌}
use native.Mathlib.Omega.{arith}
use Rattle.walk.specs.See.{over}
use Rattle.walk.proofs.Seen.{walks}
use Rattle.rules.specs.Rules.{basic_body}
use Rattle.rules.proofs.Room.{stays-basic_body}
use Rattle.rules.specs.declared.Kind.TheVariants as Kind
use Rattle.records.specs.Says.{basic_of, Reaches}
use Rattle.records.proofs.Bodies.{fixed-opened, body-seen}
use Rattle.records.proofs.basic.basic_at.Goals as goal
use Rattle.records.proofs.basic.basic_at.Goals.{In_ok-end}

-- the record that was opened: where it stands, and where it stops
reached : (x : In_ok-end) → Reaches x.args.p Kind.Basic (length x.args.s.now) x.in_ok-end.field-0-0 x.in_ok-end.end
reached x = x.in_ok-end.ensures.stands

pub returns-in_err-end : goal.returns-in_err-end
returns-in_err-end c =
    rw (handed _ c.from_residual.ensures)
    (simp (fixed-opened, walks, c.in_err-end.ensures.seen))

pub returns : goal.returns
returns c =
    let v = reached (goal.at.returns c).In_ok-end in
    let o = c.args.o in
    let s = c.args.s.now in
    let b = c.args.base in
    let p = c.args.p in
    simp (fixed-opened, walks, v.at, c.in_ok-end.ensures.seen)
    (ap (over basic_of) (sym (body-seen o b p c.in_ok-end.end 128 s (omega (arith, v.end, v.spans)) (omega arith) v.inside basic_body (λ x. stays-basic_body x (x + 112) (omega arith)))) ∙ c.basic_body.ensures)
