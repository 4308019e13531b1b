-- `records::items::items_at` meets its contract: a head that is not admitted, or a record whose body is tested. Assumes nothing.
use Rattle.std.proofs.Common.{Ok}
use Rattle.rules.proofs.Handed.{handed}
use native.Mathlib.Omega.{arith}
use lib.ListN.{length}
use Prim.Native.Nat.{◌-◌, ◌+◌}
use Rattle.walk.proofs.Seen.{walks}
use Rattle.rules.specs.Rules as R
use Rattle.rules.specs.Rules.{items_body}
use Rattle.rules.proofs.Room.{stays-items_body}
use Rattle.rules.specs.declared.Kind.TheVariants as Kind
use Rattle.records.specs.Says.{head_of, StepOver, Beyond, ok_of, Admits}
use Rattle.records.proofs.Steps.{items-split}
use Rattle.records.proofs.Bodies.{ended, body-held, ended-beyond}
use Rattle.records.proofs.items.items_at.Goals as goal
use Rattle.records.proofs.items.items_at.Goals.{In_ok-end, After-items_body}

-- the record that was admitted: where it stops
reached : (x : In_ok-end) → Admits x.args.h (Kind.Items x.args.h.code) (length x.args.s.now) (Ok x.in_ok-end.end)
reached x = x.in_ok-end.ensures.stands

pub returns-in_err-end : goal.returns-in_err-end
returns-in_err-end c = rw (handed _ c.from_residual.ensures) (record { seen = simp (items-split, walks, c.in_err-end.ensures.seen); stands = tt })

-- what its body comes to: where the record stops, or the body's refusal
held : (x : After-items_body) → StepOver x.args.o x.args.base x.args.s.now (x.args.h.at + 16) (R.items (ok_of x.args.k) (length x.args.s.now - x.args.h.at) (head_of x.args.h)) (Beyond (x.args.h.at + 24) (length x.args.s.now)) (ended x.items_body.result x.in_ok-end.end)
held x =
    let v = reached (goal.at.After-items_body x).In_ok-end in
    let o = x.args.o in
    let s = x.args.s.now in
    let b = x.args.base in
    let h = x.args.h in
    let n = R.length_of h.size h.multiplier in
    let q = x.in_ok-end.end in
    let a = x.items_body.result in
    record {
      seen = simp (items-split, walks, x.in_ok-end.ensures.seen)
          (body-held o b h.at q n s v.0 (omega arith) v.1 (items_body (ok_of x.args.k)) (λ y. stays-items_body (ok_of x.args.k) n y v.2) a x.items_body.ensures);
      stands = ended-beyond (h.at + 24) (length s) q a (omega arith) v.1;
    }

pub returns-in_err-items_body : goal.returns-in_err-items_body
returns-in_err-items_body c = rw (handed _ c.from_residual-in_err-items_body.ensures) (rw c.in_err-items_body.was at (held (goal.at.returns-in_err-items_body c).After-items_body))

pub returns : goal.returns
returns c = rw c.in_ok-items_body.was at (held (goal.at.returns c).After-items_body)
