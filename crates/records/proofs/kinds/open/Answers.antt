-- `records::kinds::open` meets its contract: no head, another code, a head that is not admitted, or the record. Assumes nothing.
use Rattle.std.proofs.Common.{Ok}
use Rattle.rules.proofs.Handed.{handed}
use Rattle.walk.proofs.Seen.{walks, tests}
use lib.ListN.{length}
use Rattle.records.specs.Says.{opened, HeadPlaced}
use Rattle.records.proofs.Laws.{admitted-at}
use native.Mathlib.Omega.{arith}
use Rattle.records.proofs.kinds.open.Goals as goal
use Rattle.records.proofs.kinds.open.Goals.{After-has_code}

-- the head that was read: where it stands
placed : (x : After-has_code) → HeadPlaced x.args.p (length x.args.s.now) (Ok x.in_ok-h.h)
placed x = x.in_ok-h.ensures.stands

pub returns-in_err-h : goal.returns-in_err-h
unfolding opened
returns-in_err-h c =
    rw (handed _ c.from_residual.ensures)
    (record { seen = simp (walks, tests, c.in_err-h.ensures.seen); stands = tt })

pub returns-then-not-has_code : goal.returns-then-not-has_code
unfolding opened
returns-then-not-has_code c =
    let w = placed (goal.at.returns-then-not-has_code c).After-has_code in
    record { seen = simp (walks, tests, w.0, c.if-not-has_code.true, ← c.has_code.ensures, c.in_ok-h.ensures.seen); stands = tt }

pub returns-in_err-end : goal.returns-in_err-end
unfolding opened
returns-in_err-end c =
    rw (handed _ c.from_residual-in_err-end.ensures)
    (let w = placed (goal.at.returns-in_err-end c).After-has_code in
    let a = admitted-at w.0 c.admit.ensures c.args.o c.args.base c.args.s.now in
    record { seen = simp (walks, tests, w.0, c.in_err-end.was, a, c.if-not-has_code.false, ← c.has_code.ensures, c.in_ok-h.ensures.seen); stands = tt })

pub returns : goal.returns
unfolding opened
returns c =
    let w = placed (goal.at.returns c).After-has_code in
    let a = admitted-at w.0 c.admit.ensures c.args.o c.args.base c.args.s.now in
    let v = c.in_ok-end.ensures.stands in record {
      seen = simp (walks, tests, w.0, c.in_ok-end.was, a, c.if-not-has_code.false, ← c.has_code.ensures, c.in_ok-h.ensures.seen);
      stands = record { at = w.0; end = omega (arith, w.0, v.0); inside = v.1; spans = v.2 };
    }
