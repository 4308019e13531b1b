-- `records::makers::next_head` meets its contract: the makers' records up to p are passed. Assumes nothing.
use Rattle.std.proofs.Common.{Ok}
use Rattle.rules.proofs.Handed.{handed}
use Rattle.records.proofs.Laws.{fueled-stop, fueled-done, fueled-refused, fueled-more}
use lib.ListN.{length}
use mathlib.Core.Path.{◌≡◌, ◌∙◌, sym}
use mathlib.Core.Bool.{true}
use Rattle.walk.specs.See.{see}
use Rattle.rules.specs.Rules.{head, maker_code}
use Rattle.records.specs.Says.{headed, HeadPlaced}
use Prim.Native.Nat.{◌-◌, ◌+◌}
use native.Mathlib.Omega.{arith}
use Rattle.records.proofs.makers.next_head.Goals as goal
use Rattle.records.proofs.makers.next_head.Goals.{After-admit, After-maker_code}

-- the head that was read: where it stands, and what the walk comes to there
placed : (x : After-maker_code) → HeadPlaced x.loop-h.p (length x.args.s.now) (Ok x.in_ok-h.h)
placed x = x.in_ok-h.ensures.stands

read : (x : After-maker_code) →
    let a = x.args in
    see a.o a.base a.s.now (a.base + x.loop-h.p) (head (length a.s.now - x.loop-h.p)) ≡ headed a.base (Ok x.in_ok-h.h)
read x = x.in_ok-h.ensures.seen

-- it is a maker's
made : (y : After-admit) → maker_code y.in_ok-h.h.code ≡ true
made y = sym y.maker_code.ensures ∙ y.if-not-maker_code.false

pub returns-in_err-h : goal.returns-in_err-h
returns-in_err-h c = rw (handed _ c.from_residual.ensures) (record { seen = (λ fuel h. fueled-stop (c.loop-h.invariant.2 fuel h) c.loop-h.invariant.1 (c.in_err-h.ensures.seen)); stands = tt })

pub returns-then-not-maker_code : goal.returns-then-not-maker_code
returns-then-not-maker_code c =
    let w = placed (goal.at.returns-then-not-maker_code c).After-maker_code in
    let inv = c.loop-h.invariant in
    record { seen = (λ fuel h. fueled-done (inv.2 fuel h) inv.1 (read (goal.at.returns-then-not-maker_code c).After-maker_code) _ w.0 (sym c.maker_code.ensures ∙ (c.if-not-maker_code.true))); stands = record { low = omega arith; inside = omega arith } }

pub returns-in_err-p : goal.returns-in_err-p
returns-in_err-p c =
    rw (handed _ c.from_residual-in_err-p.ensures)
    (let a = c.args in
    let inv = c.loop-h.invariant in
    (record { seen = (λ fuel h. fueled-refused (inv.2 fuel h) inv.1 (read (goal.at.returns-in_err-p c).After-maker_code) _ (placed (goal.at.returns-in_err-p c).After-maker_code).0 (made (goal.at.returns-in_err-p c).After-admit) ((c.in_err-p.ensures.seen a.o a.base a.s.now))); stands = tt }))

pub loop-h-preserved : goal.loop-h-preserved
loop-h-preserved c =
    let a = c.args in
    let inv = c.loop-h.invariant in
    let w = placed (goal.at.loop-h-preserved c).After-maker_code in
    let v = c.in_ok-p.ensures.stands in
    (omega arith, omega arith, λ fuel h. fueled-more (inv.2 fuel h) inv.1 (read (goal.at.loop-h-preserved c).After-maker_code) _ w.0 (made (goal.at.loop-h-preserved c).After-admit) ((c.in_ok-p.ensures.seen a.o a.base a.s.now)) _ (omega arith) (omega arith) v.2)
