-- `judge::judge` meets its contract: one law of Verdicts for each return.
-- x: the header that was read. Assumes nothing.
use Rattle.std.proofs.Common.{Ok}
use Rattle.rules.proofs.Handed.{handed}
use mathlib.Core.Path.{refl}
use native.Mathlib.Nat.{zero-add}
use native.Mathlib.Omega.{arith}
use Rattle.header.specs.Opened.{HeaderRead}
use Rattle.judge.proofs.Verdicts.{judge-unread, judge-stop, judge-left, judge-whole}
use Rattle.judge.proofs.judge.Goals as goal
use Rattle.judge.proofs.judge.Goals.{In_ok-h}

header : (x : In_ok-h) → HeaderRead x.args.file.now (Ok x.in_ok-h.h)
header x = x.in_ok-h.ensures

pub returns-in_err-h : goal.returns-in_err-h
returns-in_err-h c =
    rw (handed _ c.from_residual.ensures)
    (judge-unread c.args.file.now c.in_err-h.ensures.walk)

pub returns-in_err-end : goal.returns-in_err-end
returns-in_err-end c =
    rw (handed _ c.from_residual-in_err-end.ensures)
    (let h = header (goal.at.returns-in_err-end c).In_ok-h in
    let n = h.named in
    judge-stop c.args.file.now _ h.walk (rw n.order at c.in_err-end.ensures.seen))

pub returns-then-end-file : goal.returns-then-end-file
returns-then-end-file c =
    let h = header (goal.at.returns-then-end-file c).In_ok-h in
    let n = h.named in
    judge-left c.args.file.now _ h.walk _ (rw (n.order, zero-add c.in_ok-end.end) at c.in_ok-end.ensures.seen) c.if-end-file.true

pub returns : goal.returns
returns c =
    let h = header (goal.at.returns c).In_ok-h in
    let n = h.named in
    let l = c.in_ok-end.ensures.stands in
    judge-whole c.args.file.now _ h.walk _ (rw (n.order, zero-add c.in_ok-end.end) at c.in_ok-end.ensures.seen) _ (omega (arith, l.inside, c.if-end-file.false)) n.order refl refl
