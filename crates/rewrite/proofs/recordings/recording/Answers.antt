-- `rewrite::recordings::recording` meets its contract: its head, and its body as a part of the file, written one behind the other.
-- Assumes nothing.
use Rattle.std.proofs.Common.{Some}
use Prim.Native.Nat.{◌+◌, ◌-◌}
use native.Mathlib.Omega.{arith}
use Rattle.rewrite.specs.RecordingsAnew.{MeasuredAt}
use Rattle.rewrite.proofs.Placed.{recording-length, recording-written}
use Rattle.rewrite.proofs.recordings.recording.Goals as goal
use Rattle.rewrite.proofs.recordings.recording.Goals.{In-Some}

-- what is known of the measure
known : (c : In-Some) → let a = c.args in MeasuredAt a.w.from a.w.label a.file.now a.p a.q (Some c.in-Some.f)
known c = rw c.in-Some.is at c.measure_at.ensures

pub returns-then-out-k : goal.returns-then-out-k
returns-then-out-k c =
    let a = c.args in
    let t = known (goal.at.returns-then-out-k c).In-Some in
    record {
      inside = c.requires.target;
      wrote = λ clear held x v room.
          absurd (omega (arith, c.if-out-k.true, room, recording-length a.w.to a.w.label a.i x.recording c.in-Some.f.whole (t.told held a.i x v).whole));
    }

pub returns : goal.returns
returns c =
    let f = c.in-Some.f in
    let a = c.args in
    let t = known (goal.at.returns c).In-Some in
    record {
      inside = omega (arith, c.if-out-k.false, c.requires.target);
      wrote =
          recording-written a.w a.file.now a.p a.i a.q f a.out.now _ _ a.k (a.k + 16 - a.k) (a.k + f.whole.length - (a.k + 16))
          (omega arith) (omega (arith, t.bounds.whole)) c.requires.target t
          c.put_head.ensures c.body.ensures;
    }
