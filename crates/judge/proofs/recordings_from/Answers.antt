-- `judge::recordings_from` meets its contract. The loop's invariant: the recordings up to i are read, and the walk goes on at byte p.
-- The measure is how many are left. Assumes nothing.
use Rattle.rules.proofs.Handed.{handed}
use native.Mathlib.Nat.{zero-add}
use native.Mathlib.Omega.{arith}
use Rattle.judge.proofs.Recordings.{going-none, going-stop, going_on}
use Rattle.judge.proofs.recordings_from.Goals as goal

pub returns-in_err-places : goal.returns-in_err-places
returns-in_err-places c =
    rw (handed _ c.from_residual.ensures)
    (let g = c.loop-i.invariant.going in
    record { seen = going-stop g _ c.loop-i-test.true (c.in_err-places.ensures.told g.held g.holds); stands = tt })

pub loop-i-preserved : goal.loop-i-preserved
loop-i-preserved c =
    let i = c.loop-i.invariant in
    let k = c.in_ok-places.ensures in
    let n = k.continues in
    record {
      few = omega arith;
      place = record { low = omega (arith, i.place.low, n.start); inside = n.end };
      held = n.channels;
      going = going_on i.going c.loop-i-test.true i.place.inside (k.told i.going.held i.going.holds);
    }

pub returns : goal.returns
returns c =
    let i = c.loop-i.invariant in
    record { seen = rw (zero-add c.loop-i.p) (going-none i.going c.loop-i-test.false); stands = i.place }
