-- `rows::series_rows` meets its contract: after i turns the rows of i records are there.
-- Assumes nothing.
use native.Mathlib.Nat.{mul-zero, mul-add}
use Rattle.rows.proofs.Written.{wrote_nothing, wrote-series, series-none}
use borrow.Author.Rules.{rules}
use native.Mathlib.Omega.{arith}
use Rattle.rows.proofs.series_rows.Goals as goal

pub loop-i-init : goal.loop-i-init
loop-i-init c = record { few = search rules; place = omega (arith, mul-zero c.args.step); low = search rules; wrote = rw series-none (wrote_nothing _ _ _); same = search rules }

pub loop-i-preserved : goal.loop-i-preserved
loop-i-preserved c =
    let l = c.loop-i in
    let a = c.args in
    record {
      few = search rules;
      place = omega (arith, mul-add a.step l.i 1);
      low = omega (arith, c.put-next.ensures.next);
      wrote = wrote-series _ _ _ _ _ _ _ l.i l.at _ _ _ l.invariant.wrote l.invariant.place c.put-next.ensures;
      same = search rules;
    }
