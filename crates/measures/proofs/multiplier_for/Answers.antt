-- `measures::multiplier_for` meets its contract: the length's shares, rounded up.
-- Assumes nothing.
use mathlib.Core.Path.{sym}
use Rattle.measures.proofs.Measures.{is-times, times-low}
use Rattle.measures.proofs.multiplier_for.Goals as goal

pub returns : goal.returns
returns c =
    let n = c.args.n in
    let l = times-low n c.requires in
    record { is = sym (is-times n c.requires); low = l.0; high = l.1 }
