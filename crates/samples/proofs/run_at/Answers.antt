-- `samples::run_at` meets its contract: the channel's record is read, and its samples are none where they would not be inside.
-- Assumes nothing.
use Prim.Native.Nat.{ℕ, ◌+◌, ◌-◌, ◌*◌, ◌≤◌}
use native.Mathlib.Omega.{arith}
use lib.ListN.{length}
use Rattle.samples.proofs.Placing.{tested-out, tested-in}
use Rattle.samples.proofs.Stretch.{run-found, run-outside}
use Rattle.samples.proofs.run_at.Goals as goal
use Rattle.samples.proofs.run_at.Goals.{After-fits, Else-not-fits}

-- the bytes before and its own, and the room that there is
abbrev taken : After-fits → ℕ
taken w = w.sample_bytes-before.result + w.width-width.result * w.samples_in-count.result

abbrev room : After-fits → ℕ
room w = let a = w.args in length a.s.now - (a.at + 24)

inside : (c : Else-not-fits) → taken (goal.at.Else-not-fits c).After-fits ≤ room (goal.at.Else-not-fits c).After-fits
inside c = tested-in (taken (goal.at.Else-not-fits c).After-fits) (room (goal.at.Else-not-fits c).After-fits) c.fits.ensures c.if-not-fits.false

pub returns-then-not-fits : goal.returns-then-not-fits
returns-then-not-fits c =
    run-outside _ _ _ _ _ _ _ _ _ _ _ _ c.sample_bytes-before.ensures c.number-flags.ensures.0 c.number-format.ensures.0 c.number-rate.ensures.0 c.samples_in-count.ensures.0 c.width-width.ensures.0
    (omega arith) (omega (arith, tested-out (taken (goal.at.returns-then-not-fits c).After-fits) (room (goal.at.returns-then-not-fits c).After-fits) c.fits.ensures c.if-not-fits.true))

pub returns : goal.returns
returns c =
    run-found _ _ _ _ _ _ _ _ _ _ _ _ c.sample_bytes-before.ensures c.number-flags.ensures.0 c.number-format.ensures.0 c.number-rate.ensures.0 c.samples_in-count.ensures.0 c.width-width.ensures.0
    (omega (arith, inside c))
