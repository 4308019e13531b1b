-- `runs::run_asked` meets its contract: where the buffer has no room, by the law of Asked.
-- Assumes nothing.
use mathlib.Core.Path.{◌≡◌, sym, ◌∙◌}
use mathlib.Core.Bool.{true}
use Prim.Native.Nat.{◌+◌}
use lib.Dec.{leb}
use Rattle.runs.specs.Runs.{serves}
use Rattle.runs.proofs.Asked.{run_short}
use Rattle.runs.proofs.run_asked.Goals as goal

pub returns-then-room-number : goal.returns-then-room-number
returns-then-room-number c =
    let a = c.args in
    let run = c.in_ok-order.run' in
    let served : serves a.b run.format ≡ true = sym c.format_served.ensures ∙ c.if-not-format_served.false in
    let inside : leb (a.first + a.number) run.place.count ≡ true = sym c.fits.ensures ∙ c.if-not-fits.false in
    run_short c.in_ok-order.ensures.1 a.b a.first a.number a.room served inside c.if-room-number.true
