-- `runs::run_floats` meets its contract: the run asked for, decoded from its bytes, by the laws of Told.
-- Assumes nothing.
use Rattle.std.proofs.Common.{Ok}
use mathlib.Core.Path.{refl}
use lib.ListN.{length}
use Rattle.rules.specs.Reading.{float}
use Rattle.runs.specs.Found.{RunFoundAs}
use Rattle.runs.specs.declared.Sibling.TheVariants as Sibling
use Rattle.runs.proofs.Told.{bytes-long, runs-told, floats-wide}
use Rattle.runs.proofs.run_floats.Goals as goal
use Rattle.runs.proofs.run_floats.Goals.{After-part}

-- the run found
known : (x : After-part) →
    let a = x.args in
    RunFoundAs Sibling.Floats a.file.now a.recording a.frame a.channel a.first a.number (length a.out.now)
    (Ok (x.in_ok-order.order, x.in_ok-order.field-0-1, x.in_ok-order.place))
known x = x.in_ok-order.ensures

pub patterns-requires : goal.patterns-requires
patterns-requires c =
    let f = known (goal.at.patterns-requires c).After-part in
    bytes-long f c.args.out.now refl _ c.part.ensures.bytes _ (floats-wide _ f.served)

pub returns : goal.returns
returns c =
    let f = known (goal.at.returns c).After-part in
    runs-told f c.args.out.now refl _ c.part.ensures.bytes _ (floats-wide _ f.served) (float 0) _ c.patterns.ensures
