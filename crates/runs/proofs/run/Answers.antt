-- `runs::run` meets its contract: the run asked for, decoded from its bytes, by the laws of Told.
-- Assumes nothing.
use Rattle.std.proofs.Common.{Ok}
use mathlib.Core.Path.{refl}
use lib.IntN.{pos}
use lib.ListN.{length}
use Rattle.rules.specs.Reading.{whole}
use Rattle.runs.specs.Found.{RunFoundAs}
use Rattle.runs.specs.declared.Sibling.TheVariants as Sibling
use Rattle.runs.proofs.Told.{bytes-long, runs-told}
use Rattle.runs.proofs.run.Goals as goal
use Rattle.runs.proofs.run.Goals.{After-part}

-- the run found
known : (x : After-part) →
    let a = x.args in
    RunFoundAs Sibling.Whole a.file.now a.recording a.frame a.channel a.first a.number (length a.out.now)
    (Ok (x.in_ok-order.order, x.in_ok-order.format, x.in_ok-order.place))
known x = x.in_ok-order.ensures

pub numbers-requires : goal.numbers-requires
numbers-requires c =
    let f = known (goal.at.numbers-requires c).After-part in
    bytes-long f c.args.out.now refl _ c.part.ensures.bytes _ refl

pub returns : goal.returns
returns c =
    let f = known (goal.at.returns c).After-part in
    runs-told f c.args.out.now refl _ c.part.ensures.bytes _ refl (whole (pos 0)) _ c.numbers.ensures
