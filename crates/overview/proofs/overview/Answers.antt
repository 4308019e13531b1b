-- `overview::overview` meets its contract: from the track, by the laws of Told.
-- Assumes nothing.
use mathlib.Core.Path.{ap, ◌∙◌}
use Rattle.recordings.specs.Answers.{value}
use Rattle.overview.proofs.Told.{epoch-there, tracked, overview-told}
use Rattle.overview.proofs.overview.Goals as goal

pub epoch_of-requires : goal.epoch_of-requires
epoch_of-requires c = let y = c.in_ok-t.ensures in record { tracked = tracked _ y.bytes _ _ _ y.answer; there = epoch-there _ _ y.inside }

pub returns : goal.returns
returns c = let y = c.in_ok-t.ensures in ap value c.epoch_of.ensures.is ∙ overview-told _ y.bytes _ _ _ y.answer y.whole _ y.inside
