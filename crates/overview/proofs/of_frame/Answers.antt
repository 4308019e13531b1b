-- `overview::of_frame` meets its contract: the part of the file that its samples take.
-- Assumes nothing.
use Rattle.overview.proofs.Framed.{frame-inside, framed-numbers, framed_is}
use Rattle.overview.proofs.of_frame.Goals as goal

pub of_part-requires : goal.of_part-requires
of_part-requires c = framed-numbers (frame-inside c.requires) c.requires.tracked.wide

pub returns : goal.returns
returns c = framed_is (frame-inside c.requires) _ c.of_part.ensures
