-- `overview::of_two_frames` meets its contract: the parts of the file that the samples of the two take.
-- Assumes nothing.
use Rattle.overview.proofs.Framed.{first-inside, next-inside, framed-pair, framed-both}
use Rattle.overview.proofs.of_two_frames.Goals as goal

pub slice_bounds-of_pair-end-2 : goal.slice_bounds-of_pair-end-2
slice_bounds-of_pair-end-2 c = (next-inside c.requires).inside

pub of_pair-requires : goal.of_pair-requires
of_pair-requires c = framed-pair (first-inside c.requires) (next-inside c.requires) c.requires.tracked.wide

pub returns : goal.returns
returns c = framed-both (first-inside c.requires) (next-inside c.requires) _ c.of_pair.ensures
