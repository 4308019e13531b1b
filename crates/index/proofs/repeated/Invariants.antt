-- `index::repeated` meets its contract: eights of samples, and then one at a time.
-- Assumes nothing.
use Rattle.index.specs.Listing.{Same}
use Rattle.index.proofs.repeated.Given as goal

abbrev pub invariant-loop-i : goal.invariant-loop-i
invariant-loop-i l = Same l.o l.s l.p l.code l.i
