-- `index::first_events` meets its contract: none of the channels that are passed is of events.
-- Assumes nothing.
use Rattle.index.specs.Listing.{FirstEvents}
use Rattle.index.proofs.first_events.Given as goal

abbrev pub invariant-loop-c : goal.invariant-loop-c
invariant-loop-c l = FirstEvents l.o l.s l.subs l.m l.c
