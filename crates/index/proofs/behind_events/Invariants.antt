-- `index::behind_events` meets its contract: none of the channels that are passed is of events.
-- Assumes nothing.
use Rattle.index.specs.Listing.{BehindEvents}
use Rattle.index.proofs.behind_events.Given as goal

abbrev pub invariant-loop-c : goal.invariant-loop-c
invariant-loop-c l = BehindEvents l.o l.s l.subs l.m l.c
