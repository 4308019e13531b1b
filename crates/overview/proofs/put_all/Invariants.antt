-- `overview::put_all` meets its contract, by the laws of a loop that writes epochs.
-- Assumes nothing.
use Rattle.overview.proofs.Writing.{Writing}
use Rattle.overview.proofs.put_all.Given as goal

abbrev pub invariant-loop-q : goal.invariant-loop-q
invariant-loop-q l = Writing l.file l.t l.first l.number l.initial.out l.out l.q
