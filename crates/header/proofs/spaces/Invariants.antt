-- `header::spaces` meets its contract: all bytes so far are spaces. Assumes nothing.
use mathlib.Core.Path.{◌≡◌}
use lib.ListN.{drop}
use Rattle.rules.specs.Rules.{all_spaces}
use Rattle.header.proofs.spaces.Given as goal

abbrev pub invariant-loop-b : goal.invariant-loop-b
invariant-loop-b l = all_spaces l.s ≡ all_spaces (drop l.b-index l.s)
