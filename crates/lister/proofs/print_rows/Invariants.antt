-- So far the lines of the rows before `i` are printed, and `i` has not come past `n`.
use Rattle.std.proofs.Common.{◌≤◌}
use Rattle.std.specs.Io.KnownBytes.{Appends}
use Rattle.lister.specs.Listing.{lines_in}
use Rattle.lister.proofs.print_rows.Given as goal

abbrev pub invariant-loop-i : goal.invariant-loop-i
invariant-loop-i g l = (l.i ≤ l.n) × Appends (g.W.Write.contents l.initial.to) (g.W.Write.contents l.to) (lines_in l.i l.out)
