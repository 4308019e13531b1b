-- A turn prints the next row's line.
use Rattle.std.proofs.Common.{rules, sym, subst}
use Rattle.std.proofs.KnownBytes.{Appends-nil, Appends-trans}
use Rattle.std.specs.Io.KnownBytes.{Appends}
use Rattle.lister.proofs.Lines.{lines_in-none, lines_in-next}
use Rattle.lister.proofs.print_rows.Goals as goal

pub loop-i-init : goal.loop-i-init
loop-i-init g c = (search rules, subst (Appends _ _) (sym (lines_in-none _)) (Appends-nil _))

pub loop-i-preserved : goal.loop-i-preserved
loop-i-preserved g c =
    (search rules, subst (Appends _ _) (sym (lines_in-next c.loop-i.i c.args.out.now)) (Appends-trans _ _ _ _ _ c.loop-i.invariant.1 c.in_ok-print_row.ensures))
