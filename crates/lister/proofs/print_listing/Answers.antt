-- The rows that `table` wrote are printed.
use Rattle.std.proofs.Common.{OnOk, rules, subst}
use Rattle.std.specs.Io.KnownBytes.{Appends}
use Rattle.lister.proofs.Shown.{rows-shown}
use Rattle.lister.proofs.print_listing.Goals as goal

pub returns-in-Ok : goal.returns-in-Ok
returns-in-Ok g c =
    let before = g.W.Write.contents c.args.to.now in
    let after = g.W.Write.contents c.print_rows.new.to in
    let shown = rows-shown _ c.in-Ok.n _ c.table.new.out (search rules) c.in-Ok.ensures.answer c.in-Ok.ensures.buffer in
    subst (λ l. OnOk c.print_rows.result (Appends before after l)) shown c.print_rows.ensures
