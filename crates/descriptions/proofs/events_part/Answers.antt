-- `descriptions::events_part` meets its contract: a record that may not stand there, or the 200, or none. Assumes nothing.
use mathlib.Core.Path.{sym, ◌∙◌}
use Rattle.descriptions.proofs.Parts.{table-stops, table-part}
use Rattle.descriptions.proofs.events_part.Goals as goal

pub returns-then-not-table_ok : goal.returns-then-not-table_ok
returns-then-not-table_ok c =
    let a = c.args in
    table-stops a.o a.label a.base a.s.now a.h (sym c.table_ok.ensures ∙ c.if-not-table_ok.true)

pub returns : goal.returns
returns c =
    let a = c.args in
    table-part a.o a.label a.base a.s.now a.h (sym c.table_ok.ensures ∙ c.if-not-table_ok.false) c.items_part.result c.items_part.ensures
