-- `records::same` meets its contract: the library's comparison. Assumes nothing.
use mathlib.Core.Path.{◌∙◌}
use Rattle.records.proofs.Facts.{same-pointwise}
use Rattle.records.proofs.same.Goals as goal

pub returns : goal.returns
returns c = c.eq.ensures ∙ same-pointwise c.args.a.now c.args.b.now
