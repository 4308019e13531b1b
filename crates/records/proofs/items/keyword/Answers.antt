-- `records::items::keyword` meets its contract: the library's search of the table. Assumes nothing.
use mathlib.Core.Path.{◌∙◌}
use Rattle.rules.specs.Rules.{keywords}
use Rattle.records.proofs.Facts.{found}
use Rattle.records.proofs.items.keyword.Goals as goal

pub returns : goal.returns
unfolding keywords
returns c = c.contains.ensures.value ∙ found c.args.x keywords
