-- `dates::judge_date` meets its contract: one case for each test, in the order of the rules. Assumes nothing.
use mathlib.Core.Path.{sym, ◌∙◌}
use Rattle.dates.proofs.Months.{dated-most}
use Rattle.dates.proofs.judge_date.Goals as goal

pub days_in-requires : goal.days_in-requires
days_in-requires c = dated-most _ 12 _ (sym c.dated.ensures ∙ c.if-not-dated.false)
