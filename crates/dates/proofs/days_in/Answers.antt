-- `dates::days_in` meets its contract: by turns, by the law of the months; February by the leap year. Assumes nothing.
use Rattle.walk.proofs.Seen.{tests}
use Rattle.rules.specs.Rules.{days_in, month_days}
use Rattle.dates.proofs.Months.{months}
use Rattle.dates.proofs.days_in.Goals as goal

pub returns-then-m-ne2 : goal.returns-then-m-ne2
unfolding days_in
returns-then-m-ne2 c = simp (tests, c.if-m-ne2.true) (months c.args.m c.requires c.if-m-ne2.true)

pub returns-then-leap : goal.returns-then-leap
unfolding days_in month_days
returns-then-leap c = simp (c.if-leap.true, ← c.leap.ensures, c.if-m-ne2.false)

pub returns : goal.returns
unfolding days_in month_days
returns c = simp (c.if-leap.false, ← c.leap.ensures, c.if-m-ne2.false)
