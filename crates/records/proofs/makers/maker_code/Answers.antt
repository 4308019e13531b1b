-- `records::makers::maker_code` meets its contract: both bounds are tested. Assumes nothing.
use Rattle.walk.proofs.Seen.{tests}
use Rattle.rules.specs.Rules.{maker_code}
use Rattle.records.proofs.makers.maker_code.Goals as goal

pub returns-then-n-lt-FIRST_CODE : goal.returns-then-n-lt-FIRST_CODE
unfolding maker_code
returns-then-n-lt-FIRST_CODE c = simp (tests, c.if-n-lt-FIRST_CODE.true)

pub returns : goal.returns
unfolding maker_code
returns c = simp (tests, c.if-n-lt-FIRST_CODE.false)
