-- `signals::closed` meets its contract. Assumes nothing.
use Rattle.walk.proofs.Seen.{gates, tests}
use Rattle.signals.proofs.closed.Goals as goal

pub returns-then-less-gt-CONTENT_LIMIT : goal.returns-then-less-gt-CONTENT_LIMIT
returns-then-less-gt-CONTENT_LIMIT c = λ o. simp (gates, tests, ← c.less.ensures, c.if-less-gt-CONTENT_LIMIT.true)

pub returns-then-not-pad_ok : goal.returns-then-not-pad_ok
returns-then-not-pad_ok c = λ o. simp (gates, tests, c.if-not-pad_ok.true, ← c.pad_ok.ensures, ← c.less.ensures, c.if-less-gt-CONTENT_LIMIT.false)

pub returns : goal.returns
returns c =
    λ o. simp (gates, tests, c.if-not-pad_ok.false, ← c.pad_ok.ensures, ← c.less.ensures, c.if-less-gt-CONTENT_LIMIT.false) (c.padding.ensures o)
