-- `answers::word` meets its contract, by the laws of the two signs.
-- Assumes nothing.
use Rattle.answers.proofs.Width.{Plain, plain, Under, under}
use Rattle.answers.proofs.word.Goals as goal

known : (c : goal.Then-z-ge0) → Plain c.args.z
known c = plain _ c.ranges.z c.if-z-ge0.true

known-2 : (c : goal.Else-z-ge0) → Under c.args.z
known-2 c = under _ c.ranges.z c.if-z-ge0.false

pub overflow_cast-result : goal.overflow_cast-result
overflow_cast-result c = ((known c).test, (known c).fits)

pub returns-then-z-ge0 : goal.returns-then-z-ge0
returns-then-z-ge0 c = (known c).word

pub overflow_sub-result : goal.overflow_sub-result
overflow_sub-result c = (known-2 c).small

pub overflow_cast-result-2 : goal.overflow_cast-result-2
overflow_cast-result-2 c = ((known-2 c).test, (known-2 c).fits)

pub overflow_sub-result-2 : goal.overflow_sub-result-2
overflow_sub-result-2 c = (known-2 c).within

pub returns : goal.returns
returns c = (known-2 c).word
