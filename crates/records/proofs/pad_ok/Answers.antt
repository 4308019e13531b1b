-- `records::pad_ok` meets its contract: no padding without a multiplier, and less than the multiplier with one. Assumes nothing.
use Rattle.rules.specs.Rules.{padded}
use Rattle.records.proofs.Facts.{max-one}
use Rattle.records.proofs.pad_ok.Goals as goal

pub returns-then-multiplier-eq0 : goal.returns-then-multiplier-eq0
unfolding padded
returns-then-multiplier-eq0 c = simp c.if-multiplier-eq0.true

pub returns : goal.returns
unfolding padded
returns c = simp (max-one, c.if-multiplier-eq0.false)
