-- `index::changed` meets its contract: nothing for code 0, else the entry.
-- Assumes nothing.
use mathlib.Core.Path.{refl}
use Rattle.words.proofs.Lent.{wrote_nothing}
use Rattle.index.specs.Index.{numbers}
use Rattle.index.proofs.changed.Goals as goal

pub returns-then-code-eq0 : goal.returns-then-code-eq0
returns-then-code-eq0 c = rw c.if-code-eq0.true (wrote_nothing numbers 5 (λ _. refl) _ _ _)
