-- `index::put` meets its contract: five numbers are stored where there is room for them.
-- Assumes nothing.
use mathlib.Core.Path.{refl}
use native.Mathlib.Omega.{arith}
use mir.Syntax.{w64}
use mir.ValLaws.{to_z_pos}
use Rattle.words.proofs.Lent.{wrote-counted}
use Rattle.index.specs.Index.{numbers}
use Rattle.index.proofs.Sampling.{wrote-entry}
use Rattle.index.proofs.put.Goals as goal

pub returns-then-not-write : goal.returns-then-not-write
returns-then-not-write c = wrote-counted numbers 5 (λ _. refl) _ _ _ _ (c.if-not-write.true)

pub returns : goal.returns
returns c =
    let a = c.args in
    wrote-entry _ _ _ _ _ _ _ _ _ (c.if-not-write.false) (omega arith)
    (to_z_pos w64 a.spot.recording (omega arith)) (to_z_pos w64 a.spot.frame (omega arith)) (to_z_pos w64 a.spot.channel (omega arith))
    (to_z_pos w64 a.place (omega (arith, c.requires.short))) (to_z_pos w64 a.code (omega arith))
