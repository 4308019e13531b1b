-- `transcripts::text` meets its contract: bytes as they stand, if there is room for them.
use mathlib.Core.Path.{refl}
use native.Mathlib.Omega.{arith}
use Rattle.bodies.proofs.Copying.{pastes-whole}
use Rattle.transcripts.proofs.text.Goals as goal

pub returns : goal.returns
returns c = (omega arith, pastes-whole _ _ _ _ _ c.copy_run.ensures refl)
