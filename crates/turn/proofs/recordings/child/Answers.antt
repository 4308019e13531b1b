-- `turn::recordings::child` meets its contract: a 140 with its frames, or any other record.
-- Assumes nothing.
use Rattle.turn.proofs.Sent.{child-140, child-other}
use Rattle.turn.proofs.recordings.child.Goals as goal

pub returns-then-h-eq-CODE : goal.returns-then-h-eq-CODE
returns-then-h-eq-CODE c = child-140 _ _ _ _ _ _ _ _ _ _ c.if-h-eq-CODE.true c.frames.ensures

pub returns : goal.returns
returns c = child-other _ _ _ _ _ _ _ _ _ _ c.if-h-eq-CODE.false c.transcribe.ensures
