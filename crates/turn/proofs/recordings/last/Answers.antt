-- `turn::recordings::last` meets its contract: the delimiter's head, and the bytes behind it.
-- Assumes nothing.
use Rattle.bodies.proofs.Copying.{holds-join}
use Rattle.turn.proofs.recordings.last.Goals as goal

pub returns : goal.returns
returns c =
    let h = c.head-at in
    let t = c.text in
    λ fit b room. holds-join _ _ _ _ h.result t.result _ _ (h.ensures.1 b room) (λ r. (t.ensures.1 r).1)
