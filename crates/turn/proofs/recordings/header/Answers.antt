-- `turn::recordings::header` meets its contract: all its bytes stand as they are, but for the letter.
-- Assumes nothing.
use Rattle.turn.proofs.Sent.{header-copied}
use Rattle.turn.proofs.recordings.header.Goals as goal

pub returns : goal.returns
returns c =
    let a = c.args in
    λ n f e g. rw c.copy_run.ensures (header-copied a.w a.s.now n c.letter.result c.requires.source c.letter.ensures g)
