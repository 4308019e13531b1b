-- `bulk::woven` meets its contract: three words, each by its own call.
-- Assumes nothing.
use Rattle.bulk.proofs.woven.Goals as goal

pub returns : goal.returns
returns c =
    rw (c.word_of_8-x.ensures, c.word_of_8-y.ensures, c.word_of_8-z.ensures)
