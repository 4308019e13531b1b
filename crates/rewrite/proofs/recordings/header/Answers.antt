-- `rewrite::recordings::header` meets its contract: what is written piece by piece is the header.
-- Assumes nothing.
use Rattle.header.specs.Letters.{heading_of}
use Rattle.rewrite.proofs.Headed.{header-written}
use Rattle.rewrite.proofs.recordings.header.Goals as goal

pub returns : goal.returns
returns c =
    let a = c.args in
    header-written a.to (heading_of a.heading) a.count _ a.d.now _ _ _ _ _ c.requires.room
    c.name.ensures
    c.version_digits.ensures
    c.form_digits.ensures
    c.letter.ensures
    c.digits.ensures
    c.copy_run.ensures
