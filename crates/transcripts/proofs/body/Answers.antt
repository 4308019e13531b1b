-- `transcripts::body` meets its contract: one body for each code.
-- Assumes nothing.
use mathlib.Core.Path.{sym, ◌∙◌}
use Rattle.transcripts.proofs.Transcribing.{bodied-100, bodied-subs, bodied-items}
use Rattle.transcripts.proofs.body.Goals as goal

pub returns-in-100 : goal.returns-in-100
returns-in-100 c = bodied-100 _ _ _ _ c.in-100.is c.sized_basic.ensures

pub returns-in-130 : goal.returns-in-130
returns-in-130 c = bodied-items _ _ _ _ c.in-130.is c.sized_items.ensures

pub returns-in_default : goal.returns-in_default
returns-in_default c =
    bodied-subs _ _ _ _ (sym c.is_group.ensures ∙ c.if-is_group.true) (rw c.shape_of.ensures at c.sized_channels.ensures)
