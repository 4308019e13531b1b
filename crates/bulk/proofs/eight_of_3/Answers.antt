-- `bulk::eight_of_3` meets its contract: the words are turned, and their bytes written.
-- Assumes nothing.
use mathlib.Core.Path.{◌∙◌}
use Rattle.bulk.proofs.eight_of_3.Goals as goal

pub returns : goal.returns
returns c =
    c.put_words.ensures ∙ c.turned_words.ensures
