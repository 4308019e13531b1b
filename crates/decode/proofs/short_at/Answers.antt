-- `decode::short_at` meets its contract: the number of the bytes at the place.
-- Assumes nothing.
use mathlib.Core.Path.{ap, ◌∙◌}
use mir.Facts.{to_z-of_z}
use Rattle.words.specs.Values.{signed}
use Rattle.decode.proofs.Places.{place-2}
use Rattle.decode.proofs.short_at.Goals as goal

pub returns : goal.returns
returns c =
    to_z-of_z {w = mir.Syntax.w16} (record { sfits = c.short.type_inv }) ∙ (c.short.ensures ∙ ap (signed 2) (place-2 _ c.args.s.now c.args.at c.requires))
