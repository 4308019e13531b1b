-- Where things stand in an accepted file.
-- Assumes nothing.
use Rattle.std.specs.Prelude.{Bool, List, [], ◌∷◌, ℕ, zero, suc, ◌+◌, get_or}
use Rattle.walk.specs.Walk.{pick}
use Rattle.rules.specs.Rules.{Recording, Placed}

-- the bytes of the recordings before recording k, counted from 0
unfoldable pub bytes_before : ℕ → List Placed → ℕ
bytes_before zero ps = 0
bytes_before (suc j) [] = 0
bytes_before (suc j) (p ∷ ps) = p.layout.bytes + bytes_before j ps

-- the recording whose part holds for recording k: its own, or that of the nearest earlier one. `own` says whether a recording has the part
unfoldable pub holder : (Recording → Bool) → Recording → ℕ → List Recording → ℕ
holder own d zero rs = zero
holder own d (suc k) rs = pick (own (get_or rs (suc k) d)) (suc k) (holder own d k rs)
