-- The first maker's record among the rows of a table.
-- Assumes nothing.
use Rattle.std.specs.Prelude.{List, [], ◌∷◌, ℕ, ◌+◌}
use Rattle.std.proofs.Math.Option.{Option, none, some}
use Rattle.walk.specs.Walk.{pick, Row}
use Rattle.rules.specs.Rules as R

-- the code field of the first record of code 1024 or more
unfoldable pub first_maker : List Row → Option ℕ
first_maker [] = none
first_maker (r ∷ rs) = pick (R.maker_code r.code) (some (r.start + 4)) (first_maker rs)
