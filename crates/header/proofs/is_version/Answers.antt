-- `header::is_version` meets its contract: one case a return. Assumes nothing.
use mathlib.Core.Path.{◌≡◌, refl}
use mathlib.Core.Bool.{Bool, true, false, ◌||◌}
use Rattle.rules.specs.Rules.{is_one_of, versioned}
use Rattle.header.proofs.is_version.Goals as goal

-- the first two, or the others
in-turn : (a b c : Bool) → (a || b) || c ≡ a || (b || c)
in-turn true b c = refl
in-turn false b c = refl

pub returns-then-is_one_of : goal.returns-then-is_one_of
unfolding is_one_of versioned
returns-then-is_one_of c = simp (← in-turn, ← c.is_one_of.ensures, c.if-is_one_of.true)

pub returns : goal.returns
unfolding is_one_of versioned
returns c = simp (← in-turn, ← c.is_one_of.ensures, c.if-is_one_of.false, ← c.is_one_of-2.ensures)
