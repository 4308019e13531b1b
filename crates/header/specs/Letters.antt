-- The order that a letter names, and the header's values as the rules have them.
-- Assumes nothing.
use Rattle.std.specs.Prelude.{Option, Some, None}
use Rattle.std.specs.Prelude.{ℕ, eqb}
use Rattle.words.specs.Numbers.{letter_of}
use Rattle.words.specs.declared.Order.{Order}
use Rattle.words.specs.declared.Order.TheVariants.{Little, Big}
use Rattle.walk.specs.Walk.{pick}
use Rattle.rules.specs.declared.Heading.{Heading}
use Rattle.rules.specs.Rules as R

-- the order that a byte names: L or B
unfoldable pub lettered : ℕ → Option Order
lettered b = pick (eqb b (letter_of Little)) (Some Little) (pick (eqb b (letter_of Big)) (Some Big) None)

-- the header's values that the code keeps, as the rules have them
abbrev pub heading_of : Heading → R.Heading
heading_of g = record { spelling = g.spelling; label = g.label; script = g.script }
