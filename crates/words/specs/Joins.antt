-- A number of one byte more.
-- Assumes nothing.
use Rattle.std.specs.Prelude.{ℕ, ◌+◌, ◌*◌}
use Rattle.words.specs.declared.Order.{Order}
use Rattle.words.specs.declared.Order.TheVariants.{Little, Big}

-- a first byte, and the number of the bytes after it, which is below place
abbrev pub join : Order → ℕ → ℕ → ℕ → ℕ
join Little place first rest = first + rest * 256
join Big place first rest = first * place + rest
