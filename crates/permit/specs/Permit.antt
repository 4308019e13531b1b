-- Leave to write into a lent buffer: the first of the refusals 18 and 17, or the bytes; and what the buffer holds afterwards.
-- Assumes nothing.
use Rattle.std.specs.Prelude.{Result, Ok, Err}
use Rattle.rules.specs.declared.Refusal.{Refusal}
use Rattle.rules.specs.Reasons.{number_of}
use Rattle.std.specs.Prelude.{◌≡◌, List, ℕ, leb}
use Rattle.std.proofs.Math.Option.{Option, none, some}
use Rattle.words.specs.Runs.{pasted}
use Rattle.walk.specs.Walk.{pick}

-- how many bytes were written, or a refusal and its position
pub data Answer : Type 0 where
  bytes : ℕ → Answer
  refusal : ℕ → ℕ → Answer

abbrev pub meaning : Result ℕ Refusal → Answer
meaning (Ok n) = bytes n
meaning (Err r) = refusal (number_of r.0) r.1

-- 18 at a maker's record
abbrev pub barring : Option ℕ → ℕ → Answer
barring (some p) n = refusal 18 p
barring none n = bytes n

-- 17 with the length needed, where the room is smaller
abbrev pub within : ℕ → ℕ → Answer
within n room = pick (leb n room) (bytes n) (refusal 17 n)

-- a refusal goes before what is said later
abbrev pub earlier : Answer → Answer → Answer
earlier (refusal n p) b = refusal n p
earlier (bytes n) b = b

abbrev pub permitted : Option ℕ → ℕ → ℕ → Answer
permitted made n room = earlier (barring made n) (within n room)

-- a buffer afterwards: the bytes xs from its start on where the answer is a length, else as it was
abbrev pub settled : Answer → List ℕ → List ℕ → List ℕ
settled (bytes n) xs out = pasted out 0 xs
settled (refusal n p) xs out = out

-- what a call says that answers x, and writes xs where it answers a length
pub record Writes (x : Answer) (xs out out' : List ℕ) (a : Result ℕ Refusal) : Type 0 where
  -- the answer
  pub answer : meaning a ≡ x
  -- the buffer afterwards
  pub buffer : out' ≡ settled x xs out
