-- Only one answer meets the contract of the question about a code.
-- Assumes nothing.
use Rattle.std.proofs.Common.{Result}
use mathlib.Core.Path.{◌≡◌}
use Prim.Native.Nat.{ℕ}
use Rattle.rules.specs.declared.Refusal.{Refusal}
use Rattle.recordings.proofs.Answers.{meaning-one}
use Rattle.codes.specs.Codes.{KindAnswer}
use Rattle.codes.specs.declared.EventKind.{EventKind}

pub event-kind-unique : (c : ℕ) (a b : Result EventKind Refusal) → KindAnswer c a → KindAnswer c b → a ≡ b
event-kind-unique c a b = meaning-one a b
