-- `permit::permit` meets its contract: the first of the two refusals.
-- Assumes nothing.
use mathlib.Core.Path.{◌≡◌, refl}
use Prim.Native.Nat.{ℕ}
use Rattle.std.specs.Prelude.{Result, Ok, Err}
use Rattle.std.specs.Result.{result_and}
use Rattle.rules.specs.declared.Refusal.{Refusal}
use Rattle.permit.specs.Permit.{meaning, earlier}
use Rattle.permit.proofs.permit.Goals as goal

both : (a b : Result ℕ Refusal) → meaning (result_and a b) ≡ earlier (meaning a) (meaning b)
both (Ok n) b = refl
both (Err r) b = refl

pub returns : goal.returns
returns c = rw (c.and.ensures, both, c.barred-maker.ensures, c.short-space.ensures)
