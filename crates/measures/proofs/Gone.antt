-- What a `Result` was that is an `Option` now.
-- Assumes nothing.
use Rattle.std.proofs.Common.{Result, Ok, Err, Some, None, ◌≡◌}
use mathlib.Core.Path.{refl, sym, ap}
use Rattle.std.specs.Result.{result_ok}
use Rattle.std.proofs.lemmas.Option.{none-some, same_Some}

-- there is its value
pub kept : {T E : Type 0} {x : T} (r : Result T E) → Some x ≡ result_ok r → r ≡ Ok x
kept {x = x} (Ok y) e = ap Ok (same_Some y x (sym e))
kept {x = x} (Err y) e = absurd (none-some x (sym e))

-- there is none
pub lost : {T E : Type 0} (r : Result T E) → None ≡ result_ok r → (y : E) × (r ≡ Err y)
lost (Ok y) e = absurd (none-some y e)
lost (Err y) e = (y, refl)
