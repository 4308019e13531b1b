-- What one call after another printed.
-- Assumes nothing.
use Rattle.std.proofs.Common.{◌≡◌, ℕ, List, ◌++◌, Option, Result, Ok, Err, OnOk, ℤ, subst}
use Rattle.std.proofs.KnownBytes.{Appends-trans}
use Rattle.std.specs.Fmt.{signed_decimal}
use Rattle.std.specs.Io.KnownBytes.{Appends}

-- a call printed xs, and the next one ys
pub printed : {T E : Type 0} (r : Result T E) (a b c : Option (List ℕ)) (xs ys : List ℕ) → Appends a b xs → OnOk r (Appends b c ys) → OnOk r (Appends a c (xs ++ ys))
printed (Ok x) a b c xs ys first next = Appends-trans a b c xs ys first next
printed (Err e) a b c xs ys first next = tt

-- the number that was printed is z
pub printed-number : (a b : Option (List ℕ)) (y z : ℤ) → y ≡ z → Appends a b (signed_decimal y) → Appends a b (signed_decimal z)
printed-number a b y z e h = subst (λ n. Appends a b (signed_decimal n)) e h
