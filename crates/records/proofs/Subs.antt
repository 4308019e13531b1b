-- What the body of a sub comes to: its tests, one after the other.
-- Assumes nothing.
use Rattle.rules.specs.declared.Refusal.{Refusal}
use Rattle.std.proofs.Common.{Result, Ok, Err}
use mathlib.Core.Path.{◌≡◌, refl}
use mathlib.Core.List.{List}
use Prim.Native.Nat.{ℕ, ◌+◌}
use Rattle.words.specs.declared.Order.{Order}
use Rattle.walk.specs.Walk.{◌>>=◌, ◌>>◌}
use Rattle.walk.specs.See.{goes, see, ends}
use Rattle.walk.proofs.Seen.{places, gates, over-gate}
use Rattle.rules.specs.Rules.{Sub, field_if, channel_body}
use Rattle.rules.proofs.Cases.{by_shape}
use Rattle.records.specs.Says.{tested, resumed, sub_tested}

-- of the one at `at`
pub sub-tested : (k : Sub) (o : Order) (s : List ℕ) (at : ℕ) → ends (see o (at + 16) s (at + 16) (channel_body k)) ≡ sub_tested k o s at (goes tt (at + 256))
unfolding channel_body field_if see ◌>>=◌ ◌>>◌
sub-tested =
    by_shape (λ k. (o : Order) (s : List ℕ) (at : ℕ) → ends (see o (at + 16) s (at + 16) (channel_body k)) ≡ sub_tested k o s at (goes tt (at + 256)))
    (λ k o s at. simp (places, gates, over-gate))
    (λ k o s at. simp (places, gates, over-gate))
    (λ k o s at. simp (places, gates, over-gate))
    (λ k o s at. simp (places, gates, over-gate))

-- the last of the tests that the code made, where nothing follows
pub resumes : (a : Result (Unit {0}) Refusal) (e : ℕ) → resumed a (goes tt e) ≡ tested a e
resumes (Ok tt) e = refl
resumes (Err r) e = refl
