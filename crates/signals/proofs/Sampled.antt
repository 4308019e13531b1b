-- Every channel has no rate, or a sample: one channel at a time. Assumes nothing.
use mathlib.Core.Path.{◌≡◌}
use mathlib.Core.Bool.{Bool, true, false}
use mathlib.Core.List.{List, [], ◌∷◌}
use Prim.Native.Nat.{ℕ, suc, ◌+◌, ◌<◌}
use native.Mathlib.Omega.{arith}
use lib.ListN.{length}
use Rattle.words.specs.Numbers.{number_at}
use Rattle.words.specs.declared.Order.{Order}
use Rattle.rules.specs.Rules.{Channel, all, sampled}
use Rattle.records.specs.Says.{Kept}

-- channels still to test, from byte p on
pub record Sampled (o : Order) (s : List ℕ) (p t n : ℕ) (cs : List Channel) : Type 0 where
  pub rest : List Channel
  pub count : length rest ≡ n
  pub kept : Kept o s p rest
  pub same : all (sampled t) rest ≡ all (sampled t) cs

module _ {o : Order} {s : List ℕ} {p t : ℕ} {cs : List Channel} where
  pub sampled-none : {n : ℕ} → Sampled o s p t n cs → n ≡ 0 → true ≡ all (sampled t) cs
  unfolding all
  sampled-none {n} x h = go x.rest x.count x.same
    where
      go : (r : List Channel) → length r ≡ n → all (sampled t) r ≡ all (sampled t) cs → true ≡ all (sampled t) cs
      go [] e q = q
      go (c ∷ r) e q = absurd (omega (arith, e))

  -- d: what the code finds of the next channel
  module _ {n : ℕ} (x : Sampled o s p t n cs) {d : Bool} (is : (c : Channel) → c.flags ≡ number_at o 4 s (p + 20) → c.rate ≡ number_at o 4 s (p + 32) → d ≡ sampled t c) where
    pub sampled-stop : 0 < n → d ≡ false → false ≡ all (sampled t) cs
    unfolding all
    sampled-stop h f = go x.rest x.count x.kept x.same
      where
        go : (r : List Channel) → length r ≡ n → Kept o s p r → all (sampled t) r ≡ all (sampled t) cs → false ≡ all (sampled t) cs
        go [] e k q = absurd (omega (arith, e))
        go (c ∷ r) e k q = rw (← is c k.0.flags k.0.rate, f) at q

    pub sampled-more : (m : ℕ) → n ≡ suc m → d ≡ true → Sampled o s (p + 256) t m cs
    unfolding all
    sampled-more m h f = go x.rest x.count x.kept x.same
      where
        go : (r : List Channel) → length r ≡ n → Kept o s p r → all (sampled t) r ≡ all (sampled t) cs → Sampled o s (p + 256) t m cs
        go [] e k q = absurd (omega (arith, e))
        go (c ∷ r) e k q = record { rest = r; count = omega (arith, e); kept = k.1; same = rw (← is c k.0.flags k.0.rate, f) at q }
