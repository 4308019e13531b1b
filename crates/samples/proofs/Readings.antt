-- The samples of one channel in a frame's reading: its numbers, each by the channel's format, and how many there are.
-- Assumes nothing.
use mathlib.Core.Path.{◌≡◌, refl, ap}
use mathlib.Core.List.{List, [], ◌∷◌, map}
use Prim.Native.Nat.{ℕ, zero, suc, ◌-◌, ◌<◌}
use native.Mathlib.Omega.{arith}
use lib.ListN.{length, get_or}
use Rattle.rules.specs.Rules as R
use Rattle.rules.specs.Rules.{samples_in, width}
use Rattle.rules.specs.Reading.{value_of, samples_reading}
use Rattle.rules.proofs.Renew.{All, SamplesOk}
use Rattle.recordings.specs.Answers.{value, indexed, numbered}
use Rattle.recordings.proofs.Chosen.{refusal-value}

-- one of a list each of which is known
pub all_one : {A : Type 0} (P : A → Type 0) (d : A) (l : List A) (i : ℕ) → i < length l → All P l → P (get_or l i d)
all_one P d [] i h k = absurd (omega arith)
all_one P d (a ∷ l) zero h k = k.0
all_one P d (a ∷ l) (suc i) h k = all_one P d l i (omega arith) k.1

module _ (t : ℕ) where
  -- as many as there are channels
  pub samples-many : (cs : List R.Channel) (ss : List (List ℕ)) → SamplesOk t cs ss → length (samples_reading cs ss) ≡ length cs
  unfolding samples_reading
  samples-many [] ss k = refl
  samples-many (c ∷ cs) [] k = absurd k
  samples-many (c ∷ cs) (s ∷ ss) k = ap suc (samples-many cs ss k.2)

  -- the channel's numbers among those of a frame
  pub record Reads (cs : List R.Channel) (ss : List (List ℕ)) (i n : ℕ) (x : R.Channel) : Type 0 where
    pub values : numbered (samples_reading cs ss) n ≡ value (map (value_of x.format (width x.format)) (get_or ss i []))
    pub count : length (get_or ss i []) ≡ samples_in t x

  reads-indexed : (cs : List R.Channel) (ss : List (List ℕ)) → SamplesOk t cs ss → (i : ℕ) {x : R.Channel} → indexed cs i ≡ value x → Reads cs ss i (suc i) x
  unfolding indexed numbered samples_reading
  reads-indexed [] ss k i h = refusal-value h
  reads-indexed (c ∷ cs) [] k i h = absurd k
  reads-indexed (c ∷ cs) (s ∷ ss) k zero {x} h = let d : x ≡ c = cc in rw d (record { values = refl; count = k.0 })
  reads-indexed (c ∷ cs) (s ∷ ss) k (suc i) h = let r = reads-indexed cs ss k.2 i h in record { values = r.values; count = r.count }

  pub reads-numbered : (cs : List R.Channel) (ss : List (List ℕ)) → SamplesOk t cs ss → (n : ℕ) {x : R.Channel} → numbered cs n ≡ value x → Reads cs ss (n - 1) n x
  unfolding numbered
  reads-numbered cs ss k zero h = refusal-value h
  reads-numbered cs ss k (suc i) h = let e : suc i - 1 ≡ i = omega arith in rw e (reads-indexed cs ss k i h)
