-- The clock of a frame that a walk gave is the numbers in the bytes of its record; and signed numbers put into an answer.
-- Assumes nothing.
use mathlib.Core.Path.{◌≡◌, ◌∙◌}
use mathlib.Core.List.{List}
use Prim.Native.Nat.{ℕ, ◌+◌, ◌-◌, ◌^◌, ◌<◌}
use lib.IntN.{ℤ}
use lib.Signed.{mag}
use mir.Syntax.{w32}
use mir.Val.{to_z, of_z}
use Rattle.words.specs.Numbers.{number_at, bytes_at}
use Rattle.words.specs.declared.Order.{Order}
use Rattle.words.proofs.Ints.{kept}
use Rattle.walk.specs.Walk.{Walk, give, refuse, check, number, read, skip, list, laid, ◌>>=◌, ◌>>◌}
use Rattle.walk.specs.See.{see, goes, Yields}
use Rattle.walk.proofs.Seen.{yields, places}
use Rattle.rules.specs.Rules as R
use Rattle.rules.specs.declared.Label.{Label}
use Rattle.rules.specs.Rules.{head, admit, frame, frame_body, padding}
use Rattle.samples.specs.Frames.{time_of}
use Rattle.samples.specs.declared.Time.{Time}

-- a signed number that a call gave, put into an answer
pub held : {z n : ℤ} → mag z < 2 ^ 31 → z ≡ n → to_z w32 (of_z w32 z) ≡ n
held {z} h e = kept z h ∙ e

-- the clock of the record 145 at byte p
abbrev pub time_at : Order → List ℕ → ℕ → Time
time_at o s p = record { hour = number_at o 2 s (p + 16); minute = number_at o 2 s (p + 18); second = number_at o 2 s (p + 20) }

-- whatever a walk reads, what follows it yields
yields-after : {A B : Type 0} (o : Order) (b : ℕ) (s : List ℕ) (w : Walk A) (k : A → Walk B) (at : ℕ) (Q : B → ℕ → Type 0) → ((a : A) (e : ℕ) → Yields o b s e (k a) Q) → Yields o b s at (w >>= k) Q
unfolding ◌>>=◌
yields-after o b s (give x) k at Q g = g x at
yields-after o b s (refuse n p) k at Q g = tt
yields-after o b s (check c n p w) k at Q g = λ e. yields-after o b s w k at Q g
yields-after o b s (number n f) k at Q g = yields-after o b s (f (number_at o n s (at - b))) k (at + n) Q g
yields-after o b s (read κ n f) k at Q g = yields-after o b s (f (laid o κ (bytes_at n s (at - b)))) k (at + n) Q g
yields-after o b s (skip n w) k at Q g = yields-after o b s w k (at + n) Q g
yields-after o b s (list p l c m w) k at Q g = yields-after o b s w k at Q g

module _ (o : Order) (s : List ℕ) (p : ℕ) where
  yields-clock : (label : Label) (size t : ℕ) (cs : List R.Channel) (room i : ℕ) → Yields o 0 s p (frame label size t cs room i) (λ f e. time_of f ≡ time_at o s p)
  unfolding frame frame_body head admit padding ◌>>=◌ ◌>>◌
  yields-clock label size t cs room i _ _ _ _ _ _ _ _ =
      yields-after o 0 s (R.samples t cs) _ _ _
      (λ ss e. yields-after o 0 s (R.zeros _) _ _ _ (λ _ _. simp places))

  pub clock-read : (label : Label) (size t : ℕ) (cs : List R.Channel) (room i : ℕ) {f : R.Frame} {e : ℕ} → see o 0 s p (frame label size t cs room i) ≡ goes f e → time_of f ≡ time_at o s p
  clock-read label size t cs room i h = yields o 0 s (frame label size t cs room i) p _ (yields-clock label size t cs room i) h
