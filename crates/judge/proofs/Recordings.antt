-- The recordings of a file, one after the other: what the walk from one of them on comes to.
-- Assumes nothing.
use Rattle.std.proofs.Common.{Some, None}
use Rattle.std.specs.Prelude as Std
use mathlib.Core.Path.{◌≡◌, refl, ap, ◌∙◌}
use mathlib.Core.List.{List, ◌∷◌}
use mathlib.Core.Option.{Option, none}
use Prim.Native.Nat.{ℕ, zero, suc, ◌+◌, ◌-◌, ◌≤◌, ◌<◌}
use native.Mathlib.Nat.{sub-zero}
use native.Mathlib.Numerals.{add-one}
use native.Mathlib.Omega.{arith}
use lib.ListN.{length}
use Rattle.words.specs.declared.Order.{Order}
use Rattle.walk.specs.See.{stops, goes, see, over, ends, onward, Goes, Yields}
use Rattle.walk.specs.Walk.{give, ◌>>=◌}
use Rattle.walk.proofs.Seen.{see-bind, over-then, stays-goes, yields-bind}
use Rattle.rules.specs.Rules.{Held, Placed, recording, recordings}
use Rattle.rules.specs.declared.Label.{Label}
use Rattle.rules.specs.declared.Refusal.{Refusal}
use Rattle.rules.proofs.Room.{stays-recording}
use Rattle.records.specs.Says.{halts}
use Rattle.records.proofs.Steps.{ends-cons}
use Rattle.descriptions.specs.DescriptionsJudged.{HeldAs}
use Rattle.descriptions.specs.declared.Places.{Places}
use Rattle.descriptions.proofs.Stands.{yields-past}
use Rattle.judge.specs.Recorded.{leaves, Places-of}

module _ (o : Order) (label : Label) (b : ℕ) (s : List ℕ) where
  recordings-suc : (at n : ℕ) (held : Option Held) (room i : ℕ) →
      ends (see o b s at (recordings label (suc n) held room i)) ≡ onward (see o b s at (recording label held room i)) (λ x e. ends (see o b s e (recordings label n (leaves x) (room - x.layout.bytes) (suc i))))
  unfolding recordings see
  recordings-suc at n held room i =
      rw see-bind (over-then (λ _. tt) (see o b s at (recording label held room i)) (λ x e. see o b s e (recordings label n (leaves x) (room - x.layout.bytes) (suc i) >>= λ l. give (x ∷ l))) (λ x e. ends (see o b s e (recordings label n (leaves x) (room - x.layout.bytes) (suc i))))
      (λ x e. ap ends (see-bind o b s e (recordings label n (leaves x) (room - x.layout.bytes) (suc i)) (λ l. give (x ∷ l))) ∙ ends-cons (λ l. x ∷ l) (see o b s e (recordings label n (leaves x) (room - x.layout.bytes) (suc i)))))

  recordings-none : (at room n i k : ℕ) (held : Option Held) → n ≤ i → ends (see o b s at (recordings label (n - i) held room k)) ≡ goes tt at
  unfolding recordings see over
  recordings-none at room n i k held h = let d : n - i ≡ 0 = omega arith in rw d

  recordings-stop : (at room n i m q : ℕ) (held : Option Held) → i < n → see o b s at (recording label held room (i + 1)) ≡ stops m q → ends (see o b s at (recordings label (n - i) held room (i + 1))) ≡ stops m q
  recordings-stop at room n i m q held h k =
      let d : n - i ≡ suc (n - (i + 1)) = omega arith in
      rw (d, recordings-suc at (n - (i + 1)) held room (i + 1), k)

  -- how many there are
  pub yields-recordings : (n : ℕ) (held : Option Held) (room i at : ℕ) → Yields o b s at (recordings label n held room i) (λ rs e. length rs ≡ n)
  unfolding recordings
  yields-recordings zero held room i at = refl
  yields-recordings (suc n) held room i at =
      yields-past o b s (recording label held room i) _ at _
      (λ x e. yields-bind o b s (recordings label n (leaves x) (room - x.layout.bytes) (suc i)) _ e _ _ (yields-recordings n (leaves x) (room - x.layout.bytes) (suc i) e)
      (λ rs _ q. ap suc q))

-- the room that is left behind a recording is what is left of the file
recordings-go : (o : Order) (label : Label) (s : List ℕ) (p q n i : ℕ) (held : Option Held) (x : Placed) → i < n → p ≤ length s → see o 0 s p (recording label held (length s - p) (i + 1)) ≡ goes x q →
    ends (see o 0 s p (recordings label (n - i) held (length s - p) (i + 1))) ≡ ends (see o 0 s q (recordings label (n - (i + 1)) (leaves x) (length s - q) (i + 1 + 1)))
recordings-go o label s p q n i held x h l k =
    let d : n - i ≡ suc (n - (i + 1)) = omega arith in
    let z : (q ≡ p + x.layout.bytes) × (x.layout.bytes ≤ length s - p) = stays-goes o 0 s (p + (length s - p)) (omega arith) (recording label held (length s - p) (i + 1)) p _ (omega arith) (stays-recording label held (i + 1) p (length s - p)) k in
    let e : length s - p - x.layout.bytes ≡ length s - q = omega (arith, z.0) in
    rw (d, add-one (i + 1), recordings-suc o label 0 s p (n - (i + 1)) held (length s - p) (i + 1), k, e)

-- i of the recordings are read, and the walk goes on at byte p of the file, holding what the code has of the recording before
pub record Going (o : Order) (label : Label) (s : List ℕ) (count p i : ℕ) (before : Std.Option Places) : Type 0 where
  pub held : Option Held
  pub holds : HeldAs o s before held
  pub same : ends (see o 0 s 32 (recordings label count none (length s - 32) 1)) ≡ ends (see o 0 s p (recordings label (count - i) held (length s - p) (i + 1)))

module _ {o : Order} {label : Label} {s : List ℕ} {count : ℕ} where
  pub going_start : Going o label s count 32 0 None
  going_start = record { held = none; holds = tt; same = simp sub-zero }

  module _ {p i : ℕ} {before : Std.Option Places} (g : Going o label s count p i before) where
    pub going-none : count ≤ i → ends (see o 0 s 32 (recordings label count none (length s - 32) 1)) ≡ goes tt p
    going-none h = g.same ∙ recordings-none o label 0 s p (length s - p) count i (i + 1) g.held h

    -- what `recording_at` says of the next one
    pub going-stop : (r : Refusal) → i < count → see o 0 s p (recording label g.held (length s - p) (i + 1)) ≡ halts r → ends (see o 0 s 32 (recordings label count none (length s - 32) 1)) ≡ halts r
    going-stop r h k = g.same ∙ recordings-stop o label 0 s p (length s - p) count i _ _ g.held h k

    pub going_on : {q : Places} → i < count → p ≤ length s → Goes (see o 0 s p (recording label g.held (length s - p) (i + 1))) (Places-of o s p before q) → Going o label s count q.end (i + 1) (Some q)
    going_on {q} h l k = record {
      held = leaves k.value;
      holds = k.kept.held;
      same = g.same ∙ recordings-go o label s p q.end count i g.held k.value h l (k.is ∙ ap (λ (e : ℕ). goes k.value e) k.kept.end);
    }
