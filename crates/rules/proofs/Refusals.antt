-- Every refusal of a file is one of document 01's, at a place in the file; and what `judge` says of it, by what the walk comes to over its bytes.
-- Assumes nothing.
use mathlib.Core.Path.{◌≡◌, refl, sym, ap, ◌∙◌}
use mathlib.Core.List.{List, [], ◌∷◌}
use Prim.Native.Nat.{ℕ, suc, ◌-◌, ◌≤◌, ◌<◌}
use native.Mathlib.Nat.{zero-add}
use native.Mathlib.Omega.{arith}
use lib.ListN.{length}
use Rattle.walk.specs.See.{Verdict, stops, goes, verdict, see, Stays}
use Rattle.walk.specs.Walk.{Event, Outcome, refused, passed, run}
use Rattle.walk.proofs.Apart.{refused-passed}
use Rattle.walk.proofs.Laws.{Spent, spent}
use Rattle.walk.proofs.Seen.{seen, stays-stops}
use Rattle.rules.specs.Rules.{File, file, order_of, whole, judge}
use Rattle.rules.proofs.Room.{stays-file}

-- the whole file is the room
pub room : (n : ℕ) → Stays n 0 (file n) (λ _ e. e ≤ n)
room n = rw zero-add at (stays-file n 0)

-- what `run` gives over a file is what the walk comes to, where no test of room stands
pub judge-seen : (s : List ℕ) → verdict 0 (run (order_of s) 0 s (file (length s))) ≡ see (order_of s) 0 s 0 (file (length s))
judge-seen s = seen (order_of s) 0 s (length s) (omega arith) (file (length s)) 0 _ (omega arith) (room (length s))

-- a refusal is the walk's, or that of the first byte that is left
whole-refused : {X : Type 0} (n : ℕ) (x : Outcome File) {m p : ℕ} → whole n x ≡ refused m p → (verdict 0 x ≡ stops m p → X) → (m ≡ 16 → p ≤ n → X) → X
unfolding whole
whole-refused n (refused i q) h walks left = walks cc
whole-refused n (passed v [] t) h walks left = refused-passed (sym h)
whole-refused n (passed v (b ∷ r) t) {m} {p} h walks left =
    let i : n - suc (length r) ≡ p = cc in
    left (cc) (omega arith)

-- so 0 is never met: neither too few bytes nor the end of `next`'s fuel
pub refusals : (s : List ℕ) {n p : ℕ} → judge s ≡ refused n p → (1 ≤ n) × (n ≤ 16) × (p ≤ length s)
unfolding judge
refusals s h =
    whole-refused (length s) (run (order_of s) 0 s (file (length s))) h
    (λ e. stays-stops (order_of s) 0 s (length s) (omega arith) (file (length s)) 0 _ (omega arith) (omega arith) (room (length s)) (sym (judge-seen s) ∙ e))
    (λ i l. (omega arith, omega arith, l))

-- what is said of a file of n bytes over which the walk comes to this
abbrev pub Told : ℕ → Outcome File → Verdict File → Type 0
Told n x (stops m p) = x ≡ refused m p
Told n x (goes v e) = (e ≡ n → (t : List Event) × (x ≡ passed v [] t)) × (e < n → x ≡ refused 16 e)

whole-told : (n : ℕ) (x : Outcome File) → Spent n x → Told n (whole n x) (verdict 0 x)
unfolding whole
whole-told n (refused m p) h = refl
whole-told n (passed v [] t) h = ((λ _. (t, refl)), λ l. absurd (omega arith))
whole-told n (passed v (b ∷ r) t) h = ((λ e. absurd (omega arith)), λ l. ap (λ (x : ℕ). refused 16 x) (omega arith))

pub judge-told : (s : List ℕ) → Told (length s) (judge s) (see (order_of s) 0 s 0 (file (length s)))
unfolding judge
judge-told s = rw (judge-seen s) at (whole-told (length s) (run (order_of s) 0 s (file (length s))) (spent (file (length s)) (order_of s) 0 s))
