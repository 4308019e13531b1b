-- A record that was opened, and its body: what the proofs of `basic_at`, `channel_at`, `frame_at`, `items_at` and `channels_at` share. Assumes nothing.
use Rattle.rules.specs.declared.Refusal.{Refusal}
use Rattle.std.proofs.Common.{Result, Ok, Err}
use mathlib.Core.Path.{◌≡◌, refl, sym, ap, ◌∙◌}
use mathlib.Core.List.{List}
use Prim.Native.Nat.{ℕ, ◌+◌, ◌-◌, ◌≤◌}
use native.Mathlib.Omega.{arith}
use lib.ListN.{length, take, drop, length-take, length-drop}
use Rattle.words.specs.Sizes.{Addressable}
use Rattle.words.specs.declared.Order.{Order}
use Rattle.walk.specs.Walk.{Walk, give, ◌>>=◌, ◌>>◌}
use Rattle.walk.specs.See.{Verdict, stops, goes, Stays, see, onward, ends}
use Rattle.walk.proofs.Seen.{see-bind, see-after, see-body, body-length}
use Rattle.rules.specs.declared.Label.{Label}
use Rattle.rules.specs.Rules.{Channel, sample_bytes, fixed, frame_rule, frame_body, frame}
use Rattle.rules.specs.Rules as R
use Rattle.records.specs.Asks.{BodyOf}
use Rattle.records.specs.Says.{opened, tested, stepped, Beyond, Advances}

-- where a record stops whose body was tested
abbrev pub ended : Result (Unit {0}) Refusal → ℕ → Result ℕ Refusal
ended (Ok tt) q = Ok q
ended (Err r) q = Err r

join : {X H A : Type 0} (v : Verdict X) (f : X → ℕ → Verdict A) (f' : X → ℕ → Verdict H) (g : H → ℕ → Verdict A) →
    ((x : X) (e : ℕ) → f x e ≡ onward (f' x e) g) → onward v f ≡ onward (onward v f') g
join (stops n p) f f' g k = refl
join (goes x e) f f' g k = k x e

-- a record by its rule: opened, and then its body
module _ {A : Type 0} (o : Order) (b : ℕ) (s : List ℕ) (r : R.Rule) (w : R.Head → Walk A) (room : ℕ) where
  abbrev on : R.Head → ℕ → Verdict A
  on h e = see o b s e (w h)

  after : {X : Type 0} (u : Walk X) (v : Walk A) (v' : Walk R.Head) → ((x : ℕ) → see o b s x v ≡ onward (see o b s x v') on) →
      (at : ℕ) → see o b s at (u >> v) ≡ onward (see o b s at (u >> v')) on
  after u v v' k at =
      see-after o b s at u v ∙ (join (see o b s at u) (λ _ x. see o b s x v) (λ _ x. see o b s x v') on (λ _ x. k x) ∙
      ap (λ (y : Verdict R.Head). onward y on) (sym (see-after o b s at u v')))

  given : (h : R.Head) (x : ℕ) → see o b s x (w h) ≡ onward (see o b s x (give h)) on
  unfolding see
  given h x = refl

  pub body-opened : (at : ℕ) → see o b s at (R.head room >>= λ h. R.coded_by r h >> (R.admit_by r room h >> w h)) ≡ onward (see o b s at (opened r room)) (λ h e. see o b s e (w h))
  unfolding opened
  body-opened at =
      let k : R.Head → Walk A = λ h. R.coded_by r h >> (R.admit_by r room h >> w h) in
      let k' : R.Head → Walk R.Head = λ h. R.coded_by r h >> (R.admit_by r room h >> give h) in
      see-bind o b s at (R.head room) k ∙
      (join (see o b s at (R.head room)) (λ h e. see o b s e (k h)) (λ h e. see o b s e (k' h)) on
      (λ h e. after (R.coded_by r h) (R.admit_by r room h >> w h) (R.admit_by r room h >> give h) (after (R.admit_by r room h) (w h) (give h) (given h)) e) ∙
      ap (λ (y : Verdict R.Head). onward y on) (sym (see-bind o b s at (R.head room) k')))

pub fixed-opened : {A : Type 0} (o : Order) (b : ℕ) (s : List ℕ) (r : R.Rule) (w : Walk A) (room at : ℕ) →
    see o b s at (fixed r w room) ≡ onward (see o b s at (opened r room)) (λ h e. see o b s e w)
unfolding fixed
fixed-opened o b s r w room at = body-opened o b s r (λ _. w) room at

frame-fixed : (label : Label) (size t : ℕ) (cs : List Channel) (room i : ℕ) → frame label size t cs room i ≡ fixed (frame_rule label size (24 + sample_bytes t cs) i) (frame_body size t cs) room
unfolding frame fixed
frame-fixed label size t cs room i = refl

pub frame_opened : (o : Order) (label : Label) (b : ℕ) (s : List ℕ) (size t : ℕ) (cs : List Channel) (room i at : ℕ) →
    see o b s at (frame label size t cs room i) ≡ onward (see o b s at (opened (frame_rule label size (24 + sample_bytes t cs) i) room)) (λ h e. see o b s e (frame_body size t cs))
frame_opened o label b s size t cs room i at =
    ap (see o b s at) (frame-fixed label size t cs room i) ∙ fixed-opened o b s (frame_rule label size (24 + sample_bytes t cs) i) (frame_body size t cs) room at

-- the body of the record of n bytes at p, which stops at q, is read in the part behind its head
pub body-long : (p q n : ℕ) (s : List ℕ) → q ≡ p + n → 16 ≤ n → q ≤ length s → 16 + length (take (q - (p + 16)) (drop (p + 16) s)) ≡ n
body-long p q n s is least inside = let e : q - p ≡ n = omega arith in body-length p q s (omega arith) (omega arith) ∙ e

-- and is what the function of a body asks for, where it has at least so many bytes
pub body-asked : (b p q least : ℕ) (s : List ℕ) → p + 16 + least ≤ q → q ≤ length s → Addressable (b + length s) → BodyOf least (b + p) (take (q - (p + 16)) (drop (p + 16) s))
body-asked b p q least s long inside short = record { long = simp (length-take, length-drop) (omega arith); short = simp (length-take, length-drop) (omega arith) }

module _ {A : Type 0} (o : Order) (b p q n : ℕ) (s : List ℕ) (is : q ≡ p + n) (least : 16 ≤ n) (inside : q ≤ length s) where
  pub body-seen : (w : Walk A) → ((x : ℕ) → Stays (x + (n - 16)) x w (λ _ e. e ≡ x + (n - 16))) →
      see o (b + p + 16) (take (q - (p + 16)) (drop (p + 16) s)) (b + p + 16) w ≡ see o b s (b + (p + 16)) w
  body-seen w k =
      let z : b + p + 16 + (n - 16) ≡ b + q = omega arith in
      see-body o b p q s w (λ _ x. x ≡ b + q) (omega arith) (omega arith) (rw z at (k (b + p + 16)))

  -- what a body of that length comes to, as its own function says
  pub body-held : (w : ℕ → Walk A) → ((x : ℕ) → Stays (x + (n - 16)) x (w n) (λ _ e. e ≡ x + (n - 16))) → (a : Result (Unit {0}) Refusal) →
      ends (see o (b + p + 16) (take (q - (p + 16)) (drop (p + 16) s)) (b + p + 16) (w (16 + length (take (q - (p + 16)) (drop (p + 16) s))))) ≡
      tested a (b + p + (16 + length (take (q - (p + 16)) (drop (p + 16) s)))) → ends (see o b s (b + (p + 16)) (w n)) ≡ stepped b (ended a q)
  body-held w k a g =
      ap ends (sym (body-seen (w n) k)) ∙ (rw (body-long p q n s is least inside) at g ∙ stopped-at a)
    where
      stopped-at : (x : Result (Unit {0}) Refusal) → tested x (b + p + n) ≡ stepped b (ended x q)
      stopped-at (Ok tt) = ap (λ (y : ℕ). goes tt y) (omega arith)
      stopped-at (Err r) = refl

-- and where that is
pub ended-advances : (p d n q : ℕ) (a : Result (Unit {0}) Refusal) → q ≡ p + d → q ≤ n → Advances p d n (ended a q)
ended-advances p d n q (Ok tt) e h = (e, h)
ended-advances p d n q (Err r) e h = tt

pub ended-beyond : (p n q : ℕ) (a : Result (Unit {0}) Refusal) → p ≤ q → q ≤ n → Beyond p n (ended a q)
ended-beyond p n q (Ok tt) e h = record { low = e; inside = h }
ended-beyond p n q (Err r) e h = tt
