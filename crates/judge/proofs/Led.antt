-- Recordings that a walk read one after the other: the first, and the others.
-- Assumes nothing.
use mathlib.Core.Path.{◌≡◌, sym, ◌∙◌}
use mathlib.Core.List.{List, ◌∷◌}
use mathlib.Core.Option.{Option}
use Prim.Native.Nat.{ℕ, suc, ◌+◌, ◌-◌, ◌≤◌}
use native.Mathlib.Omega.{arith}
use lib.ListN.{length}
use Rattle.words.specs.declared.Order.{Order}
use Rattle.walk.specs.See.{goes, see, Goes}
use Rattle.walk.specs.Walk.{Walk, give, ◌>>=◌}
use Rattle.walk.proofs.Seen.{see-give, stays-goes}
use Rattle.walk.proofs.Went.{went-first, goes_same}
use Rattle.rules.specs.Rules.{Held, Placed, recording, recordings}
use Rattle.rules.specs.declared.Label.{Label}
use Rattle.rules.proofs.Room.{stays-recording}
use Rattle.judge.specs.Recorded.{leaves}

-- a list with an answer put before it
behind : {A : Type 0} (o : Order) (b : ℕ) (s : List ℕ) (at : ℕ) (w : Walk (List A)) (a : A) {l : List A} {e : ℕ} → see o b s at (w >>= λ r. give (a ∷ r)) ≡ goes l e → Goes (see o b s at w) (λ r m. (l ≡ a ∷ r) × (m ≡ e))
behind o b s at w a h =
    let x = went-first o b s at w (λ r. give (a ∷ r)) h in
    let y = goes_same (sym (see-give o b s x.end (a ∷ x.value)) ∙ x.kept) in
    record { value = x.value; end = x.end; is = x.is; kept = (sym y.0, y.1) }

-- the walk read n + 1 recordings from byte p of the file on, which are l, and ended at e
pub record Led (o : Order) (label : Label) (s : List ℕ) (p n : ℕ) (held : Option Held) (i : ℕ) (l : List Placed) (e : ℕ) : Type 0 where
  pub one : Placed
  pub mid : ℕ
  pub rest : List Placed
  pub is : see o 0 s p (recording label held (length s - p) i) ≡ goes one mid
  pub place : mid ≡ p + one.layout.bytes
  pub on : see o 0 s mid (recordings label n (leaves one) (length s - mid) (suc i)) ≡ goes rest e
  pub all : l ≡ one ∷ rest

module _ (o : Order) (label : Label) (s : List ℕ) (p n : ℕ) (held : Option Held) (i : ℕ) {l : List Placed} {e : ℕ} where
  pub led : p ≤ length s → see o 0 s p (recordings label (suc n) held (length s - p) i) ≡ goes l e → Led o label s p n held i l e
  unfolding recordings
  led f g =
      let x = went-first o 0 s p (recording label held (length s - p) i) _ g in
      let z = stays-goes o 0 s (p + (length s - p)) (omega arith) (recording label held (length s - p) i) p _ (omega arith) (stays-recording label held i p (length s - p)) x.is in
      let u : length s - p - x.value.layout.bytes ≡ length s - x.end = omega (arith, z.0) in
      let y = behind o 0 s x.end (recordings label n (leaves x.value) (length s - x.end) (suc i)) x.value (rw u at x.kept) in
      record { one = x.value; mid = x.end; rest = y.value; is = x.is; place = z.0; on = rw y.kept.1 at y.is; all = y.kept.0 }
