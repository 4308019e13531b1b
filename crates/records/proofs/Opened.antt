-- A record that the walk accepted: what its head says, its row, and what stands behind the head.
-- Assumes nothing.
use mathlib.Core.Path.{◌≡◌, refl, sym, ap, ◌∙◌}
use mathlib.Core.Bool.{Bool, true, false, ◌&&◌}
use mathlib.Core.List.{List, [], ◌∷◌}
use Prim.Native.Nat.{ℕ, ◌+◌, ◌-◌, ◌≤◌}
use native.Mathlib.Omega.{arith}
use borrow.Author.Tests.{leb-true, le-leb}
use lib.Dec.{leb, ltb, eqb}
use Rattle.words.specs.declared.Order.{Order}
use Rattle.walk.specs.See.{Verdict, stops, goes, gate, see}
use Rattle.walk.specs.Tell.{tell}
use Rattle.walk.specs.Walk.{pick, Row, Walk, ◌>>=◌, ◌>>◌, require}
use Rattle.walk.proofs.Apart.{stops-goes}
use Rattle.walk.proofs.Seen.{and_left, and_right, gate-true}
use Rattle.walk.proofs.Went.{gate-went, went-first, goes_same}
use Rattle.walk.proofs.Told.{tell-bind, tell-then}
use Rattle.rules.specs.Rules.{Head, head, admit, span, limit, coded}

-- what is listed behind a test that passed
through : {A : Type 0} (c : Bool) (v : Verdict A) (n p : ℕ) (x y : List Row) {a : A} {e : ℕ} → gate c v n p ≡ goes a e → (v ≡ goes a e → x ≡ y) → pick c x [] ≡ y
unfolding gate
through true v n p x y h k = k h
through false v n p x y h k = stops-goes h

module _ (o : Order) (b : ℕ) (s : List ℕ) where
  -- a head lists nothing
  pub tell-head : (at room : ℕ) → tell o b s at (head room) ≡ []
  unfolding head tell ◌>>=◌ ◌>>◌
  tell-head at room = nil (leb 16 room)
    where
      nil : (c : Bool) → ◌≡◌ {A = List Row} (pick c [] []) []
      nil true = refl
      nil false = refl

  -- a head that is admitted is a row
  pub tell-admit : (at room most : ℕ) (fits serial : ℕ → Bool) (h : Head) {e : ℕ} → see o b s at (admit room most fits serial h) ≡ goes tt e →
      tell o b s at (admit room most fits serial h) ≡ record { start = at - 16; size = span h; code = h.code; serial = h.serial } ∷ []
  unfolding admit see tell ◌>>=◌ ◌>>◌
  tell-admit at room most fits serial h g = through _ _ _ _ _ _ g (λ g₁. through _ _ _ _ _ _ g₁ (λ g₂. through _ _ _ _ _ _ g₂ (λ _. refl)))

-- what an admitted head says; it is admitted with any serial, and where a larger multiplier may stand
pub record Passes (o : Order) (b : ℕ) (s : List ℕ) (at room most : ℕ) (fits serial : ℕ → Bool) (h : Head) (e : ℕ) : Type 0 where
  pub stays : e ≡ at
  pub length : fits (span h) ≡ true
  pub number : serial h.serial ≡ true
  pub inside : span h ≤ room
  pub any : (more : ℕ) → most ≤ more → see o b s at (admit room more fits (λ _. true) h) ≡ goes tt at

pub admit-passed : (o : Order) (b : ℕ) (s : List ℕ) (at room most : ℕ) (fits serial : ℕ → Bool) (h : Head) {e : ℕ} →
    see o b s at (admit room most fits serial h) ≡ goes tt e → Passes o b s at room most fits serial h e
unfolding admit see ◌>>=◌ ◌>>◌
admit-passed o b s at room most fits serial h g =
    let g₁ = gate-went _ _ _ _ g in
    let g₂ = gate-went _ _ _ _ g₁.1 in
    let g₃ = gate-went _ _ _ _ g₂.1 in
    let y : fits (span h) && leb (span h) room ≡ true = and_right (ltb h.size limit) _ g₂.0 in
    record {
      stays = sym (goes_same g₃.1).1;
      length = and_left (fits (span h)) _ y;
      number = g₃.0;
      inside = leb-true (span h) room (and_right (fits (span h)) _ y);
      any = λ more l. simp (le-leb h.multiplier more (omega (arith, leb-true h.multiplier most g₁.0)), g₂.0, gate-true);
    }

-- what an admitted head says, and its row; then what stands behind the head
pub record Admitted {A : Type 0} (o : Order) (b : ℕ) (s : List ℕ) (at room most : ℕ) (fits serial : ℕ → Bool) (h : Head) (v : Walk A) (a : A) (e : ℕ) : Type 0 where
  pub admits : see o b s at (admit room most fits serial h) ≡ goes tt at
  pub length : fits (span h) ≡ true
  pub number : serial h.serial ≡ true
  pub inside : span h ≤ room
  pub rest : see o b s at v ≡ goes a e
  pub rows : tell o b s at (admit room most fits serial h >> v) ≡ record { start = at - 16; size = span h; code = h.code; serial = h.serial } ∷ tell o b s at v

pub admit-went : {A : Type 0} (o : Order) (b : ℕ) (s : List ℕ) (at room most : ℕ) (fits serial : ℕ → Bool) (h : Head) (v : Walk A) {a : A} {e : ℕ} →
    see o b s at (admit room most fits serial h >> v) ≡ goes a e → Admitted o b s at room most fits serial h v a e
unfolding ◌>>◌
admit-went o b s at room most fits serial h v {a} {e} g =
    let f = went-first o b s at (admit room most fits serial h) (λ _. v) g in
    let p = admit-passed o b s at room most fits serial h f.is in
    let k : see o b s at (admit room most fits serial h) ≡ goes tt at = f.is ∙ ap (λ (x : ℕ). goes tt x) p.stays in
    let r : see o b s at v ≡ goes a e = ap (λ (x : ℕ). see o b s x v) (sym p.stays) ∙ f.kept in
    record {
      admits = k;
      length = p.length;
      number = p.number;
      inside = p.inside;
      rest = r;
      rows = tell-then o b s at (admit room most fits serial h) v k ∙ rw (tell-admit o b s at room most fits serial h k);
    }

-- a test that stays where it is
pub require-went : {A : Type 0} (o : Order) (b : ℕ) (s : List ℕ) (at : ℕ) (c : Bool) (n p : ℕ) (v : Walk A) {a : A} {e : ℕ} → see o b s at (require c n p >> v) ≡ goes a e →
    (c ≡ true) × (see o b s at v ≡ goes a e) × (tell o b s at (require c n p >> v) ≡ tell o b s at v)
unfolding see tell ◌>>=◌ ◌>>◌
require-went o b s at c n p v g = let g₁ = gate-went _ _ _ _ g in (g₁.0, g₁.1, rw g₁.0)

-- a head takes 16 bytes
pub head-went : (o : Order) (b : ℕ) (s : List ℕ) (at room : ℕ) {h : Head} {e : ℕ} → see o b s at (head room) ≡ goes h e → e ≡ at + 16
unfolding head see ◌>>=◌ ◌>>◌
head-went o b s at room {h} {e} g =
    let g₁ = gate-went _ _ _ _ g in
    let i : at + 4 + 4 + 4 + 4 ≡ e = cc g₁.1 in
    omega arith

-- a record that the walk accepted: its head, which has its code and is admitted, and its body; and its rows
pub record Opened {A : Type 0} (o : Order) (b : ℕ) (s : List ℕ) (at room code most : ℕ) (fits : Head → ℕ → Bool) (serial : ℕ → Bool) (body : Head → Walk A) (a : A) (e : ℕ) : Type 0 where
  pub top : Head
  pub first : see o b s at (head room) ≡ goes top (at + 16)
  pub kind : eqb top.code code ≡ true
  pub given : Admitted o b s (at + 16) room most (fits top) serial top (body top) a e
  pub rows : tell o b s at (head room >>= λ h. coded h code >> (admit room most (fits h) serial h >> body h)) ≡ record { start = at; size = span top; code = top.code; serial = top.serial } ∷ tell o b s (at + 16) (body top)

pub opened : {A : Type 0} (o : Order) (b : ℕ) (s : List ℕ) (at room code most : ℕ) (fits : Head → ℕ → Bool) (serial : ℕ → Bool) (body : Head → Walk A) {a : A} {e : ℕ} →
    see o b s at (head room >>= λ h. coded h code >> (admit room most (fits h) serial h >> body h)) ≡ goes a e → Opened o b s at room code most fits serial body a e
opened {A} o b s at room code most fits serial body g =
    let k : Head → Walk A = λ h. coded h code >> (admit room most (fits h) serial h >> body h) in
    let f = went-first o b s at (head room) k g in
    let h = f.value in
    let t = head-went o b s at room f.is in
    let c = require-went o b s f.end (eqb h.code code) 9 12 (admit room most (fits h) serial h >> body h) f.kept in
    let d = admit-went o b s f.end room most (fits h) serial h (body h) c.1 in
    let m : at + 16 - 16 ≡ at = omega arith in
    record {
      top = h;
      first = rw t at f.is;
      kind = c.0;
      given = rw t at d;
      rows = tell-bind o b s at (head room) k f.is ∙ rw (tell-head o b s at room, c.2, d.rows, t, m);
    }

-- a head that is not admitted: the record is not accepted
pub not-admitted : {A : Type 0} (o : Order) (b : ℕ) (s : List ℕ) (at room most : ℕ) (fits serial : ℕ → Bool) (h : Head) (v : Walk A) {m q : ℕ} {a : A} {e : ℕ} →
    see o b s at (admit room most fits serial h) ≡ stops m q → see o b s at (admit room most fits serial h >> v) ≡ goes a e → ⊥
not-admitted o b s at room most fits serial h v k g =
    stops-goes (sym k ∙ (admit-went o b s at room most fits serial h v g).admits)
