-- The events that a walk accepted over the bytes, with every byte that is not judged zero, are the canonical events of what it gave: a law a record.
-- Assumes nothing.
use mathlib.Core.Path.{◌≡◌, refl, ap, ◌∙◌}
use mathlib.Core.List.{List, [], ◌∷◌, ◌++◌, map}
use Prim.Native.Nat.{ℕ, zero, suc, ◌+◌, ◌-◌, ◌≤◌}
use native.Mathlib.Omega.{arith}
use lib.ListN.{length, drop, length-drop}
use lib.Seq.{length-take-le, drop-drop}
use Rattle.words.specs.Numbers.{bytes_at, number_at}
use Rattle.words.specs.declared.Order.{Order}
use Rattle.walk.specs.See.{Verdict, goes, gate, see}
use Rattle.walk.specs.Trace.{trace}
use Rattle.walk.specs.Walk.{laid, Event, numeral, cleared, Walk, give, refuse, check, number, read, skip, list, ◌>>=◌, ◌>>◌}
use Rattle.walk.proofs.Tracing.{trace-bind, trace-give, cleared-append}
use Rattle.walk.proofs.Went.{gate-went, went-first, goes_same}
use Rattle.rules.specs.Canonical.{numerals, sample_events, blanks}
use Rattle.rules.specs.Rules.{Head, head, Channel, number_list, samples, samples_in, width, Frame}
use Rattle.bodies.specs.Copy.{filling}
use Rattle.measures.specs.Measures.{FrameIn}

-- the events of a walk over a part, with every byte that is not judged zero
abbrev pub bare : {A : Type 0} → Order → ℕ → List ℕ → ℕ → Walk A → List Event
bare o b s at w = cleared (trace o b s at w)

module _ {A B : Type 0} (o : Order) (b : ℕ) (s : List ℕ) (at : ℕ) where
  -- one walk after the other, where the first goes on
  pub bare-bind : (w : Walk A) (k : A → Walk B) {a : A} {e : ℕ} → see o b s at w ≡ goes a e → bare o b s at (w >>= k) ≡ bare o b s at w ++ bare o b s e (k a)
  bare-bind w k {a} {e} h = ap cleared (trace-bind o b s at w k h) ∙ cleared-append (trace o b s at w) (trace o b s e (k a))

  -- an answer that is mapped at the end adds nothing
  pub bare-give : (w : Walk A) (f : A → B) → bare o b s at (w >>= λ a. give (f a)) ≡ bare o b s at w
  bare-give w f = ap cleared (trace-give o b s at w f)

-- two walks that went on, with an answer from both
pub record Both {A B C : Type 0} (o : Order) (b : ℕ) (s : List ℕ) (at : ℕ) (w : Walk A) (v : A → Walk B) (f : A → B → C) (c : C) (e : ℕ) : Type 0 where
  pub value : A
  pub mid : ℕ
  pub other : B
  pub first : see o b s at w ≡ goes value mid
  pub second : see o b s mid (v value) ≡ goes other e
  pub is : f value other ≡ c
  pub events : bare o b s at (w >>= λ a. v a >>= λ x. give (f a x)) ≡ bare o b s at w ++ bare o b s mid (v value)

pub both : {A B C : Type 0} (o : Order) (b : ℕ) (s : List ℕ) (at : ℕ) (w : Walk A) (v : A → Walk B) (f : A → B → C) {c : C} {e : ℕ} →
    see o b s at (w >>= λ a. v a >>= λ x. give (f a x)) ≡ goes c e → Both o b s at w v f c e
unfolding see
both {A} {B} {C} o b s at w v f {c} {e} h =
    let k : A → Walk C = λ a. v a >>= λ x. give (f a x) in
    let y = went-first o b s at w k h in
    let z = went-first o b s y.end (v y.value) (λ x. give (f y.value x)) y.kept in
    let g = goes_same z.kept in
    record {
      value = y.value;
      mid = y.end;
      other = z.value;
      first = y.is;
      second = z.is ∙ ap (λ (x : ℕ). goes z.value x) g.1;
      is = g.0;
      events = bare-bind o b s at w k y.is ∙ ap (λ (t : List Event). bare o b s at w ++ t) (bare-give o b s y.end (v y.value) (f y.value));
    }

module _ (o : Order) (b : ℕ) (s : List ℕ) where
  -- bytes that are skipped where there is room
  skipped-length : (n at : ℕ) → b ≤ at → at + n ≤ b + length s → length (bytes_at n s (at - b)) ≡ n
  unfolding bytes_at
  skipped-length n at g h = length-take-le n (drop (at - b) s) (rw length-drop (omega arith))

  -- A record

  pub head-bare : (at room : ℕ) {h : Head} {e : ℕ} → see o b s at (head room) ≡ goes h e → bare o b s at (head room) ≡ numerals h
  unfolding head see trace cleared ◌>>=◌ ◌>>◌
  head-bare at room g = ap (λ (h : Head). numerals h) (goes_same (gate-went _ _ _ _ g).1).0

  -- 145

  numbers-bare : (w n at : ℕ) {l : List ℕ} {e : ℕ} → see o b s at (number_list w n) ≡ goes l e → bare o b s at (number_list w n) ≡ map (numeral w) l
  unfolding number_list see trace cleared ◌>>=◌
  numbers-bare w zero at h = rw (← (goes_same h).0) refl
  numbers-bare w (suc n) at h =
      let v : ℕ = number_at o w s (at - b) in
      let y = went-first o b s (at + w) (number_list w n) (λ r. give (v ∷ r)) h in
      rw (← (goes_same y.kept).0) (ap (λ (t : List Event). numeral w v ∷ t)
      (bare-give o b s (at + w) (number_list w n) (λ r. v ∷ r) ∙ numbers-bare w n (at + w) y.is))

  pub samples-bare : (t : ℕ) (cs : List Channel) (at : ℕ) {ss : List (List ℕ)} {e : ℕ} → see o b s at (samples t cs) ≡ goes ss e →
      bare o b s at (samples t cs) ≡ sample_events cs ss
  unfolding samples sample_events see trace cleared
  samples-bare t [] at h = refl
  samples-bare t (c ∷ cs) at h =
      let x = both o b s at (number_list (width c.format) (samples_in t c)) (λ _. samples t cs) (λ s r. s ∷ r) h in
      rw (← x.is) (x.events ∙ rw (numbers-bare (width c.format) (samples_in t c) at x.first, samples-bare t cs x.mid x.second))

  pub filling-bare : (t : ℕ) (cs : List Channel) {ss : List (List ℕ)} {e : ℕ} → 8 ≤ length s → see o b s (b + 8) (samples t cs) ≡ goes ss e →
      bare o b s b (filling t cs) ≡ numeral 2 (number_at o 2 s 0) ∷ numeral 2 (number_at o 2 s 2) ∷ numeral 2 (number_at o 2 s 4) ∷ blanks 2 ∷ sample_events cs
      ss
  unfolding filling number_list trace cleared ◌>>=◌ ◌>>◌
  filling-bare t cs l h =
      let z₀ : b - b ≡ 0 = omega arith in
      let z₁ : b + 2 - b ≡ 2 = omega arith in
      let z₂ : b + 2 + 2 - b ≡ 4 = omega arith in
      let z : b + 2 + 2 + 2 + 2 ≡ b + 8 = omega arith in
      rw (skipped-length 2 (b + 2 + 2 + 2) (omega arith) (omega arith), z₀, z₁, z₂, z, samples-bare t cs (b + 8) h)

-- a walk over the bytes behind a comes to the same as over all of them
module _ {A : Type 0} (o : Order) (b c a : ℕ) (s : List ℕ) (stands : c ≡ b + a) where
  pub see-behind : (w : Walk A) (at : ℕ) → c ≤ at → see o c (drop a s) at w ≡ see o b s at w
  unfolding see number_at bytes_at
  see-behind (give x) at g = refl
  see-behind (refuse n p) at g = refl
  see-behind (check k n p w) at g = ap (λ (v : Verdict A). gate k v n (at - p)) (see-behind w at g)
  see-behind (number n f) at g = let d : a + (at - c) ≡ at - b = omega arith in
      rw (drop-drop (at - c) a s, d) (see-behind (f (number_at o n s (at - b))) (at + n) (omega arith))
  see-behind (read k n f) at g = let d : a + (at - c) ≡ at - b = omega arith in
      rw (drop-drop (at - c) a s, d) (see-behind (f (laid o k (bytes_at n s (at - b)))) (at + n) (omega arith))
  see-behind (skip n w) at g = see-behind w (at + n) (omega arith)
  see-behind (list p l x y w) at g = see-behind w at g

number_behind : (o : Order) (n a k : ℕ) (s : List ℕ) → number_at o n (drop a s) k ≡ number_at o n s (a + k)
unfolding number_at
number_behind o n a k s = rw (drop-drop k a s)

-- a frame's clock and samples, where p is what stands behind its head
pub frame-bare : (o : Order) (b t : ℕ) (cs : List Channel) (s p : List ℕ) (f : Frame) → p ≡ drop 16 s → 24 ≤ length s → FrameIn o t cs s f →
    bare o (b + 16) p (b + 16) (filling t cs) ≡ numeral 2 f.hour ∷ numeral 2 f.minute ∷ numeral 2 f.second ∷ blanks 2 ∷ sample_events cs f.channels
frame-bare o b t cs s p f i l x =
    let k : 8 ≤ length p = rw (i, length-drop) (omega arith) in
    let z : b + 16 + 8 ≡ b + 24 = omega arith in
    let h = ap (λ (y : List ℕ). see o (b + 16) y (b + 16 + 8) (samples t cs)) i ∙ see-behind o b (b + 16) 16 s refl (samples t cs) (b + 16 + 8)
    (omega arith) ∙ ap (λ (y : ℕ). see o b s y (samples t cs)) z ∙ x.samples b in
    filling-bare o (b + 16) p t cs k h ∙ rw (i, number_behind o 2 16 0 s, number_behind o 2 16 2 s, number_behind o 2 16 4 s, x.hour, x.minute, x.second)
