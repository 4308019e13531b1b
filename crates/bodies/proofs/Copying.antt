-- What is written of a walk's events: of one walk after the other, of a part as of the whole, how many bytes; and bytes pasted behind others.
-- Assumes nothing.
use mathlib.Core.Path.{◌≡◌, sym, ap, ◌∙◌}
use mathlib.Core.Bool.{Bool}
use mathlib.Core.List.{List, [], ◌++◌}
use Prim.Native.Nat.{ℕ, ◌+◌, ◌-◌, ◌≤◌, ◌<◌}
use native.Mathlib.Omega.{arith}
use lib.ListN.{length, take, drop, length-append}
use Rattle.words.proofs.Runs.{pasted-pasted, length-pasted, pasted-nothing, part-pasted}
use Rattle.walk.specs.See.{goes, see, Stays}
use Rattle.walk.specs.Trace.{trace, written}
use Rattle.walk.specs.Walk.{Walk, give, ◌>>=◌, ◌>>◌}
use Rattle.walk.proofs.Tracing.{trace-bind, trace-give, trace-part, trace-body, size-trace, written-append, written_row, length-written}
use Rattle.rules.specs.Rules.{Head, admit, span}
use Rattle.bodies.specs.Copy.{copy, Pastes, HoldsFrom}
use Rattle.bodies.specs.declared.Way.{Way}

module _ {A B : Type 0} (w : Way) (b : ℕ) (s : List ℕ) (at : ℕ) where
  -- one walk after the other, where the first goes on
  pub copy-bind : (v : Walk A) (k : A → Walk B) {a : A} {e : ℕ} → see w.from b s at v ≡ goes a e →
      copy w b s at (v >>= k) ≡ copy w b s at v ++ copy w b s e (k a)
  copy-bind v k {a} {e} h = ap (written w.keep w.to) (trace-bind w.from b s at v k h) ∙ written-append w.keep w.to (trace w.from b s at v)
      (trace w.from b s e (k a))

  pub copy-give : (v : Walk A) (f : A → B) → copy w b s at (v >>= λ a. give (f a)) ≡ copy w b s at v
  copy-give v f = ap (written w.keep w.to) (trace-give w.from b s at v f)

-- a head that is admitted is written already
pub copy-admit : {A : Type 0} (w : Way) (b : ℕ) (s : List ℕ) (at room most : ℕ) (fits serial : ℕ → Bool) (h : Head) (v : Walk A) →
    copy w b s at (admit room most fits serial h >> v) ≡ copy w b s at v
unfolding admit trace ◌>>=◌ ◌>>◌
copy-admit w b s at room most fits serial h v = written_row w.keep w.to 16 (span h) h.code h.serial (trace w.from b s at v)

module _ {A : Type 0} (w : Way) where
  -- a walk that went on and stays in a part is written the same there as in the whole
  pub copy-part : (b c a m : ℕ) (s : List ℕ) → c ≡ b + a → a + m ≤ length s → (v : Walk A) (at : ℕ) (Q : A → ℕ → Type 0) → c ≤ at → Stays (c + m) at v Q →
      {x : A} {e : ℕ} → see w.from b s at v ≡ goes x e →
      copy w c (take m (drop a s)) at v ≡ copy w b s at v
  copy-part b c a m s stands fits v at Q g h k = ap (written w.keep w.to) (trace-part w.from b c a m s stands fits v at Q g h k)

  -- the body of the record at p, handed on as the part up to q
  pub copy_body : (b p q : ℕ) (s : List ℕ) (v : Walk A) (Q : A → ℕ → Type 0) → p + 16 ≤ q → q ≤ length s → Stays (b + q) (b + p + 16) v Q → {x : A} {e : ℕ} →
      see w.from b s (b + (p + 16)) v ≡ goes x e →
      copy w (b + p + 16) (take (q - (p + 16)) (drop (p + 16) s)) (b + p + 16) v ≡ copy w b s (b + (p + 16)) v
  copy_body b p q s v Q f l h k = ap (written w.keep w.to) (trace-body w.from b p q s v Q f l h k)

  -- as many bytes as the walk reads
  pub length-copy : (b : ℕ) (s : List ℕ) (L : ℕ) → L ≤ b + length s → (v : Walk A) (at : ℕ) (Q : A → ℕ → Type 0) {x : A} {e : ℕ} → b ≤ at → Stays L at v Q →
      see w.from b s at v ≡ goes x e → at + length (copy w b s at v) ≡ e
  length-copy b s L fit v at Q g h k =
      let i = size-trace w.from b s L fit v at Q g h k in
      let j = length-written w.keep w.to (trace w.from b s at v) in
      omega (arith, i, j)

-- bytes pasted behind others
module _ (out out₁ out₂ : List ℕ) (k k₁ k₂ : ℕ) (xs ys : List ℕ) where
  pub holds-join : Pastes out out₁ k k₁ xs → HoldsFrom out₁ out₂ k₁ ys → HoldsFrom out out₂ k (xs ++ ys)
  holds-join f g h =
      let n : length (xs ++ ys) ≡ length xs + length ys = length-append xs ys in
      let p = f (omega (arith, n)) in
      let l : length out₁ ≡ length out = ap length p.1 ∙ length-pasted out k xs (omega (arith, n)) in
      let q = g (omega (arith, n, p.0)) in
      q ∙ rw (p.1, p.0) (pasted-pasted out k xs ys (omega (arith, n)))

  pub pastes-join : Pastes out out₁ k k₁ xs → Pastes out₁ out₂ k₁ k₂ ys → Pastes out out₂ k k₂ (xs ++ ys)
  pastes-join f g h =
      let n : length (xs ++ ys) ≡ length xs + length ys = length-append xs ys in
      let p = f (omega (arith, n)) in
      let l : length out₁ ≡ length out = ap length p.1 ∙ length-pasted out k xs (omega (arith, n)) in
      let q = g (omega (arith, n, p.0)) in
      (omega (arith, n, p.0, q.0), q.1 ∙ rw (p.1, p.0) (pasted-pasted out k xs ys (omega (arith, n))))

pub pastes-nothing : (out : List ℕ) (k : ℕ) → Pastes out out k k []
pastes-nothing out k h = (omega arith, sym (pasted-nothing out k))

-- a part of the buffer that a call wrote whole
pub pastes-whole : (out ys xs : List ℕ) (k e : ℕ) → ys ≡ xs → e ≡ k + length xs → Pastes out (take k out ++ (ys ++ drop (e - k) (drop k out))) k e xs
pastes-whole out ys xs k e same ends h = (ends, rw same (part-pasted out xs k (e - k) (omega arith)))

-- bytes that have no room
pub pastes-full : (out out' : List ℕ) (k k' : ℕ) (xs : List ℕ) → length out - k < length xs → Pastes out out' k k' xs
pastes-full out out' k k' xs full h = absurd (omega (arith, full, h))
