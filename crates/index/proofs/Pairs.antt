-- Samples compared as pairs of bytes, eight at a time.
-- Assumes nothing.
use mathlib.Core.Path.{◌≡◌, refl, sym, ap, ◌∙◌}
use mathlib.Core.Bool.{Bool, true, false}
use mathlib.Core.List.{List, [], ◌∷◌}
use Prim.Native.Nat.{ℕ, zero, suc, ◌+◌, ◌-◌, ◌*◌, ◌/◌, ◌%◌, ◌≤◌, ◌<◌}
use native.Mathlib.Omega.{arith}
use borrow.Author.Tests.{ltb-true, ltb-false}
use lib.Dec.{ltb}
use lib.ListN.{length, take, drop, get_or, length-drop}
use lib.Seq.{drop-drop, length-take-le}
use Rattle.std.specs.Simd.{first_chunks}
use Rattle.std.specs.List.{AllWithin, HoldsAt}
use Rattle.std.specs.Option.{MatchOption, unwrap_or}
use Rattle.std.specs.Prelude as Std
use Rattle.std.specs.Prelude.{Some, None}
use Rattle.words.specs.Numbers.{Bytes, word, number_at}
use Rattle.words.specs.Joins.{join}
use Rattle.words.specs.declared.Order.{Order}
use Rattle.words.specs.declared.Order.TheVariants.{Little, Big}
use Rattle.words.proofs.Joins.{number-1, number_step}
use Rattle.words.proofs.Words.{bytes_take, bytes_drop}
use Rattle.walk.proofs.Seen.{part-number}
use Rattle.words.proofs.Fours.{written_out}
use Rattle.index.specs.Listing.{pair_of, samples_of, EightOf, Same}

-- a byte of a list of bytes
pub byte_small : (s : List ℕ) → Bytes s → (i : ℕ) → get_or s i 0 < 256
byte_small [] b i = omega arith
byte_small (x ∷ s) b zero = b.0
byte_small (x ∷ s) b (suc i) = byte_small s b.1 i

-- a number of two bytes
two : (o : Order) (s : List ℕ) (at : ℕ) → at + 2 ≤ length s → number_at o 2 s at ≡ join o 256 (get_or s at 0) (get_or s (at + 1) 0)
two o s at h = number_step o 1 s at h ∙ rw (number-1 o s (at + 1) (omega arith))

-- the code of a pair of bytes, and the pair of a code
module _ (s : List ℕ) (b : Bytes s) (at code : ℕ) (h : at + 2 ≤ length s) (small : code < 65536) where
  pub pair_code : (o : Order) → number_at Little 2 s at ≡ pair_of o code → number_at o 2 s at ≡ code
  unfolding pair_of
  pair_code Little e = e
  pair_code Big e =
      let x = byte_small s b at in
      let y = byte_small s b (at + 1) in
      rw (two Big s at h) (omega (arith, x, y, rw (two Little s at h) at e))

-- a pair in front, and what is behind it
step : (x y p z : ℕ) → x < 65536 → p < 65536 → x + 65536 * y ≡ p + 65536 * z → (x ≡ p) × (y ≡ z)
step x y p z h k e = (omega arith, omega arith)

-- four pairs are one pair four times
four : (x₀ x₁ x₂ x₃ p : ℕ) → x₀ < 65536 → x₁ < 65536 → x₂ < 65536 → p < 65536 →
    x₀ + 65536 * (x₁ + 65536 * (x₂ + 65536 * x₃)) ≡ p + 65536 * (p + 65536 * (p + 65536 * p)) → (x₀ ≡ p) × (x₁ ≡ p) × (x₂ ≡ p) × (x₃ ≡ p)
four x₀ x₁ x₂ x₃ p h₀ h₁ h₂ k e =
    let a = step x₀ _ p _ h₀ k e in
    let b = step x₁ _ p _ h₁ k a.1 in
    let c = step x₂ x₃ p p h₂ k b.1 in
    (a.0, b.0, c.0, c.1)

-- of eight bytes, as pairs
pairs : (s : List ℕ) → length s ≡ 8 →
    word s ≡ get_or s 0 0 + get_or s 1 0 * 256 + 65536 *
    (get_or s 2 0 + get_or s 3 0 * 256 + 65536 * (get_or s 4 0 + get_or s 5 0 * 256 + 65536 * (get_or s 6 0 + get_or s 7 0 * 256)))
unfolding word
pairs s h =
    written_out 8 s (λ (t : List ℕ). word t ≡ get_or t 0 0 + get_or t 1 0 * 256 + 65536 *
    (get_or t 2 0 + get_or t 3 0 * 256 + 65536 * (get_or t 4 0 + get_or t 5 0 * 256 + 65536 * (get_or t 6 0 + get_or t 7 0 * 256)))) h (omega arith)

-- where their word is the pair four times, each of them is the pair
pub four_same : (s : List ℕ) → Bytes s → length s ≡ 8 → (p : ℕ) → p < 65536 → word s ≡ p * 281479271743489 → (q : ℕ) → q < 4 → number_at Little 2 s (2 * q) ≡ p
four_same s b h p k e q l =
    let z = four (get_or s 0 0 + get_or s 1 0 * 256) (get_or s 2 0 + get_or s 3 0 * 256) (get_or s 4 0 + get_or s 5 0 * 256)
    (get_or s 6 0 + get_or s 7 0 * 256) p (pair 0) (pair 2) (pair 4) k (sym (pairs s h) ∙ e ∙ omega arith) in
    go q l z
  where
    pair : (i : ℕ) → get_or s i 0 + get_or s (i + 1) 0 * 256 < 65536
    pair i = let x = byte_small s b i in let y = byte_small s b (i + 1) in omega arith

    go : (q : ℕ) → q < 4 →
        (get_or s 0 0 + get_or s 1 0 * 256 ≡ p) × (get_or s 2 0 + get_or s 3 0 * 256 ≡ p) × (get_or s 4 0 + get_or s 5 0 * 256 ≡ p) ×
        (get_or s 6 0 + get_or s 7 0 * 256 ≡ p) → number_at Little 2 s (2 * q) ≡ p
    go zero l z = two Little s 0 (omega arith) ∙ z.0
    go (suc zero) l z = two Little s 2 (omega arith) ∙ z.1
    go (suc (suc zero)) l z = two Little s 4 (omega arith) ∙ z.2
    go (suc (suc (suc zero))) l z = two Little s 6 (omega arith) ∙ z.3
    go (suc (suc (suc (suc q)))) l z = absurd (omega arith)

-- of eight samples, where both words are the pair four times
pub eight-same : (s : List ℕ) → Bytes s → length s ≡ 16 → (p : ℕ) → p < 65536 → word (take 8 (drop 0 s)) ≡ p * 281479271743489 →
    word (take 8 (drop 8 s)) ≡ p * 281479271743489 → (q : ℕ) → q < 8 → number_at Little 2 s (2 * q) ≡ p
eight-same s b h p k e₁ e₂ q l = go (ltb q 4) refl
  where
    half : (a r : ℕ) → a + 8 ≤ 16 → word (take 8 (drop a s)) ≡ p * 281479271743489 → r < 4 → number_at Little 2 s (a + 2 * r) ≡ p
    half a r i e m = sym (part-number Little s a 8 2 (2 * r) (omega arith)) ∙
        four_same (take 8 (drop a s)) (bytes_take 8 (drop a s) (bytes_drop a s b)) (length-take-le 8 (drop a s) (rw length-drop (omega arith))) p k e r m

    go : (x : Bool) → ltb q 4 ≡ x → number_at Little 2 s (2 * q) ≡ p
    go true t = ap (number_at Little 2 s) (omega arith) ∙ half 0 q (omega arith) e₁ (ltb-true q 4 t)
    go false t = let j = ltb-false q 4 t in ap (number_at Little 2 s) (omega arith) ∙ half 8 (q - 4) (omega arith) e₂ (omega arith)

-- where eights of samples are cut from those from p on, each is where it stands
cut-at : (n k : ℕ) (t : List ℕ) → k < n → get_or (first_chunks 16 n t) k [] ≡ take 16 (drop (16 * k) t)
cut-at zero k t h = absurd (omega arith)
cut-at (suc n) zero t h = refl
cut-at (suc n) (suc k) t h =
    let e : 16 + 16 * k ≡ 16 * suc k = omega arith in
    cut-at n k (drop 16 t) (omega arith) ∙ rw (drop-drop, e)

-- eights of the samples from p on, up to the first that is not all the pair
module _ {s t : List ℕ} {p n pair : ℕ} {eights : List (List ℕ)} (rest : t ≡ drop (2 * p) s) (inside : p ≤ samples_of s) (room : 16 * n ≤ length t)
    (cut : eights ≡ first_chunks 16 n t) where
  up_to : (m : ℕ) → m ≤ n → AllWithin (EightOf pair) eights 0 m → Same Little s p pair (p + 8 * m)
  up_to m l h = record { on = omega arith; inside = omega (arith, long); all = one }
    where
      long : length t ≡ length s - 2 * p
      long = ap length rest ∙ rw length-drop refl

      one : (q : ℕ) → p ≤ q → q < p + 8 * m → number_at Little 2 s (2 * q) ≡ pair
      one q u v =
          let k : ℕ = (q - p) / 8 in
          let j : ℕ = (q - p) % 8 in
          let is : get_or eights k [] ≡ take 16 (drop (2 * p + 16 * k) s) =
          ap (λ (l : List (List ℕ)). get_or l k []) cut ∙ cut-at n k t (omega arith) ∙ rw (rest, drop-drop) in
          let at : 2 * p + 16 * k + 2 * j ≡ 2 * q = omega arith in
          let here : number_at Little 2 (take 16 (drop (2 * p + 16 * k) s)) (2 * j) ≡ pair = rw is at (h k [] (omega arith) (omega arith) j (omega arith)) in
          ap (number_at Little 2 s) (sym at) ∙ sym (part-number Little s (2 * p + 16 * k) 16 2 (2 * j) (omega arith)) ∙ here

  pub eights-same : (Yes : List ℕ → Type 0) (r : Std.Option ℕ) → length eights ≡ n →
      MatchOption r (AllWithin (EightOf pair) eights 0 (length eights))
      (λ i. (i < length eights) × HoldsAt Yes eights i × AllWithin (EightOf pair) eights 0 i) →
      Same Little s p pair (p + 8 * unwrap_or r (length eights))
  eights-same Yes None l h = up_to (length eights) (omega arith) h
  eights-same Yes (Some i) l h = up_to i (omega (arith, h.0)) h.2

-- pairs are codes
pub same_code : {o : Order} {s : List ℕ} {p code r : ℕ} → Bytes s → length s ≡ 2 * samples_of s → code < 65536 → Same Little s p (pair_of o code) r →
    Same o s p code r
same_code {o} {s} {code = code} b long small t =
    record { on = t.on; inside = t.inside; all = λ q u v. pair_code s b (2 * q) code (omega (arith, t.inside)) small o (t.all q u v) }
