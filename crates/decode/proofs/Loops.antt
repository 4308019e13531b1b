-- A loop that decodes words front to back: once over the width, the order, and what a word means.
-- Assumes nothing.
use mathlib.Core.Path.{◌≡◌, refl, sym, ap, ◌∙◌}
use mathlib.Core.List.{List}
use Prim.Native.Nat.{ℕ, ◌+◌, ◌*◌, ◌≤◌, ◌<◌, zero-le}
use native.Mathlib.Nat.{zero-mul, add-mul, mul-le-mul_right}
use native.Mathlib.Omega.{arith}
use borrow.Author.Count.{below_more}
use lib.ListN.{length, get_or, set, length-set}
use lib.Seq.{get_or-set_same, get_or-set_other}
use Rattle.words.specs.Numbers.{number_at}
use Rattle.words.specs.declared.Order.{Order}
use Rattle.decode.specs.Decoded.{Decoded}

-- of as many words as there is room for, each stands in s
pub inside : {A : Type 0} (w : ℕ) (s : List ℕ) (d : List A) → length s ≡ length d * w → (q : ℕ) → q < length d → q * w + w ≤ length s
inside w s d source q h =
    let more : q + 1 ≤ length d = omega arith in
    omega (arith, mul-le-mul_right w more, add-mul q 1 w)

-- the first i words of s are decoded, and stand in front in d
pub record Decoding {A : Type 0} (none : A) (means : ℕ → A) (o : Order) (w : ℕ) (s : List ℕ) (d₀ d : List A) (i at : ℕ) : Type 0 where
  pub source : length s ≡ length d₀ * w
  pub long : length d ≡ length d₀
  pub place : at ≡ i * w
  pub within : i ≤ length d₀
  pub each : (q : ℕ) → q < i → get_or d q none ≡ means (number_at o w s (q * w))

module _ {A : Type 0} {none : A} {means : ℕ → A} {o : Order} {w : ℕ} {s : List ℕ} {d₀ : List A} where
  pub decoding-none : length s ≡ length d₀ * w → Decoding none means o w s d₀ d₀ 0 0
  decoding-none h = record { source = h; long = refl; place = sym (zero-mul w); within = zero-le; each = λ q l. absurd (omega arith) }

  module _ {d : List A} {i at : ℕ} (t : Decoding none means o w s d₀ d i at) where
    -- there is one more word
    pub decoding-room : i < length d → at + w ≤ length s
    decoding-room l =
        let h : i < length d₀ = omega (arith, t.long) in
        omega (arith, inside w s d₀ t.source i h, t.place)

    -- the next word, stored
    pub decoding-more : (v : A) (e : ℕ) → i < length d → e ≡ at + w → v ≡ means (number_at o w s at) → Decoding none means o w s d₀ (set d i v) (i + 1) e
    decoding-more v e l he hv = record {
      source = t.source;
      long = length-set d i v ∙ t.long;
      place = omega (arith, add-mul i 1 w, t.place);
      within = omega (arith, t.long);
      each = below_more (λ (q : ℕ). get_or (set d i v) q none ≡ means (number_at o w s (q * w))) i before here;
    }
      where
        before : (q : ℕ) → q < i → get_or (set d i v) q none ≡ means (number_at o w s (q * w))
        before q h = get_or-set_other d i q v none (λ x. absurd (omega arith)) ∙ t.each q h

        here : get_or (set d i v) i none ≡ means (number_at o w s (i * w))
        here = get_or-set_same d i v none l ∙ (hv ∙ ap (λ (p : ℕ). means (number_at o w s p)) t.place)

    pub decoding-all : length d ≤ i → Decoded none means o w s d₀ d
    decoding-all l = record { long = t.long; each = λ q h. t.each q (omega (arith, t.long)) }
