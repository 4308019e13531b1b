-- The samples of one channel in a frame: what each means, by the width of its format, and where they stand: behind those of the channels before it, and among the frame's.
-- Assumes nothing.
use mathlib.Core.Path.{◌≡◌, sym, subst}
use mathlib.Core.Bool.{Bool, true, false}
use mathlib.Core.List.{List, [], ◌∷◌}
use Prim.Native.Nat.{ℕ, zero, suc, ◌+◌, ◌*◌, ◌≤◌, ◌<◌}
use native.Mathlib.Nat.{add-zero, mul_comm}
use native.Mathlib.Omega.{arith}
use borrow.Author.Tests.{ne_eqb}
use lib.Dec.{eqb}
use lib.ListN.{length, take}
use lib.Seq.{length-take-le}
use Rattle.words.specs.declared.Order.{Order}
use Rattle.words.specs.Numbers.{number_at}
use Rattle.words.specs.Values.{signed}
use Rattle.walk.specs.Walk.{pick}
use Rattle.rules.specs.Rules as R
use Rattle.rules.specs.Reading.{value_of}
use Rattle.rules.specs.Rules.{sample_bytes, samples_in, samples_of, width}
use Rattle.records.specs.Says.{KeptOne, Kept}
use Rattle.recordings.specs.Answers.{value, indexed}
use Rattle.recordings.proofs.Chosen.{refusal-value}
use Rattle.samples.specs.Asked.{RunInside, run_of, RunAt}
use Rattle.samples.specs.Frames.{float_in, number_in}
use Rattle.samples.specs.declared.Number.{Number}
use Rattle.samples.specs.declared.Run.{Run}

-- the width of a format, and the value of the sample that stands at byte p
pub width-2 : (format : ℕ) → format ≡ 1 → width format ≡ 2
unfolding width
width-2 format e = rw e

pub width-3 : (format : ℕ) → format ≡ 2 → width format ≡ 3
unfolding width
width-3 format e = rw e

pub width-4 : (format : ℕ) → (format ≡ 1 → ⊥) → (format ≡ 2 → ⊥) → width format ≡ 4
unfolding width
width-4 format h k = rw (ne_eqb format 1 h, ne_eqb format 2 k)

-- a sample has a byte
pub width-least : (format : ℕ) → 1 ≤ width format
unfolding width
width-least format = go (eqb format 1) (eqb format 2)
  where
    go : (a b : Bool) → 1 ≤ pick a 2 (pick b 3 4)
    go true b = omega arith
    go false true = omega arith
    go false false = omega arith

module _ (o : Order) (s : List ℕ) (p format : ℕ) where
  abbrev sample_at : Number
  sample_at = number_in (value_of format (width format) (number_at o (width format) s p))

  pub whole_in : (w : ℕ) → width format ≡ w → (format ≡ 4 → ⊥) → sample_at ≡ Number.Whole (signed w (number_at o w s p))
  unfolding value_of
  whole_in w e h = rw (ne_eqb format 4 h, e)

  pub float-in : format ≡ 4 → sample_at ≡ float_in (number_at o 4 s p)
  unfolding value_of width
  float-in e = rw e

-- one of a list is inside it
pub indexed-within : {A : Type 0} (l : List A) (n : ℕ) {x : A} → indexed l n ≡ value x → n < length l
unfolding indexed
indexed-within [] n h = refusal-value h
indexed-within (a ∷ l) zero h = omega arith
indexed-within (a ∷ l) (suc n) h = omega (arith, indexed-within l n h)

module _ (o : Order) (s : List ℕ) where
  pub kept-take : (p n : ℕ) (cs : List R.Channel) → Kept o s p cs → Kept o s p (take n cs)
  kept-take p zero cs k = tt
  kept-take p (suc n) [] k = tt
  kept-take p (suc n) (c ∷ cs) k = (k.0, kept-take (p + 256) n cs k.1)

  pub kept-indexed : (p n : ℕ) (cs : List R.Channel) {x : R.Channel} → Kept o s p cs → indexed cs n ≡ value x → KeptOne o s (p + 256 * n) x
  unfolding indexed
  kept-indexed p n [] k h = refusal-value h
  kept-indexed p zero (c ∷ cs) {x} k h =
      let d : x ≡ c = cc in
      rw (d, add-zero p) k.0
  kept-indexed p (suc n) (c ∷ cs) k h =
      let d : p + 256 * suc n ≡ p + 256 + 256 * n = omega arith in
      rw d (kept-indexed (p + 256) n cs k.1 h)

-- the samples of the channels before it, and its own, are among those of all
pub bytes-before : (t n : ℕ) (cs : List R.Channel) {x : R.Channel} → indexed cs n ≡ value x → sample_bytes t (take n cs) + width x.format * samples_in t x ≤ sample_bytes t cs
unfolding indexed sample_bytes
bytes-before t n [] h = refusal-value h
bytes-before t zero (c ∷ cs) {x} h =
    let d : x ≡ c = cc in
    rw (d, mul_comm (width c.format) (samples_in t c)) (omega arith)
bytes-before t (suc n) (c ∷ cs) h = let r = bytes-before t n cs h in omega arith

pub run_inside : (t n at L : ℕ) (cs : List R.Channel) {x : R.Channel} → indexed cs n ≡ value x → at + (24 + sample_bytes t cs) ≤ L → RunInside L (run_of t (take n cs) x at)
run_inside t n at L cs h l = omega (arith, bytes-before t n cs h)

-- the code sums the bytes before, and reads the channel's record
module _ (o : Order) (s : List ℕ) (subs n t at before flags format rate count w : ℕ) (sums : (cs : List R.Channel) → length cs ≡ n → Kept o s subs cs → before ≡ sample_bytes t cs) (e₁ : flags ≡ number_at o 4 s (subs + 256 * n + 20)) (e₂ : format ≡ number_at o 4 s (subs + 256 * n + 28)) (e₃ : rate ≡ number_at o 4 s (subs + 256 * n + 32)) (e₄ : count ≡ samples_of t flags rate) (e₅ : w ≡ width format) where
  abbrev ran : ℕ → ℕ → Run
  ran p m = record { format = format; place = record { position = p; width = w; count = m } }

  run-same : (cs : List R.Channel) (x : R.Channel) → Kept o s subs cs → indexed cs n ≡ value x → ran (at + 24 + before) count ≡ run_of t (take n cs) x at
  run-same cs x kept is =
      let k = kept-indexed o s subs n cs kept is in
      let b : before ≡ sample_bytes t (take n cs) = sums (take n cs) (length-take-le n cs (omega (arith, indexed-within cs n is))) (kept-take o s subs n cs kept) in
      let a : at + 24 + before ≡ at + (24 + sample_bytes t (take n cs)) = omega arith in
      cc

  pub run-found : at + 24 + before + w * count ≤ length s → RunAt o s subs n t at (ran (at + 24 + before) count)
  run-found l = record { inside = l; same = λ cs x k i _. run-same cs x k i }

  pub run-outside : at ≤ length s → length s < at + 24 + before + w * count → RunAt o s subs n t at (ran at 0)
  run-outside l g = record {
    inside = omega arith;
    same = λ cs x k i f.
        let h : at + 24 + before + w * count ≤ length s = subst (λ (r : Run). RunInside (length s) r) (sym (run-same cs x k i)) f in
        absurd (omega arith);
  }
