-- The answer of a run, and what the buffer holds: what was decoded of the run's bytes is its samples, once over the two calls; and one answer and one
-- buffer.
-- Assumes nothing.
use Rattle.recordings.proofs.Answers.{meaning-one}
use Rattle.std.proofs.Common.{Result, Ok, Err}
use Rattle.rules.specs.declared.Refusal.{Refusal}
use Rattle.rules.specs.Reasons.{number_of, refusal_of}
use Rattle.rules.proofs.Reasons.{refusal-is}
use mathlib.Core.Path.{◌≡◌, refl, sym, ap, ◌∙◌}
use mathlib.Core.Bool.{Bool, true, false}
use mathlib.Core.List.{List, ◌++◌, map}
use Prim.Native.Nat.{ℕ, ◌+◌, ◌*◌, ◌≤◌, ◌<◌}
use native.Mathlib.Nat.{mul-add, mul_comm, mul-le-mul_left}
use native.Mathlib.Omega.{arith}
use borrow.Author.Tests.{le-leb, eqb-true}
use lib.Dec.{eqb, leb}
use lib.ListN.{length, get_or, take, drop, length-map, get_or-map}
use lib.Seq.{ext_get_or, length-take-le}
use Rattle.words.specs.Numbers.{number_at}
use Rattle.words.specs.Values.{signed}
use Rattle.words.specs.declared.Order.{Order}
use Rattle.walk.specs.Walk.{pick}
use Rattle.walk.proofs.Apart.{false-true}
use Rattle.walk.proofs.Unique.{one}
use Rattle.rules.specs.Reading.{Value, value_of}
use Rattle.rules.specs.Rules as R
use Rattle.recordings.specs.Answers.{Answer, value, refusal}
use Rattle.recordings.proofs.Chosen.{refusal-value}
use Rattle.samples.specs.Placed.{bytes_of, values_of}
use Rattle.samples.specs.declared.Cut.{Cut}
use Rattle.samples.specs.declared.Place.{Place}
use Rattle.samples.proofs.Placing.{part-inside, bytes-many, values-many, values-each}
use Rattle.decode.specs.Decoded.{Decoded, itself}
use Rattle.runs.specs.Found.{FoundIn}
use Rattle.runs.specs.Runs.{serves, Element, element_of, run_of, counted, holding, answer_of, RunAnswer}
use Rattle.runs.specs.declared.Sibling.{Sibling}

-- what each call makes of a word of w bytes
abbrev pub means : (b : Sibling) → ℕ → ℕ → Element b
means Sibling.Whole w = signed w
means Sibling.Floats w = itself

-- a word of a format that the call serves is written as what it means
written : (b : Sibling) (format w n : ℕ) → serves b format ≡ true → element_of b (value_of format w n) ≡ means b w n
unfolding value_of
written Sibling.Whole format w n h = go (eqb format 4) refl
  where
    go : (c : Bool) → eqb format 4 ≡ c → element_of Sibling.Whole (value_of format w n) ≡ signed w n
    go true e = false-true (rw e at h)
    go false e = rw e
written Sibling.Floats format w n h = rw h

-- a run that is refused leaves the buffer as it was
pub runs-refused : (b : Sibling) (s : List ℕ) (i j k first n : ℕ) (out : List (Element b)) (r : Refusal) →
    answer_of b s i j k first n (length out) ≡ refusal (number_of r.0) r.1 → RunAnswer b s i j k first n out out (Err r)
runs-refused b s i j k first n out r h = record { answer = sym h; buffer = go (run_of b s i j k first n) h }
  where
    go : (x : Answer (List Value)) → counted n (length out) x ≡ refusal (number_of r.0) r.1 → out ≡ holding b n x out
    go (refusal u q) h = refl
    go (value vs) h = room_for (leb n (length out)) h
      where
        room_for : (c : Bool) → pick c (value n) (refusal 17 n) ≡ refusal (number_of r.0) r.1 → out ≡ pick c (map (element_of b) vs ++ drop n out) out
        room_for true h = refusal-value (sym h)
        room_for false h = refl

-- what was decoded of its bytes
module _ {b : Sibling} {s : List ℕ} {i j k first n space : ℕ} {o : Order} {format : ℕ} {p : Place} (f : FoundIn b s i j k first n space o format p) where
  abbrev w : ℕ
  w = R.width format

  abbrev values : List Value
  values = values_of s format p

  many : p.count ≡ n
  many = ap (λ (q : Place). q.count) f.place

  wide : p.width ≡ w
  wide = ap (λ (q : Place). q.width) f.place ∙ f.wide

  -- each sample is what its word means
  each : (v : Value) (q : ℕ) → q < n → element_of b (get_or values q v) ≡ means b w (number_at o w (bytes_of s p) (q * w))
  each v q l =
      let here : 0 + w * q ≡ q * w = omega (arith, mul_comm w q) in
      ap (element_of b) (values-each (R.order_of s) format (bytes_of s p) p.count 0 q v (omega (arith, many)))
      ∙ (written b format w _ f.served ∙ rw f.order (ap (λ (z : ℕ). means b w (number_at (R.order_of s) w (bytes_of s p) z)) here))

  long : length values ≡ n
  long = values-many (R.order_of s) format (bytes_of s p) p.count 0 ∙ many

  decoded : (v : Value) (d d' : List (Element b)) → length d ≡ n → Decoded (element_of b v) (means b w) o w (bytes_of s p) d d' → d' ≡ map (element_of b) values
  decoded v d d' size g =
      ext_get_or (element_of b v) d' (map (element_of b) values) (g.long ∙ (size ∙ sym (length-map values (element_of b) ∙ long)))
      (λ q l. g.each q (omega (arith, g.long)) ∙ (sym (each v q (omega (arith, g.long, size))) ∙ sym (get_or-map (element_of b) values q v)))

  run_is : run_of b s i j k first n ≡ value values
  run_is = rw (f.placed, f.described, f.served, le-leb (first + n) f.all.count f.inside.inside, f.place)

  -- the bytes that the code cut, and the width v that it has
  module _ (out : List (Element b)) (room : length out ≡ space) (bytes : List ℕ) (cut : bytes ≡ bytes_of s p) (v : ℕ) (is : v ≡ w) where
    first-long : length (take n out) ≡ n
    first-long = length-take-le n out (omega (arith, f.room))

    pub bytes-long : length bytes ≡ length (take n out) * v
    bytes-long =
        let inside : p.position + p.width * p.count ≤ length s =
        rw f.place (omega (arith, f.inside.file, mul-le-mul_left f.all.width f.inside.inside, mul-add f.all.width first n)) in
        let l : length bytes ≡ w * n = ap length cut ∙ (bytes-many s p ∙ (ap (λ (q : Cut). q.length) (part-inside (length s) p inside) ∙ rw (wide, many))) in
        l ∙ rw (first-long, is) (mul_comm w n)

    pub runs-told : (x : Value) (d' : List (Element b)) → Decoded (element_of b x) (means b v) o v bytes (take n out) d' →
        RunAnswer b s i j k first n out (d' ++ drop n out) (Ok n)
    runs-told x d' g =
        let r = le-leb n (length out) (omega (arith, f.room)) in
        record {
          answer = rw (run_is, r);
          buffer =
              rw (run_is, r) (ap (λ (z : List (Element b)). z ++ drop n out) (decoded x (take n out) d' first-long (rw (is, cut) at g)));
        }

-- floats have four bytes
pub floats-wide : (format : ℕ) → serves Sibling.Floats format ≡ true → 4 ≡ R.width format
unfolding R.width
floats-wide format h = rw (eqb-true format 4 h)

-- one answer and one buffer for every file, run and buffer
pub run-unique : (b : Sibling) (s : List ℕ) (i j k first n : ℕ) (out out₁ out₂ : List (Element b)) (a c : Result ℕ Refusal) →
    RunAnswer b s i j k first n out out₁ a → RunAnswer b s i j k first n out out₂ c → (a ≡ c) × (out₁ ≡ out₂)
run-unique b s i j k first n out out₁ out₂ a c x y = (meaning-one a c x.answer y.answer, x.buffer ∙ sym y.buffer)
