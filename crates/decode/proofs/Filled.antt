-- Bytes cut into places of one width, and a buffer whose numbers are those of the places: it is decoded, by the law of a decoding loop.
-- Assumes nothing.
use mathlib.Core.Path.{◌≡◌, refl, ap, ◌∙◌}
use mathlib.Core.List.{List, []}
use Prim.Native.Nat.{ℕ, zero, suc, ◌*◌, ◌≤◌, ◌<◌}
use native.Mathlib.Nat.{zero-mul, suc-mul, add_comm}
use native.Mathlib.Omega.{arith}
use lib.ListN.{length, get_or, take, drop, length-drop}
use lib.Seq.{drop-drop, length-take-le}
use Rattle.std.specs.Simd.{first_chunks}
use Rattle.words.specs.Numbers.{word_in, number_at}
use Rattle.words.specs.declared.Order.{Order}
use Rattle.decode.specs.Decoded.{Decoded}
use Rattle.decode.proofs.Loops.{Decoding, decoding-all, inside}

place-at : (w n : ℕ) (s : List ℕ) (q : ℕ) → q < n → get_or (first_chunks w n s) q [] ≡ take w (drop (q * w) s)
place-at w zero s q h = absurd (omega arith)
place-at w (suc n) s zero h = rw zero-mul
place-at w (suc n) s (suc q) h = place-at w n (drop w s) q (omega arith) ∙ (rw (drop-drop, suc-mul) (ap (λ (k : ℕ). take w (drop k s)) (add_comm w (q * w))))

module _ {A : Type 0} {none : A} {means : ℕ → A} {o : Order} {w : ℕ} {s : List ℕ} {d d' : List A} where
  pub decoded :
      {n : ℕ} {places : List (List ℕ)} →
      length s ≡ length d * w → n ≡ length d → places ≡ first_chunks w n s → length d' ≡ length d →
      ((q : ℕ) → q < length d → length (get_or places q []) ≡ w → get_or d' q none ≡ means (word_in o (get_or places q []))) →
      Decoded none means o w s d d'
  unfolding number_at
  decoded {n} {places} source all cut long each =
      let t : Decoding none means o w s d d' (length d) (length d * w) =
      record { source = source; long = long; place = refl; within = omega arith; each = one } in
      decoding-all t (omega arith)
    where
      one : (q : ℕ) → q < length d → get_or d' q none ≡ means (word_in o (take w (drop (q * w) s)))
      one q h =
          let is : get_or places q [] ≡ take w (drop (q * w) s) = ap (λ (l : List (List ℕ)). get_or l q []) cut ∙ place-at w n s q (omega arith) in
          let room : w ≤ length (drop (q * w) s) = rw length-drop (omega (arith, inside w s d source q h)) in
          each q h (ap length is ∙ length-take-le w (drop (q * w) s) room) ∙ ap (λ (l : List ℕ). means (word_in o l)) is
