-- A number that is turned, and words of eight bytes as the library reads and writes them.
-- Assumes nothing.
use mathlib.Core.Path.{◌≡◌, sym, ap, ◌∙◌}
use mathlib.Core.List.{List, [], reverse, append-nil}
use Prim.Native.Nat.{ℕ, ◌*◌, ◌≤◌}
use native.Mathlib.Nat.{div-div-eq-div-mul}
use native.Mathlib.Omega.{arith}
use lib.ListN.{length, take}
use lib.Seq.{take_all, length-take-le}
use Rattle.std.specs.Int.{w64, from_le_bytes, to_le_bytes}
use Rattle.words.specs.Numbers.{other, word, word_in, bytes_of, bytes_in, number_at, Bytes}
use Rattle.words.specs.Runs.{turned}
use Rattle.words.specs.declared.Order.TheVariants.{Little, Big}
use Rattle.words.proofs.Words.{bytes_take, bytes_in-word_in}
use Rattle.words.proofs.Runs.{bytes_in-other}
use Rattle.words.proofs.Fours.{written_out}
use Rattle.words.proofs.Fronts.{Begun}

-- a number that is read in one order and written in the other is turned
pub one-turned : (w : ℕ) (s : List ℕ) → length s ≡ 1 * w → Bytes s → bytes_in Big w (number_at Little w s 0) ≡ turned w 1 s
unfolding number_at turned other
one-turned w s h b =
    let t = take w s in
    let l : length t ≡ w = length-take-le w s (omega arith) in
    let e : bytes_in Little w (word_in Little t) ≡ t =
    ap (λ (n : ℕ). bytes_in Little n (word_in Little t)) (sym l) ∙ bytes_in-word_in Little t (bytes_take w s b) in
    bytes_in-other Little w (word_in Little t) ∙ (ap reverse e ∙ sym (append-nil (reverse t)))

-- the library's reading of eight bytes, and its way to write them
pub eight-read : (s : List ℕ) → length s ≡ 8 → from_le_bytes w64 s ≡ word s
unfolding word
eight-read s h = written_out 8 s (λ (t : List ℕ). from_le_bytes w64 t ≡ word t) h (omega arith)

pub eight-written : (n : ℕ) → to_le_bytes w64 n ≡ bytes_of 8 n
unfolding bytes_of
eight-written n = simp div-div-eq-div-mul

-- where nothing is left, all is written
pub begun_all : {m : ℕ} {all d : List ℕ} {n : ℕ} → Begun m all d n [] → m ≤ n → d ≡ all
begun_all {d = d} {n} b h = sym (b.is ∙ (append-nil (take n d) ∙ take_all n d (omega (arith, b.long))))
