-- Bytes written front to back: a part of a buffer that a call wrote, and a whole that is written piece by piece.
-- Assumes nothing.
use mathlib.Core.Path.{◌≡◌, refl, sym, ap, ◌∙◌}
use mathlib.Core.List.{List, [], ◌∷◌, ◌++◌, append_assoc, append-nil}
use Prim.Native.Nat.{ℕ, ◌+◌, ◌-◌, ◌≤◌, ◌<◌}
use native.Mathlib.Omega.{arith}
use lib.ListN.{length, take, drop, set, length-append, length-drop}
use lib.Seq.{take_all, take_at, length-take-le}
use Rattle.words.proofs.Runs.{part-pasted, set-pasted}

-- a buffer with ys in the place of its m bytes from n on
abbrev pub put : ℕ → ℕ → List ℕ → List ℕ → List ℕ
put n m d ys = take n d ++ (ys ++ drop m (drop n d))

module _ (d ys : List ℕ) (n m : ℕ) (fits : n + m ≤ length d) where
  length-put : length (put n m d ys) ≡ n + (length ys + (length d - n - m))
  length-put =
      let i : length (put n m d ys) ≡ length (take n d) + length (ys ++ drop m (drop n d)) = length-append (take n d) (ys ++ drop m (drop n d)) in
      omega (arith, i, length-append ys (drop m (drop n d)), length-drop m (drop n d), length-drop n d, length-take-le n d (omega arith))

  -- its first bytes, up to where ys end
  take_put : length ys ≡ m → take (n + m) (put n m d ys) ≡ take n d ++ ys
  take_put h =
      rw (← append_assoc) (take_at (take n d ++ ys) (drop m (drop n d)) (n + m) (length-append (take n d) ys ∙ omega (arith, length-take-le n d (omega arith))))

-- a call that left the buffer's length wrote as many bytes as the part has
pub front-more : (d ys xs : List ℕ) (n m : ℕ) → n + m ≤ length d → length (put n m d ys) ≡ length d → take n d ≡ xs → take (n + m) (put n m d ys) ≡ xs ++ ys
front-more d ys xs n m f l e = rw (← e) (take_put d ys n m f (omega (arith, length-put d ys n m f)))

-- a part up to the buffer's end
pub front-all : (d ys xs : List ℕ) (n m : ℕ) → n + m ≡ length d → length (put n m d ys) ≡ length d → take n d ≡ xs → put n m d ys ≡ xs ++ ys
front-all d ys xs n m f l e = sym (take_all (n + m) (put n m d ys) (omega arith)) ∙ front-more d ys xs n m (omega arith) l e

-- in the first n bytes of a buffer of m stand those of `all`, but for the rest of them
pub record Begun (m : ℕ) (all d : List ℕ) (n : ℕ) (rest : List ℕ) : Type 0 where
  pub long : length d ≡ m
  pub is : all ≡ take n d ++ rest

module _ {m : ℕ} {all : List ℕ} where
  pub begun : (d : List ℕ) → length d ≡ m → Begun m all d 0 all
  begun d h = record { long = h; is = refl }

  -- a piece xs comes next
  pub begun_more : (d : List ℕ) (n k : ℕ) (xs ys rest : List ℕ) → ys ≡ xs → length xs ≡ k → n + k ≤ m → Begun m all d n (xs ++ rest) → Begun m all (put n k d ys) (n + k) rest
  begun_more d n k xs ys rest e h f b =
      let i : length ys ≡ k = ap length e ∙ h in
      let j : n + k ≤ length d = omega (arith, b.long) in
      record { long = length-put d ys n k j ∙ omega (arith, b.long); is = b.is ∙ rw (take_put d ys n k j i, append_assoc, e) }

  -- up to the end
  pub begun-end : (d : List ℕ) (n : ℕ) (xs ys : List ℕ) → ys ≡ xs → n + length xs ≡ m → Begun m all d n (xs ++ []) → put n (length d - n) d ys ≡ all
  begun-end d n xs ys e h b =
      let i : length xs ≡ length d - n = omega (arith, b.long) in
      let g = begun_more d n (length d - n) xs ys [] e i (omega arith) b in
      sym (g.is ∙ (append-nil _ ∙ take_all (n + (length d - n)) _ (omega (arith, g.long))))

  -- a single byte
  pub begun-byte : (d : List ℕ) (n v : ℕ) (xs rest : List ℕ) → xs ≡ v ∷ [] → n < m → Begun m all d n (xs ++ rest) → Begun m all (set d n v) (n + 1) rest
  begun-byte d n v xs rest e h b =
      let p : set d n v ≡ put n 1 d (v ∷ []) = set-pasted d n v (omega (arith, b.long)) ∙ sym (part-pasted d (v ∷ []) n 1 refl) in
      rw p (begun_more d n 1 xs (v ∷ []) rest (sym e) (ap length e) (omega arith) b)
