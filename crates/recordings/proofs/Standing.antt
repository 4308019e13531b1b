-- What a run passed is what the walk comes to where it stands: of all that is found in an accepted file.
-- Assumes nothing.
use mathlib.Core.Path.{◌≡◌, refl, sym, ap, ◌∙◌}
use mathlib.Core.Bool.{Bool, true, false}
use mathlib.Core.List.{List, [], ◌∷◌, ◌++◌}
use Prim.Native.Nat.{ℕ, ◌+◌, ◌-◌, ◌≤◌}
use native.Mathlib.Nat.{sub-zero, add-zero}
use native.Mathlib.Omega.{arith}
use borrow.Author.Tests.{leb-true}
use lib.Dec.{leb}
use lib.ListN.{length, drop}
use lib.Seq.{drop-drop, length-take-le}
use Rattle.words.specs.Numbers.{Bytes, bytes_at, number_at}
use Rattle.words.specs.declared.Order.{Order}
use Rattle.walk.specs.See.{goes, gate, see}
use Rattle.walk.specs.Walk.{laid, Event, numeral, piece, blank, row, size, render, Walk, give, refuse, check, number, read, skip, list, Outcome, refused, passed, run}
use Rattle.walk.proofs.Apart.{refused-passed}
use Rattle.walk.proofs.Laid.{length-laid}
use Rattle.walk.proofs.Laws.{size-cons, size-append}
use Rattle.walk.proofs.Tracing.{by-logged}
use Rattle.rules.specs.Rules.{File, order_of, judge}
use Rattle.rules.proofs.Asked.{asked}
use Rattle.rules.proofs.Places.{Found}
use Rattle.rules.proofs.Turn.{tiled}

module _ {A : Type 0} where
  -- a step that passed had room
  roomy : {X : Type 0} (c : Bool) (y : Outcome A) {a : A} {r : List ℕ} {t : List Event} → ◌≡◌ {A = Outcome A} (elim c [ true ↦ y | false ↦ refused 0 0 ]) (passed a r t) → (c ≡ true → y ≡ passed a r t → X) → X
  roomy true y h k = k refl h
  roomy false y h k = refused-passed h

  -- behind an event of n bytes
  behind : (o : Order) (b : ℕ) (s : List ℕ) (at n : ℕ) (w : Walk A) (v : Event) (u : List Event) {a : A} {t : List Event} → t ≡ v ∷ u → size (v ∷ []) ≡ n → see o b s (at + n) w ≡ goes a (at + n + size u) → see o b s (at + n) w ≡ goes a (at + size t)
  behind o b s at n w v u {a} {t} e h k = k ∙ ap (λ (x : ℕ). goes a x) (let i : size t ≡ size (v ∷ []) + size u = ap size e ∙ size-cons v u in omega arith)

  module _ (o : Order) (b : ℕ) (s : List ℕ) where
    pub run-seen : (w : Walk A) (at : ℕ) {a : A} {r : List ℕ} {t : List Event} → b ≤ at → run o at (drop (at - b) s) w ≡ passed a r t → see o b s at w ≡ goes a (at + size t)
    unfolding see run number_at bytes_at gate size
    run-seen (give x) at {a} {r} {t} g q =
        let i : x ≡ a = cc in
        let j : t ≡ [] = cc in
        rw (i, j, add-zero)
    run-seen (refuse n p) at g q = refused-passed q
    run-seen (check true n p w) at g q = run-seen w at g q
    run-seen (check false n p w) at g q = refused-passed q
    run-seen (number n f) at g q =
        let d : at - b + n ≡ at + n - b = omega arith in
        let v : ℕ = number_at o n s (at - b) in
        roomy (leb n (length (drop (at - b) s))) _ q λ _ q.
        by-logged (numeral n v) (run o (at + n) (drop n (drop (at - b) s)) (f v)) q λ u y i.
        behind o b s at n (f v) (numeral n v) u i (omega arith) (run-seen (f v) (at + n) (omega arith) (rw (drop-drop n (at - b) s, d) at y))
    run-seen (read k n f) at g q =
        let d : at - b + n ≡ at + n - b = omega arith in
        let bs : List ℕ = laid o k (bytes_at n s (at - b)) in
        roomy (leb n (length (drop (at - b) s))) _ q λ l q.
        by-logged (piece k bs) (run o (at + n) (drop n (drop (at - b) s)) (f bs)) q λ u y i.
        let e : length bs ≡ n = length-laid o k (bytes_at n s (at - b)) ∙ length-take-le n (drop (at - b) s) (leb-true _ _ l) in
        behind o b s at n (f bs) (piece k bs) u i (omega arith) (run-seen (f bs) (at + n) (omega arith) (rw (drop-drop n (at - b) s, d) at y))
    run-seen (skip n w) at g q =
        let d : at - b + n ≡ at + n - b = omega arith in
        let bs : List ℕ = bytes_at n s (at - b) in
        roomy (leb n (length (drop (at - b) s))) _ q λ l q.
        by-logged (blank bs) (run o (at + n) (drop n (drop (at - b) s)) w) q λ u y i.
        let e : length bs ≡ n = length-take-le n (drop (at - b) s) (leb-true _ _ l) in
        behind o b s at n w (blank bs) u i (omega arith) (run-seen w (at + n) (omega arith) (rw (drop-drop n (at - b) s, d) at y))
    run-seen (list p l c m w) at {a} g q =
        by-logged (row p l c m) (run o at (drop (at - b) s) w) q λ u y i. run-seen w at g y ∙ ap (λ (x : List Event). goes a (at + size x)) (sym i)

-- what is found in an accepted file: its walk comes to it where it stands, and it ends in the file
module _ (s : List ℕ) (b : Bytes s) {v : File} {r : List ℕ} {t : List Event} (h : judge s ≡ passed v r t) {A : Type 0} {w : Walk A} {a : A} {p : ℕ} (f : Found t w a p) where
  pub found-seen : see (order_of s) 0 s p w ≡ goes a (p + size f.events)
  found-seen =
      let q : run (order_of s) p (drop (p - 0) s) w ≡ passed a (render (order_of s) f.behind) f.events = rw sub-zero (asked s b h f) in
      run-seen (order_of s) 0 s w p (omega arith) q

  pub found-ends : p + size f.events ≤ length s
  found-ends =
      let e : size t ≡ size f.before + (size f.events + size f.behind) = ap size f.split ∙ size-append f.before (f.events ++ f.behind) ∙ ap (λ (x : ℕ). size f.before + x) (size-append f.events f.behind) in
      omega (arith, e, f.place, tiled s b h)
