-- Events that stand at a byte of a file: their numbers are read there, and what follows them stands behind them.
-- Assumes nothing.
use mathlib.Core.Path.{◌≡◌, refl, sym, ap, ◌∙◌}
use mathlib.Core.List.{List, [], ◌∷◌, ◌++◌, append_assoc}
use Prim.Native.Nat.{ℕ, ◌+◌, ◌^◌, ◌<◌}
use native.Mathlib.Omega.{arith}
use lib.ListN.{get_or, drop}
use lib.Seq.{take_at, drop_at, drop-drop, get_or-drop}
use Rattle.words.specs.Numbers.{number_at, bytes_in}
use Rattle.words.specs.declared.Order.{Order}
use Rattle.words.proofs.Words.{word_in-bytes_in, length-bytes_in}
use Rattle.walk.specs.Walk.{Text, Event, numeral, piece, size, render}
use Rattle.walk.proofs.Laid.{laid-text}
use Rattle.walk.proofs.Laws.{length-render}
use Rattle.walk.proofs.Tracing.{render-append}
use Rattle.rules.specs.Canonical.{numerals}
use Rattle.rules.specs.Rules.{Head}

pub record Here (o : Order) (s : List ℕ) (p : ℕ) (t : List Event) : Type 0 where
  pub behind : List ℕ
  pub is : drop p s ≡ render o t ++ behind

module _ {o : Order} {s : List ℕ} {p : ℕ} where
  pub here-as : {t u : List Event} → t ≡ u → Here o s p t → Here o s p u
  here-as e h = rw (← e) h

  pub here-first : (t u : List Event) → Here o s p (t ++ u) → Here o s p t
  here-first t u h = record { behind = render o u ++ h.behind; is = h.is ∙ (ap (λ (x : List ℕ). x ++ h.behind) (render-append o t u) ∙ append_assoc (render o t) (render o u) h.behind) }

  pub here-then : (t u : List Event) {q : ℕ} → Here o s p (t ++ u) → p + size t ≡ q → Here o s q u
  here-then t u {q} h e = record {
    behind = h.behind;
    is = ap (λ (x : ℕ). drop x s) (sym e) ∙ (sym (drop-drop (size t) p s) ∙ (ap (drop (size t)) (h.is ∙ (ap (λ (x : List ℕ). x ++ h.behind) (render-append o t u) ∙ append_assoc (render o t) (render o u) h.behind)) ∙
        drop_at (render o t) (render o u ++ h.behind) (size t) (length-render o t)));
  }

  pub here-number : (n v : ℕ) (t : List Event) → Here o s p (numeral n v ∷ t) → v < 256 ^ n → number_at o n s p ≡ v
  unfolding number_at render
  here-number n v t h l =
      let e : drop p s ≡ bytes_in o n v ++ (render o t ++ h.behind) = h.is ∙ append_assoc (bytes_in o n v) (render o t) h.behind in
      rw (e, take_at (bytes_in o n v) (render o t ++ h.behind) n (length-bytes_in o n v)) (word_in-bytes_in o n v l)

  pub here-byte : (b : ℕ) (bs : List ℕ) (t : List Event) → Here o s p (piece Text (b ∷ bs) ∷ t) → get_or s p 0 ≡ b
  unfolding render
  here-byte b bs t h =
      let e : drop p s ≡ b ∷ ((bs ++ render o t) ++ h.behind) = h.is ∙ ap (λ (x : List ℕ). (x ++ render o t) ++ h.behind) (laid-text o (b ∷ bs)) in
      let z : get_or s (p + 0) 0 ≡ b = sym (get_or-drop p s 0 0) ∙ ap (λ (x : List ℕ). get_or x 0 0) e in
      let y : p + 0 ≡ p = omega arith in
      rw y at z

-- a record's size and multiplier
pub here-size : {o : Order} {s : List ℕ} {p : ℕ} (h : Head) (t : List Event) → Here o s p (numerals h ++ t) → h.size < 256 ^ 4 → number_at o 4 s p ≡ h.size
here-size h t w l = here-number 4 h.size _ w l

pub here-multiplier : {o : Order} {s : List ℕ} {p : ℕ} (h : Head) (t : List Event) → Here o s p (numerals h ++ t) → h.multiplier < 256 ^ 4 → number_at o 4 s (p + 12) ≡ h.multiplier
unfolding size
here-multiplier h t w l = here-number 4 h.multiplier t (here-then (numeral 4 h.size ∷ numeral 4 h.code ∷ numeral 4 h.serial ∷ []) (numeral 4 h.multiplier ∷ t) w refl) l
