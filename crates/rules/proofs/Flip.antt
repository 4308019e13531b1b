-- Turning, said of bytes: each number is reversed, the letter is changed, and every other byte stands. It is the rendering in the other order.
-- Assumes nothing.
use mathlib.Core.Path.{◌≡◌, refl, sym, ap, ◌∙◌}
use mathlib.Core.List.{List, [], ◌∷◌, ◌++◌, append_assoc, append-nil}
use Prim.Native.Nat.{ℕ, ◌+◌}
use lib.ListN.{length}
use lib.Seq.{take_at, drop_at}
use Rattle.words.specs.Numbers.{other, bytes_in, Bytes}
use Rattle.words.specs.declared.Order.{Order}
use Rattle.words.specs.declared.Order.TheVariants.{Little, Big}
use Rattle.words.proofs.Words.{length-bytes_in}
use Rattle.words.proofs.Runs.{bytes_in-other}
use Rattle.walk.specs.Walk.{laid, Kind, Letter, Text, Padding, Event, numeral, piece, blank, row, passed, render}
use Rattle.walk.proofs.Laid.{length-laid, swaps-swaps}
use Rattle.rules.specs.Rules.{File, order_of, judge}
use Rattle.rules.specs.Turned.{turned, flipped_piece, flipped}
use Rattle.rules.proofs.Turn.{turned-of, is-render}

laid-other : (o : Order) (k : Kind) (s : List ℕ) → laid (other o) k s ≡ flipped_piece k (laid o k s)
unfolding laid other flipped_piece
laid-other Little Letter s = refl
laid-other Little Text s = refl
laid-other Little Padding s = refl
laid-other Big Letter s = sym (swaps-swaps s)
laid-other Big Text s = refl
laid-other Big Padding s = refl

pub flipped-is : (o : Order) (t : List Event) (r : List ℕ) → render (other o) t ≡ flipped t (render o t ++ r)
unfolding render flipped
flipped-is o [] r = refl
flipped-is o (numeral n v ∷ t) r =
    let l : length (bytes_in o n v) ≡ n = length-bytes_in o n v in
    rw (append_assoc, take_at (bytes_in o n v) (render o t ++ r) n l, drop_at (bytes_in o n v) (render o t ++ r) n l, bytes_in-other o n v, flipped-is o t r)
flipped-is o (piece k bs ∷ t) r =
    let l : length (laid o k bs) ≡ length bs = length-laid o k bs in
    rw (append_assoc, take_at (laid o k bs) (render o t ++ r) (length bs) l, drop_at (laid o k bs) (render o t ++ r) (length bs) l, laid-other o k bs, flipped-is o t r)
flipped-is o (blank bs ∷ t) r = rw (append_assoc, take_at bs (render o t ++ r) (length bs) refl, drop_at bs (render o t ++ r) (length bs) refl, flipped-is o t r)
flipped-is o (row p l c m ∷ t) r = flipped-is o t r

-- a file that is accepted is turned by turning its bytes event by event
pub turned-flipped : (s : List ℕ) → Bytes s → {v : File} {r : List ℕ} {t : List Event} → judge s ≡ passed v r t → turned s ≡ flipped t s
turned-flipped s b {t} h =
    turned-of s h ∙ flipped-is (order_of s) t [] ∙ ap (flipped t) (append-nil (render (order_of s) t) ∙ sym (is-render s b h))
