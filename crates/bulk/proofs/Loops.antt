-- Loops that write a run front to back: copied, and turned, once over the width and the numbers of a step.
-- Assumes nothing.
use mathlib.Core.Path.{◌≡◌, refl, sym, ap, ◌∙◌}
use mathlib.Core.List.{List, [], ◌∷◌, ◌++◌}
use Prim.Native.Nat.{ℕ, ◌+◌, ◌-◌, ◌*◌, ◌<◌, ◌≤◌, zero-le}
use native.Mathlib.Nat.{zero-mul, mul-le-mul_right, add-mul}
use native.Mathlib.Numerals.{add-one}
use native.Mathlib.Omega.{arith}
use lib.ListN.{length, get_or, take, drop, set, length-append, length-take, length-drop}
use lib.Seq.{drop-drop, drop_at, take-suc, take-suc-set, take_all, take-add, take-take, length-take-le}
use Rattle.words.specs.Runs.{turned}
use Rattle.words.proofs.Runs.{turned-add, length-turned, turned-take}
use Rattle.words.proofs.Fronts.{put, front-more}
use Rattle.bulk.specs.Runs.{Run}

-- a loop that has come to the end has written all of d
pub all_done : (d xs : List ℕ) (at : ℕ) → take at d ≡ xs → length d ≤ at → d ≡ xs
all_done d xs at e h = sym (take_all at d h) ∙ e

-- one byte more, copied behind the first i
pub copied_more : (d s : List ℕ) (i : ℕ) → i < length s → i < length d → take i d ≡ take i s → take (i + 1) (set d i (get_or s i 0)) ≡ take (i + 1) s
copied_more d s i hs hd e = rw add-one (take-suc-set d i (get_or s i 0) hd ∙ ap (λ (x : List ℕ). x ++ (get_or s i 0 ∷ [])) e ∙ sym (take-suc s i 0 hs))

-- the first i of n numbers of s are turned, and stand in front in d
pub record Turning (w n : ℕ) (s d : List ℕ) (i at : ℕ) : Type 0 where
  pub run : Run w n s d
  pub place : at ≡ i * w
  pub within : i ≤ n
  pub done : take at d ≡ turned w i s

pub turning-none : {w n : ℕ} {s d : List ℕ} → Run w n s d → Turning w n s d 0 0
unfolding turned
turning-none {w} r = record { run = r; place = sym (zero-mul w); within = zero-le; done = refl }

pub turning-all : {w n : ℕ} {s d : List ℕ} {i at : ℕ} → Turning w n s d i at → n ≤ i → d ≡ turned w n s
turning-all {w} {n} {s} {d} {i} {at} t h =
    let e : i ≡ n = omega arith in
    let l : length d ≡ at = t.run.room ∙ (ap (λ (x : ℕ). x * w) (sym e) ∙ sym t.place) in
    all_done d (turned w n s) at (t.done ∙ ap (λ (x : ℕ). turned w x s) e) (omega arith)

-- the first k numbers of the first m bytes are those of all the bytes
turned-first : (w k m : ℕ) (s : List ℕ) → k * w ≤ m → m ≤ length s → turned w k (take m s) ≡ turned w k s
turned-first w k m s h l =
    sym (turned-take w k (take m s) (rw (length-take-le m s l) h)) ∙ (ap (turned w k) (take-take (k * w) m s h) ∙ turned-take w k s (omega arith))

-- numbers that were lent with p bytes before them
lent-within : (p m at : ℕ) (s : List ℕ) → p ≤ at → p ≤ m → at ≤ length s → drop p (take m (drop (at - p) s)) ≡ take (m - p) (drop at s)
lent-within p m at s h l f =
    let t = drop (at - p) s in
    let cut : m ≡ p + (m - p) = omega arith in
    let up : at - p + p ≡ at = omega arith in
    let front : length (take p t) ≡ p = length-take-le p t (simp length-drop (omega arith)) in
    ap (λ (x : ℕ). drop p (take x t)) cut
    ∙ (ap (drop p) (take-add p (m - p) t) ∙ (drop_at (take p t) (take (m - p) (drop p t)) p front ∙ ap (take (m - p)) (drop-drop p (at - p) s ∙ ap (λ (x : ℕ). drop x s) up)))

-- k numbers more, up to e: a call wrote them as ys
turning-by :
    {w n : ℕ} {s d : List ℕ} {i at : ℕ} {ys : List ℕ} (k e : ℕ) → Turning w n s d i at → i + k ≤ n → e ≡ at + k * w → ys ≡ turned w k (drop at s) →
    Turning w n s (put at (e - at) d ys) (i + k) e
turning-by {w} {n} {s} {d} {i} {at} {ys} k e t l he is =
    let f : i * w + k * w ≤ n * w = rw add-mul at (mul-le-mul_right w l) in
    let long : length ys ≡ k * w = ap length is ∙ length-turned w k (drop at s) (simp length-drop (omega arith)) in
    let same : length (put at (e - at) d ys) ≡ length d = simp (length-append, length-take, length-drop) (omega arith) in
    let up : at + (e - at) ≡ e = omega arith in
    let front = front-more d ys (turned w i s) at (e - at) (omega arith) same t.done in
    record {
      run = record { source = t.run.source; room = same ∙ t.run.room };
      place = omega (arith, add-mul i k w);
      within = l;
      done =
          ap (λ (x : ℕ). take x (put at (e - at) d ys)) (sym up)
          ∙ (front ∙ (ap (λ (x : List ℕ). turned w i s ++ x) (is ∙ ap (λ (x : ℕ). turned w k (drop x s)) t.place) ∙ sym (turned-add w i k s)));
    }

-- it was lent their bytes alone
pub turning-more :
    {w n : ℕ} {s d : List ℕ} {i at : ℕ} {ys : List ℕ} (k e : ℕ) →
    Turning w n s d i at → i + k ≤ n → e ≡ at + k * w → ys ≡ turned w k (take (e - at) (drop at s)) →
    Turning w n s (put at (e - at) d ys) (i + k) e
turning-more {w} {n} {s} {i = i} {at} k e t l he hy =
    let f : i * w + k * w ≤ n * w = rw add-mul at (mul-le-mul_right w l) in
    turning-by k e t l he (hy ∙ turned-first w k (e - at) (drop at s) (omega arith) (simp length-drop (omega arith)))

-- one number
pub turning_one :
    {w n : ℕ} {s d : List ℕ} {i : ℕ} {ys : List ℕ} →
    Turning w n s d i (i * w) → i < n → ys ≡ turned w 1 (take (i * w + w - i * w) (drop (i * w) s)) →
    Turning w n s (put (i * w) (i * w + w - i * w) d ys) (i + 1) ((i + 1) * w)
turning_one {w} {i = i} t l hy =
    let e : (i + 1) * w ≡ i * w + w = rw add-mul (omega arith) in
    rw e (turning-more 1 (i * w + w) t (omega arith) (omega arith) hy)

-- or with p bytes before them and q behind them
pub turning-within :
    {w n : ℕ} {s d : List ℕ} {i at : ℕ} {ys : List ℕ} (k p q e : ℕ) →
    Turning w n s d i at → i + k ≤ n → e ≡ at + k * w → p ≤ at → e + q ≤ length s → ys ≡ turned w k (drop p (take (e + q - (at - p)) (drop (at - p) s))) →
    Turning w n s (put at (e - at) d ys) (i + k) e
turning-within {w} {s = s} {at = at} k p q e t l he hp hq hy =
    let m = e + q - (at - p) in
    let lent = ap (turned w k) (lent-within p m at s hp (omega arith) (omega arith)) in
    turning-by k e t l he (hy ∙ (lent ∙ turned-first w k (m - p) (drop at s) (omega arith) (simp length-drop (omega arith))))

-- and all the others
pub turning-rest :
    {w n : ℕ} {s d : List ℕ} {i at : ℕ} {ys : List ℕ} (k : ℕ) →
    Turning w n s d i at → i + k ≡ n → ys ≡ turned w k (take (length s - at) (drop at s)) → put at (length d - at) d ys ≡ turned w n s
turning-rest {w} {n} {s} {d} {i} {at} k t l hy =
    let e : length s ≡ at + k * w = t.run.source ∙ (ap (λ (x : ℕ). x * w) (sym l) ∙ (add-mul i k w ∙ ap (λ (x : ℕ). x + k * w) (sym t.place))) in
    rw (t.run.room ∙ sym t.run.source) (turning-all (turning-more k (length s) t (omega arith) e hy) (omega arith))
