-- What the proofs of the judge's functions share. Assumes nothing.
use Rattle.rules.specs.declared.Refusal.{Refusal}
use Rattle.std.proofs.Common.{Result, Ok, Err}
use Prim.Native.Nat.{ℕ, suc, ◌+◌, ◌-◌, ◌≤◌, ◌<◌}
use native.Mathlib.Omega.{arith}
use mathlib.Core.Path.{◌≡◌, refl, sym, ap, ◌∙◌, subst⁻¹}
use mathlib.Core.Bool.{true, false}
use borrow.Author.Tests.{leb-true, eqb-true}
use lib.Dec.{leb, eqb}
use mathlib.Core.List.{List}
use lib.ListN.{length}
use Rattle.words.specs.declared.Order.{Order}
use Rattle.walk.specs.See.{Verdict, see, over, ends, onward, stops, goes}
use Rattle.walk.proofs.Seen.{and_left}
use Rattle.rules.specs.Rules as R
use Rattle.rules.specs.declared.Label.{Label}
use Rattle.rules.specs.declared.Head.{Head}
use Rattle.rules.proofs.Cases.{most-low}
use Rattle.rules.specs.declared.Kind.{Kind}
use Rattle.records.specs.Says.{headroom, head_of, fits_of, serial_of, as_rule, rule_of, Spans, Fitting, Admits, AdmittedBy, admitted, tested}
use Rattle.records.specs.declared.kinds.Rule.{Rule}
use Rattle.records.proofs.Steps.{next-stop, next-done, next-refused, next_more}

-- a head that stands at byte p, admitted: the walk goes on 16 bytes behind p
pub admitted-at : {h : Head} {base n p : ℕ} {k : Kind} {a : Result ℕ Refusal} → h.at ≡ p → AdmittedBy h base n k a →
    (o : Order) (b : ℕ) (s : List ℕ) → see o b s (base + (p + 16)) (R.admit_by (rule_of k) (n - p) (head_of h)) ≡ admitted a (base + (p + 16))
admitted-at e x o b s = rw e at (x.seen o b s)

-- no kind's multiplier is larger than 128, and a length that fits is the kind's
most-small : (k : Kind) → (rule_of k).most ≤ 128
most-small (Kind.Recording label i) = most-low label
most-small Kind.Basic = omega arith
most-small (Kind.Channels code) = omega arith
most-small (Kind.Channel code i) = omega arith
most-small (Kind.Items code) = omega arith
most-small (Kind.Frames label) = most-low label
most-small (Kind.Frame label size filled i) = most-low label
most-small (Kind.Maker label) = most-low label
most-small Kind.Any = omega arith

spans : (k : Kind) (multiplier n : ℕ) → (rule_of k).fits multiplier n ≡ true → Spans k n
spans (Kind.Recording label i) m n e = leb-true 16 n e
spans Kind.Basic m n e = sym (eqb-true 128 n e)
spans (Kind.Channels code) m n e = leb-true 32 n e
spans (Kind.Channel code i) m n e = sym (eqb-true 256 n e)
spans (Kind.Items code) m n e = leb-true 24 n e
spans (Kind.Frames label) m n e = leb-true 32 n e
spans (Kind.Frame label size filled i) m n e = eqb-true n size (and_left (eqb n size) (R.padded m (n - filled)) e)
spans (Kind.Maker label) m n e = leb-true 16 n e
spans Kind.Any m n e = leb-true 16 n e

-- a rule of the code that is the kind's
pub rule-small : (r : Rule) (k : Kind) → as_rule r ≡ rule_of k → r.most ≤ 128
rule-small r k e = let m : r.most ≡ (rule_of k).most = ap (λ (x : R.Rule). x.most) e in subst⁻¹ (λ (n : ℕ). n ≤ 128) m (most-small k)

pub admits-by : (r : Rule) (k : Kind) → as_rule r ≡ rule_of k → (o : Order) (b : ℕ) (s : List ℕ) (at room : ℕ) (h : R.Head) {v : Verdict (Unit {0})} →
    see o b s at (R.admit room r.most (fits_of r.fits h.multiplier) (serial_of r.serial) h) ≡ v → see o b s at (R.admit_by (rule_of k) room h) ≡ v
admits-by r k e o b s at room h g = ap (λ (x : R.Rule). see o b s at (R.admit_by x room h)) (sym e) ∙ g

pub admits : (h : Head) (k : Kind) (n : ℕ) (r : Rule) → as_rule r ≡ rule_of k → (a : Result ℕ Refusal) → Fitting h r.fits n a → Admits h k n a
admits h k n r e (Ok q) f =
    (f.0, f.1, spans k h.multiplier _ (ap (λ (x : R.Rule). x.fits h.multiplier (R.length_of h.size h.multiplier)) (sym e) ∙ f.2))
admits h k n r e (Err x) f = tt

-- tests that end a walk whose answer is given
pub tested-give : {A : Type 0} (a : Result (Unit {0}) Refusal) (x : ℕ) (r : A) → ends (onward (tested a x) (λ _ e. goes r e)) ≡ tested a x
unfolding over
tested-give (Ok tt) x r = refl
tested-give (Err q) x r = refl

-- the search for the next record goes on at p, with fuel that is still enough
pub record Fueled (o : Order) (label : Label) (b : ℕ) (s : List ℕ) (from p fuel : ℕ) : Type 0 where
  pub left : ℕ
  pub enough : length s < p + left
  pub same : over headroom (see o b s (b + from) (R.next label fuel (length s - from))) ≡ over headroom (see o b s (b + p) (R.next label left (length s - p)))

module _ {o : Order} {label : Label} {b : ℕ} {s : List ℕ} {from p fuel : ℕ} (x : Fueled o label b s from p fuel) (fit : p ≤ length s) where
  some_left : x.left ≡ suc (x.left - 1)
  some_left = omega (arith, x.enough)

  pub fueled-stop : {n q : ℕ} → see o b s (b + p) (R.head (length s - p)) ≡ stops n q → over headroom (see o b s (b + from) (R.next label fuel (length s - from))) ≡ stops n q
  fueled-stop h = x.same ∙ rw some_left (next-stop o label b (b + p) (length s - p) (x.left - 1) s h)

  -- k: where the code's head says that it stands
  module _ {h : R.Head} {e : ℕ} (found : see o b s (b + p) (R.head (length s - p)) ≡ goes h e) (k : ℕ) (is : k ≡ p) where
    pub fueled-done : R.maker_code h.code ≡ false → over headroom (see o b s (b + from) (R.next label fuel (length s - from))) ≡ goes (record { head = h; room = length s - k }) e
    fueled-done m = x.same ∙ rw (some_left, is) (next-done o label b (b + p) (length s - p) (x.left - 1) s found m)

    pub fueled-refused : {n q : ℕ} → R.maker_code h.code ≡ true → see o b s e (R.admit (length s - k) (R.most_of label) (leb 16) (λ _. true) h) ≡ stops n q → over headroom (see o b s (b + from) (R.next label fuel (length s - from))) ≡ stops n q
    fueled-refused m a = x.same ∙ rw some_left (next-refused o label b (b + p) (length s - p) (x.left - 1) s found m (rw is at a))

    pub fueled-more : R.maker_code h.code ≡ true → see o b s e (R.admit (length s - k) (R.most_of label) (leb 16) (λ _. true) h) ≡ goes tt e →
        (q : ℕ) → e ≡ b + (p + 16) → q ≡ p + R.span h → 16 ≤ R.span h → Fueled o label b s from q fuel
    fueled-more m a q d u v =
        let i : e + (R.span h - 16) ≡ b + q = omega arith in
        let j : length s - p - R.span h ≡ length s - q = omega arith in
        record { left = x.left - 1; enough = omega (arith, x.enough); same = x.same ∙ ap (λ (n : ℕ). over headroom (see o b s (b + p) (R.next label n (length s - p)))) some_left ∙ next_more o label b (b + p) (length s - p) (x.left - 1) s found m (rw is at a) ∙ ap (λ (y : ℕ). over headroom (see o b s y (R.next label (x.left - 1) (length s - p - R.span h)))) i ∙ ap (λ (y : ℕ). over headroom (see o b s (b + q) (R.next label (x.left - 1) y))) j }
