-- The question about the kind of a code, which needs no file: refused by 19 at 0 alone, answered for C by the same, and else the kind of document 02.
-- Assumes nothing.
use Rattle.std.proofs.Common.{Result, Ok, Err}
use Rattle.rules.specs.Reasons.{refusal_of, number_of}
use mathlib.Core.Path.{◌≡◌, refl, sym, ap, ◌∙◌}
use mathlib.Core.Bool.{Bool, true, false}
use Prim.Native.Nat.{ℕ}
use native.Mathlib.Omega.{arith}
use borrow.Author.Tests.{le-leb, lt-leb}
use lib.Dec.{leb}
use Rattle.walk.specs.Walk.{pick}
use Rattle.walk.proofs.Apart.{zero_one}
use Rattle.rules.specs.declared.Refusal.{Refusal}
use Rattle.recordings.specs.Answers.{Answer, value, refusal, outside, meaning}
use Rattle.recordings.proofs.Chosen.{refusal-value}
use Rattle.codes.specs.Codes.{kind_of, kind_told, KindAnswer}
use Rattle.codes.specs.declared.EventKind.{EventKind}
use Rattle.codes.proofs.Table.{kind-is}
use Rattle.recordings.proofs.Answers.{meaning-one}
use Rattle.answers.specs.Flat.{flat_kind}
use Rattle.answers.specs.declared.Kind.{Kind}
use Rattle.psg.specs.Calls.{KindAnswers}
use Rattle.demands.specs.Demands.{of_code, Refuses, Answered, KindTaken, KindTells, kind_c, unkind_c}
use Rattle.demands.proofs.Refusing.{out_of_range}

-- the refusals, of a file of any size
kind-refuses : (c size n p : ℕ) → kind_told c ≡ refusal n p → Refuses of_code size 0 n p
kind-refuses c size n p h = go (leb c 65535) h
  where
    go : (b : Bool) → pick b (value (kind_of c)) outside ≡ refusal n p → Refuses of_code size 0 n p
    go true h = refusal-value (sym h)
    go false h = out_of_range of_code size 0 n p refl (cc) (cc)

pub kind-answered : (c size : ℕ) (a : Result EventKind Refusal) → KindAnswer c a → Answered Err of_code size 0 a
kind-answered c size a x r i = kind-refuses c size (number_of r.0) r.1 (sym x ∙ ap meaning i)

-- what C is answered
kind-refused : {k : EventKind} {r : Refusal} → Ok k ≡ Err r → ⊥
kind-refused h = zero_one (cc)

pub kind-apart : (c : ℕ) (a : Kind) → KindAnswers c a → KindTaken c a
kind-apart c a x = go (kind_told c) refl x
  where
    go : (m : Answer EventKind) → kind_told c ≡ m → a ≡ flat_kind m → KindTaken c a
    go (value k) e x =
        let z : a.refusal ≡ 0 = ap (λ (y : Kind). y.refusal) x in
        record {
          told = Ok k;
          met = sym e;
          same = x;
          answered = λ _ r. kind-refused;
          refused = λ l. absurd (omega arith);
          proper = λ l. absurd (omega arith);
          rest = λ l. absurd (omega arith);
        }
    go (refusal n p) e x =
        let r = kind-refuses c 0 n p e in
        rw x (record {
          told = Err (refusal_of n p);
          met = ap (λ (k : ℕ). refusal k p) r.named ∙ sym e;
          same = ap (λ (k : ℕ). flat_kind (refusal k p)) (sym r.named);
          answered = λ z _ _. omega (arith, r.nonzero);
          refused = λ _. refl;
          proper = λ _. r;
          rest = λ _. refl;
        })

-- the kind, by whatever tells the answer
module _ {E : Type 0} (tell : Answer EventKind → E) (c : ℕ) {a : E} (x : a ≡ tell (kind_told c)) where
  kind-tells : KindTells (λ k. tell (value k)) (λ r. tell (refusal (number_of r.0) r.1)) c a
  kind-tells = record { kind = λ l. (kind_of c, kind-is c, x ∙ rw (le-leb c 65535 l)); outside = λ l. x ∙ rw (lt-leb c 65535 l) }

pub kinds : (c : ℕ) (a : Result EventKind Refusal) → KindAnswer c a → KindTells Ok Err c a
kinds c a x = record {
  kind = λ l. (kind_of c, kind-is c, meaning-one a (Ok (kind_of c)) x (sym (rw (le-leb c 65535 l))));
  outside = λ l. meaning-one a (Err (refusal_of 19 0)) x (sym (rw (lt-leb c 65535 l)));
}

pub boundary-kinds : (c : ℕ) (a : Kind) → KindAnswers c a → KindTells kind_c unkind_c c a
boundary-kinds c a x = kind-tells flat_kind c x
