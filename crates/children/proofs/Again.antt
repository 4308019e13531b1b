-- A loop over the recordings of an accepted file that finds each of them again: what it says of those that are passed.
-- Assumes nothing.
use Rattle.std.proofs.Common.{Result, Ok, Err, Some, None}
use Rattle.std.specs.Prelude as Std
use mathlib.Core.Path.{◌≡◌, sym, ◌∙◌}
use mathlib.Core.List.{List, [], ◌∷◌, ◌++◌}
use mathlib.Core.Option.{Option}
use Prim.Native.Nat.{ℕ, ◌+◌, ◌-◌, ◌≤◌, ◌<◌}
use native.Mathlib.Omega.{arith}
use lib.ListN.{length}
use Rattle.words.specs.declared.Order.{Order}
use Rattle.walk.specs.See.{goes, see, Goes}
use Rattle.walk.proofs.Went.{goes_same}
use Rattle.rules.specs.declared.Label.{Label}
use Rattle.rules.specs.declared.Refusal.{Refusal}
use Rattle.rules.specs.Rules.{Held, Placed, recording}
use Rattle.descriptions.specs.DescriptionsJudged.{HeldWithin, HeldAs}
use Rattle.descriptions.specs.declared.Places.{Places}
use Rattle.judge.specs.Recorded.{places_of, leaves, Places-of, Continues, RecordingAgain}
use Rattle.children.specs.Children.{Said, said, ◌then◌}
use Rattle.children.specs.Recordings.{all_of, ReadAs}
use Rattle.children.proofs.Saying.{nothing}
use Rattle.children.proofs.Recordings.{passed-led, passed-stop, Sofar, sofar-start, sofar-next, sofar-end}

-- the code has what holds for the next recording from the one before, and Q holds of those that are passed
pub record Knowing (o : Order) (s : List ℕ) (before : Std.Option Places) (Q : List Placed → Said → Type 0) (held : Option Held) (done : List Placed) (l : Said) : Type 0 where
  pub holds : HeldAs o s before held
  pub is : Q done l

-- the next recording is read as x, and has the places q
pub record Next (o : Order) (label : Label) (s : List ℕ) (p i : ℕ) (before : Std.Option Places) (held : Option Held) (q : Places) (x : Placed) : Type 0 where
  pub is : see o 0 s p (recording label held (length s - p) (i + 1)) ≡ goes x q.end
  pub same : q ≡ places_of p before x
  pub stands : HeldAs o s (Some q) (leaves x)

-- the same from a verdict on it
next_of : {o : Order} {label : Label} {s : List ℕ} {p i : ℕ} {before : Std.Option Places} {held : Option Held} {q : Places} (x : Placed) (e : ℕ) → see o 0 s p (recording label held (length s - p) (i + 1)) ≡ goes x e →
    Goes (see o 0 s p (recording label held (length s - p) (i + 1))) (Places-of o s p before q) → (e ≡ q.end) × Next o label s p i before held q x
next_of {q = q} x e g k =
    let v = goes_same (sym k.is ∙ g) in
    let m : e ≡ q.end = sym v.1 ∙ k.kept.end in
    (m, record { is = rw m at g; same = rw v.0 at k.kept.same; stands = rw v.0 at k.kept.held })

-- the step, from what `recording_again` answers
module _ {o : Order} {label : Label} {s : List ℕ} {count : ℕ} {ps : List Placed} {p i : ℕ} {before : Std.Option Places} {Q : List Placed → Said → Type 0} (v : Sofar o label s count ps p i (Knowing o s before Q)) (many : i < count) (fit : p ≤ length s) (a : Result Places Refusal) (k : RecordingAgain o label s p before a) where
  -- it refuses none
  pub again-stop : {X : Type 0} {r : Refusal} → a ≡ Err r → X
  again-stop e =
      passed-stop v.at many fit (rw e at (k.told v.at.held (i + 1) _ _ v.is.holds (passed-led v.at many fit).is))

  pub again-next : {q : Places} {Q' : List Placed → Said → Type 0} → a ≡ Ok q →
      ((x : Placed) → Next o label s p i before v.at.held q x → Q' (v.at.done ++ (x ∷ [])) (v.at.tells then said o 0 s p (recording label v.at.held (length s - p) (i + 1)))) →
      Sofar o label s count ps q.end (i + 1) (Knowing o s (Some q) Q')
  again-next h step =
      sofar-next v many fit
      (λ x e g. let n = next_of x e g (rw h at (k.told v.at.held (i + 1) _ _ v.is.holds g)) in record { ends = n.0; holds = record { holds = n.1.stands; is = step x n.1 } })

-- the loop: it stands at byte p, i of the recordings are passed, the code has the places of the last of them, and where the file's recordings are read Q holds of those passed
pub record Along (o : Order) (label : Label) (s : List ℕ) (count p i : ℕ) (before : Std.Option Places) (Q : List Placed → Said → Type 0) : Type 0 where
  pub few : i ≤ count
  pub inside : p ≤ length s
  pub room : HeldWithin (length s) before
  pub sofar : (ps : List Placed) (e : ℕ) → ReadAs o label s count ps e → Sofar o label s count ps p i (Knowing o s before Q)

module _ {o : Order} {label : Label} {s : List ℕ} {count : ℕ} {Q : List Placed → Said → Type 0} where
  pub along-start : 32 ≤ length s → Q [] nothing → Along o label s count 32 0 None Q
  along-start fit h = record { few = omega arith; inside = fit; room = tt; sofar = λ ps e g. sofar-start g (record { holds = tt; is = h }) }

  module _ {p i : ℕ} {before : Std.Option Places} (v : Along o label s count p i before Q) where
    module _ (many : i < count) (a : Result Places Refusal) (k : RecordingAgain o label s p before a) where
      pub along-stop : {X : Type 0} {r : Refusal} → a ≡ Err r → {ps : List Placed} {e : ℕ} → ReadAs o label s count ps e → X
      along-stop h g = again-stop (v.sofar _ _ g) many v.inside a k h

      pub along-fits : {q : Places} → a ≡ Ok q → Continues p (length s) (Ok q)
      along-fits h = rw h at k.continues

      pub along-next : {q : Places} {Q' : List Placed → Said → Type 0} → a ≡ Ok q →
          ((held : Option Held) (done : List Placed) (l : Said) (x : Placed) → length done ≡ i → Next o label s p i before held q x → Q done l → Q' (done ++ (x ∷ [])) (l then said o 0 s p (recording label held (length s - p) (i + 1)))) →
          Along o label s count q.end (i + 1) (Some q) Q'
      along-next h step =
          let u = along-fits h in
          record {
            few = omega arith;
            inside = u.end;
            room = u.channels;
            sofar = λ ps e g. let u = v.sofar ps e g in again-next u many v.inside a k h (λ x n. step u.at.held u.at.done u.at.tells x u.at.many n u.is.is);
          }

    pub along-end : count ≤ i → (ps : List Placed) (e : ℕ) → ReadAs o label s count ps e → Q ps (said o 0 s 32 (all_of label count s))
    along-end few ps e g = (sofar-end (v.sofar ps e g) few).is
