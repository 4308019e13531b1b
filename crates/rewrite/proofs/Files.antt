-- All recordings of a file: how much of their canonical form is counted, or written, when one more of them is passed.
-- Assumes nothing.
use Rattle.measures.specs.declared.Measure.{Measure}
use Rattle.std.proofs.Common.{Some, None}
use Rattle.std.specs.Prelude as Std
use mathlib.Core.Path.{◌≡◌, sym, ap, ◌∙◌}
use mathlib.Core.List.{List, [], ◌∷◌, ◌++◌, map, append_assoc, append-nil}
use mathlib.Core.Option.{Option}
use Prim.Native.Nat.{ℕ, suc, ◌+◌, ◌<◌}
use native.Mathlib.Nat.{add-zero}
use native.Mathlib.Omega.{arith}
use lib.ListN.{length}
use Rattle.words.specs.declared.Order.{Order}
use Rattle.walk.specs.Walk.{Event, size, render}
use Rattle.walk.proofs.Laws.{size-append}
use Rattle.walk.proofs.Tracing.{render-append}
use Rattle.rules.specs.Rules as R
use Rattle.rules.specs.declared.Label.{Label}
use Rattle.rules.specs.Canonical as C
use Rattle.rules.proofs.Canon.{recording-size}
use Rattle.descriptions.specs.declared.Places.{Places}
use Rattle.children.proofs.Again.{Next}
use Rattle.bodies.specs.Copy.{Pastes}
use Rattle.turn.proofs.Sent.{AfterHeader, after_more}
use Rattle.measures.specs.Measures.{MeasureOf, MeasureBounds, Each, Given, length_in, behind_head}
use Rattle.measures.specs.declared.Sized.{Sized}
use Rattle.rewrite.specs.RecordingsAnew.{AcceptedAt, MeasuredAt, length_anew}

-- the canonical events of recordings that the walk read, with the serials from i on
abbrev pub events_of : Label → ℕ → List R.Placed → List Event
events_of label i ps = C.recording_events label i (map (λ p. p.recording) ps)

abbrev pub events_one : Label → ℕ → R.Placed → List Event
events_one label i x = C.recording_events label i (x.recording ∷ [])

-- a recording is as long as its head says
one_size : (label : Label) (i : ℕ) (r : R.Recording) → size (C.recording_events label i (r ∷ [])) ≡ R.span (C.recording_head label i r)
unfolding C.recording_events
one_size label i r = rw append-nil (recording-size label i r)

-- and as its measure says
given-size : (label : Label) (a : Std.Option Measure) (i : ℕ) (x : R.Placed) → Given a (λ f. MeasureOf label f x) → length_in a ≡ size (events_one label i x)
given-size label (Some f) i x g = ap (λ (z : Sized). z.length) g.whole ∙ sym (one_size label i x.recording)
given-size label None i x g = absurd g

-- no measure asks for more
pub length_most : (n : ℕ) (a : Std.Option Measure) → Each a (MeasureBounds n) → length_in a < 549755813888
length_most n (Some f) b = b.most
length_most n None b = omega arith

-- one more behind those that are passed
events-last : (label : Label) (i : ℕ) (ps : List R.Placed) (x : R.Placed) →
    events_of label i (ps ++ (x ∷ [])) ≡ events_of label i ps ++ events_one label (i + length ps) x
unfolding C.recording_events
events-last label i [] x = rw add-zero
events-last label i (p ∷ ps) x =
    let n : suc i + length ps ≡ i + suc (length ps) = omega arith in
    rw (events-last label (suc i) ps x, n) (sym (append_assoc (C.record_of (C.recording_head label i p.recording) (behind_head label p.recording))
    (events_of label (suc i) ps) (events_one label (i + suc (length ps)) x)))

-- what the code finds again is accepted there
accepted : {o : Order} {label : Label} {s : List ℕ} {p i : ℕ} {before : Std.Option Places} {held : Option R.Held} {q : Places} {x : R.Placed} →
    Next o label s p i before held q x → AcceptedAt o label s p (i + 1) q held x
accepted n = record { went = n.is; channels = n.stands; frames = ap (λ (j : Places). j.frames) n.same }

module _ {o : Order} {label : Label} {s : List ℕ} {p i : ℕ} {before : Std.Option Places} {held : Option R.Held} {q : Places} {x : R.Placed}
    (done : List R.Placed) (many : length done ≡ i) (n : Next o label s p i before held q x) where
  events-more : events_of label 1 (done ++ (x ∷ [])) ≡ events_of label 1 done ++ events_one label (i + 1) x
  events-more = let m : 1 + length done ≡ i + 1 = omega arith in rw m at (events-last label 1 done x)

  -- the file header and the recordings that are passed are counted
  pub counted_next : {sum : ℕ} (m : ℕ) (a : Std.Option Measure) → MeasuredAt o label s p q a → m ≡ length_in a → sum ≡ length_anew label done →
      sum + m ≡ length_anew label (done ++ (x ∷ []))
  counted_next m a g e h =
      let z : length_in a ≡ size (events_one label (i + 1) x) = given-size label a (i + 1) x (g.told held (i + 1) x (accepted n)) in
      omega (arith, h, e, z, ap size events-more, size-append (events_of label 1 done) (events_one label (i + 1) x))

  -- and stand behind the header
  pub written_next : (to : Order) {out₀ out : List ℕ} {k : ℕ} (out' : List ℕ) (k' : ℕ) →
      ((held : Option R.Held) (y : R.Placed) → AcceptedAt o label s p (i + 1) q held y → Pastes out out' k k' (render to (events_one label (i + 1) y))) →
      AfterHeader out₀ out k (render to (events_of label 1 done)) → AfterHeader out₀ out' k' (render to (events_of label 1 (done ++ (x ∷ []))))
  written_next to out' k' g h = rw (events-more, render-append to (events_of label 1 done)) (after_more h out' k' _ (g held x (accepted n)))
