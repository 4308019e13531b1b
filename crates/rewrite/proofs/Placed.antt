-- A recording that is written anew: its canonical form is its head and what stands behind it, as long as its measure says, and it stands where the code wrote
-- the two.
-- Assumes nothing.
use Rattle.std.proofs.Common.{Some}
use mathlib.Core.Path.{◌≡◌, sym, ap, ◌∙◌}
use mathlib.Core.Bool.{false}
use mathlib.Core.List.{List, [], ◌∷◌, ◌++◌, append-nil}
use mathlib.Core.Option.{Option}
use Prim.Native.Nat.{ℕ, ◌+◌, ◌≤◌}
use native.Mathlib.Omega.{arith}
use lib.ListN.{length, length-append}
use Rattle.words.specs.declared.Order.{Order}
use Rattle.words.specs.Runs.{pasted}
use Rattle.words.proofs.Fronts.{put}
use Rattle.words.proofs.Runs.{part-pasted, pasted-pasted}
use Rattle.walk.specs.Walk.{Event, render, size}
use Rattle.walk.proofs.Laws.{length-render}
use Rattle.rules.specs.Rules as R
use Rattle.rules.specs.declared.Label.{Label}
use Rattle.rules.specs.Canonical as C
use Rattle.rules.proofs.Canon.{recording-size}
use Rattle.rules.proofs.Renew.{record-size}
use Rattle.records.specs.Says.{subs_at}
use Rattle.descriptions.specs.declared.Places.{Places}
use Rattle.children.proofs.Recordings.{within}
use Rattle.bodies.specs.Copy.{Pastes}
use Rattle.bodies.specs.declared.Way.{Way}
use Rattle.measures.specs.Measures.{sized_for, behind_head}
use Rattle.measures.specs.declared.Sized.{Sized}
use Rattle.measures.specs.declared.Measure.{Measure}
use Rattle.rewrite.specs.RecordingsAnew.{AcceptedAt, body_in, MeasuredAt, BodyAnew}
use Rattle.rewrite.proofs.Framing.{render-record}

-- a head is 16 bytes long
head-length : (o : Order) (h : R.Head) → length (render o (C.numerals h)) ≡ 16
unfolding size
head-length o h = length-render o (C.numerals h)

-- a record that the code wrote in two, one behind the other: its head, and what stands behind it
pub record-placed : (o : Order) (h : R.Head) (t : List Event) (out ys zs : List ℕ) (k n m long : ℕ) → n ≡ 16 → 16 + m ≡ long → k ≤ length out →
    length (render o t) ≡ m → ys ≡ render o (C.numerals h) → zs ≡ render o t →
    Pastes out (put (k + 16) m (put k n out ys) zs) k (k + long) (render o (C.numerals h) ++ render o t)
record-placed o h t out ys zs k n m long f g l u p q =
    let first : length ys ≡ 16 = ap length p ∙ head-length o h in
    let one : put k n out ys ≡ pasted out k ys = part-pasted out ys k n (first ∙ sym f) in
    λ room. (
      omega (arith, length-append (render o (C.numerals h)) (render o t), head-length o h),
      part-pasted (put k n out ys) zs (k + 16) m (ap length q ∙ u)
          ∙ (ap (λ (d : List ℕ). pasted d (k + 16) zs) one
          ∙ (ap (λ (x : ℕ). pasted (pasted out k ys) (k + x) zs) (sym first)
          ∙ (pasted-pasted out k ys zs l ∙ rw (p, q)))),
    )

-- what stands behind it fills the record
behind-length : (o : Order) (label : Label) (r : R.Recording) → 16 + length (render o (behind_head label r)) ≡ R.span (C.recording_head label 0 r)
behind-length o label r = omega (
  arith,
  length-render o (behind_head label r),
  recording-size label 0 r,
  record-size (C.recording_head label 0 r)
      (behind_head label r),
)

module _ (o : Order) (label : Label) (i : ℕ) (r : R.Recording) where
  -- the two are the canonical form
  in_two : render o (C.recording_events label i (r ∷ [])) ≡ render o (C.numerals (C.recording_head label i r)) ++ render o (behind_head label r)
  unfolding C.recording_events
  in_two = ap (render o) (append-nil (C.record_of (C.recording_head label i r) (behind_head label r))) ∙ render-record o (C.recording_head label i r)
      (behind_head label r)

  module _ (w : Sized) (e : w ≡ sized_for (16 + size (C.content label r))) where
    -- it is as long as the size says
    pub recording-length : length (render o (C.recording_events label i (r ∷ []))) ≡ w.length
    recording-length =
        ap length in_two
        ∙ (length-append (render o (C.numerals (C.recording_head label i r))) (render o (behind_head label r))
        ∙ (omega (arith, head-length o (C.recording_head label i r), behind-length o label r) ∙ sym (ap (λ (x : Sized). x.length) e)))

    -- the code wrote the two one behind the other
    recording-placed : (out ys zs : List ℕ) (k n m : ℕ) → n ≡ 16 → 16 + m ≡ w.length → k ≤ length out →
        ys ≡ render o (C.numerals (record { size = w.size; code = 10; serial = i; multiplier = w.multiplier })) → zs ≡ render o (behind_head label r) →
        Pastes out (put (k + 16) m (put k n out ys) zs) k (k + w.length) (render o (C.recording_events label i (r ∷ [])))
    recording-placed out ys zs k n m f g l p q =
        rw in_two (record-placed o _ _ out ys zs k n m w.length f g l (omega (arith, behind-length o label r, ap (λ (x : Sized). x.length) e))
        (p ∙ ap (λ (x : Sized). render o (C.numerals (record { size = x.size; code = 10; serial = i; multiplier = x.multiplier }))) e) q)

-- the recording from byte p of the file on, of the measure f: the code wrote its head, and its body as a part of the file
module _ (w : Way) (file : List ℕ) (p i : ℕ) (q : Places) (f : Measure) where
  pub recording-written : (out ys zs : List ℕ) (k n m : ℕ) → n ≡ 16 → 16 + m ≡ f.whole.length → k ≤ length out → MeasuredAt w.from w.label file p q (Some f) →
      ys ≡ render w.to (C.numerals (record { size = f.whole.size; code = 10; serial = i; multiplier = f.whole.multiplier })) →
      BodyAnew w file (body_in file p q) zs (subs_at q.channels q.count) f (p + 16) →
      w.keep ≡ false → (held : Option R.Held) (x : R.Placed) → AcceptedAt w.from w.label file p i q held x →
      Pastes out (put (k + 16) m (put k n out ys) zs) k (k + f.whole.length) (render w.to (C.recording_events w.label i (x.recording ∷ [])))
  recording-written out ys zs k n m e₁ e₂ l t first later clear held x y =
      let v = within w.from w.label file p q.end held i y.went in
      let s = t.told held i x y in
      recording-placed w.to w.label i x.recording f.whole s.whole out ys zs k n m e₁ e₂ l first
      (later x (record {
        clear = clear;
        head = v.top;
        held = held;
        end = q.end;
        fills = v.fills;
        went = v.body;
        channels = y.channels;
        reads =
            t.reads;
        is = s;
      }))
