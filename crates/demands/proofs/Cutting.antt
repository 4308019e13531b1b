-- Demands 1 to 3, of `part`: whatever the place is, a part of the file; C is told where it begins and how long it is; and at the place of samples it is
-- the reading's samples.
-- Assumes nothing.
use mathlib.Core.Path.{◌≡◌, refl, sym, ap, ◌∙◌}
use mathlib.Core.List.{List}
use Prim.Native.Nat.{ℕ, ◌+◌}
use denote.Bor.{Bor}
use lib.ListN.{length}
use Rattle.words.specs.Numbers.{Bytes, bytes_at}
use Rattle.walk.specs.Walk.{Event}
use Rattle.rules.specs.Reading.{reading}
use Rattle.rules.specs.Rules as R
use Rattle.recordings.specs.Answers.{value}
use Rattle.samples.specs.Placed.{place_of, part_in, bytes_of, PartAnswer, values_at}
use Rattle.samples.specs.declared.Cut.{Cut}
use Rattle.samples.specs.declared.Place.{Place}
use Rattle.samples.proofs.Placing.{part-inside, part-outside, part-within, bytes-many, placed-from}
use Rattle.questions.specs.Tied.{format_in}
use Rattle.questions.proofs.Readings.{alike-value}
use Rattle.questions.proofs.Showing.{place-samples}
use Rattle.answers.specs.declared.Part as PartC
use Rattle.psg.specs.Calls.{PartAnswers}
use Rattle.demands.specs.Demands.{Shown, PartTold, Accepted, PartIs}

module _ (file : Bor (List ℕ)) (p : Place) where
  abbrev cut : Cut
  cut = part_in (length file.now) p

  module _ (r : Bor (List ℕ)) (x : PartAnswer file p r) where
    pub part-long : length r.now ≡ cut.length
    part-long = ap length x.bytes ∙ bytes-many file.now p

    pub shown : Shown file p r
    shown = record {
      at = cut.start;
      block = x.block;
      offset = x.offset;
      inside = rw part-long (part-within (length file.now) p);
      bytes = x.bytes ∙ ap (λ (n : ℕ). bytes_at n file.now cut.start) (sym part-long);
      all = λ l. let e = part-inside (length file.now) p l in (ap (λ (q : Cut). q.start) e, part-long ∙ ap (λ (q : Cut). q.length) e);
      none = λ l. let e = part-outside (length file.now) p l in (ap (λ (q : Cut). q.start) e, part-long ∙ ap (λ (q : Cut). q.length) e);
    }

    -- at the place of samples
    pub part-is : Bytes file.now → {v : R.File} {t : List Event} → Accepted file.now v t → (i j k : ℕ) → value p ≡ place_of file.now i j k → PartIs (reading v) i j k file p r
    part-is b h i j k e =
        let w = alike-value (place-samples file.now b h i j k) (sym e) in
        let y = shown.all (placed-from file.now b i j k (sym e)).inside in
        record {
          offset = shown.offset ∙ ap (λ (n : ℕ). file.ref_ptr.1 + n) y.0;
          long = y.1;
          channel = w.like.channel;
          described = w.like.described;
          shows = w.is ∙ ap value (sym w.like.shows ∙ ap (λ (z : List ℕ). values_at (R.order_of file.now) (format_in w.like.channel) p.count z 0) (sym x.bytes));
        }

  pub part-told : (a : PartC.Part) → PartAnswers (length file.now) p.position p.width p.count a → PartTold file p a
  part-told a x = record {
    told = record { ref_ptr = (file.ref_ptr.0, file.ref_ptr.1 + cut.start); now = bytes_of file.now p };
    met = record { bytes = refl; block = refl; offset = refl };
    start = λ r y. y.offset ∙ ap (λ (c : PartC.Part). file.ref_ptr.1 + c.start) (sym x);
    long = λ r y. part-long r y ∙ ap (λ (c : PartC.Part). c.length) (sym x);
  }
