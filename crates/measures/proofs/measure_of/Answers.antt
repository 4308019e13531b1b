-- `measures::measure_of` meets its contract: where the walk accepts the recording's body, no test of the code fails,
-- and what is measured is the recording's measure.
-- h: the head of the 140, which stops at q; d: the head that follows. Assumes nothing.
use Rattle.std.proofs.Common.{Ok}
use Rattle.measures.proofs.Gone.{kept, lost}
use mathlib.Core.Path.{◌≡◌, sym, ap, ◌∙◌}
use mathlib.Core.Option.{Option}
use Prim.Native.Nat.{ℕ, ◌+◌, ◌-◌, ◌*◌, ◌≤◌}
use native.Mathlib.Omega.{arith}
use lib.ListN.{length, take, drop}
use Rattle.words.proofs.Words.{bytes}
use Rattle.walk.specs.See.{goes, see}
use Rattle.walk.proofs.Seen.{body-length}
use Rattle.walk.proofs.Went.{goes_same}
use Rattle.rules.specs.Rules as R
use Rattle.records.specs.Says.{head_of, HeadAt, NextHead}
use Rattle.records.proofs.Facts.{both_true}
use Rattle.signals.proofs.FramesBody.{Fields}
use Rattle.measures.specs.Measures.{MeasureIn}
use Rattle.measures.proofs.Lengths.{Accepted, accepted}
use Rattle.measures.proofs.Measures.{measure-bounded, measure-each, measure-unread, measure-refused, measure-alone, measure-fields, measure-fits, measure-told}
use Rattle.measures.proofs.measure_of.Goals as goal
use Rattle.measures.proofs.measure_of.Goals.{In_ok-h, In_ok-d, In_ok-end, Then-t-gt-MOST_SECONDS}

-- the 140's head is read
top : (c : In_ok-h) → HeadAt c.args.o c.args.base c.args.s.now c.args.at (Ok c.in_ok-h.h)
top c = rw (kept _ c.in_ok-h.ensures.value) at c.head_at.ensures

-- the body that the walk accepts
went : (c : In_ok-h) (held : Option R.Held) (r : R.Head) (x : R.Placed) (e : ℕ) →
    R.span r ≡ 16 + length c.args.s.now →
    see c.args.o c.args.base c.args.s.now c.args.base (R.recording_body c.args.label held r) ≡ goes x e →
    Accepted c.args.o c.args.label c.args.base c.args.s.now x
went c held r x e fills g =
    let a = c.args in
    accepted a.o a.label a.base a.s.now (bytes a.s.now (λ i. (c.type_inv.s i).fits)) r fills held g

-- its length is admitted
stop : (c : In_ok-end) →
    let span = R.span (head_of c.in_ok-h.h) in
    (c.in_ok-end.end ≡ c.in_ok-h.h.at + span) × (c.in_ok-end.end ≤ length c.args.s.now) × (32 ≤ span)
stop c = rw (kept _ c.in_ok-end.ensures.value) at c.admit.ensures.stands

-- another head follows
follows : (c : In_ok-d) → NextHead c.args.o c.args.label c.args.base c.args.s.now c.in_ok-end.end (Ok c.in_ok-d.d)
follows c = rw (kept _ c.in_ok-d.ensures.value) at c.next_head.ensures

-- what the walk says of the numbers, where it accepts the body as x
fields : (c : Then-t-gt-MOST_SECONDS) (x : R.Placed) (v : Accepted c.args.o c.args.label c.args.base c.args.s.now x) →
    16 + c.args.at ≡ x.layout.at140 →
    Fields c.field-t.result c.field-size.result c.field-count.result x.recording.channels v.before.basic v.value (R.span (head_of c.in_ok-h.h))
fields c x v is =
    let h = top (goal.at.Then-t-gt-MOST_SECONDS c).In_ok-h in
    let q = stop (goal.at.Then-t-gt-MOST_SECONDS c).In_ok-end in
    measure-fields v _ is _ h.seen h.stands.0 _ q.0 q.1 q.2 _ _ _ c.field-t.ensures.0 c.field-size.ensures.0 c.field-count.ensures.0

pub returns-in_err-h : goal.returns-in_err-h
returns-in_err-h c =
    let a = c.args in
    let text = bytes a.s.now (λ i. (c.type_inv.s i).fits) in
    rw c.from_residual.ensures (record {
      bounds = tt;
      reads = tt;
      told = λ held r x e fills here w g.
          measure-unread (accepted a.o a.label a.base a.s.now text r fills held g) a.at w
          (rw (lost _ c.in_err-h.ensures.value).1 at c.head_at.ensures.seen);
    })

pub returns-in_err-end : goal.returns-in_err-end
returns-in_err-end c =
    let b = (goal.at.returns-in_err-end c).In_ok-h in
    let h = top b in
    rw c.from_residual-in_err-end.ensures (record {
      bounds = tt;
      reads = tt;
      told = λ held r x e fills here w g.
          measure-refused (went b held r x e fills g) _ w _ h.seen h.stands.0
          ((rw (lost _ c.in_err-end.ensures.value).1 at c.admit.ensures.seen) c.args.o c.args.base c.args.s.now);
    })

pub returns-in_err-d : goal.returns-in_err-d
returns-in_err-d c =
    let b = (goal.at.returns-in_err-d c).In_ok-h in
    let h = top b in
    rw c.from_residual-in_err-d.ensures (record {
      bounds = tt;
      reads = tt;
      told = λ held r x e fills here w g.
          measure-alone (went b held r x e fills g) _ w _ h.seen h.stands.0 _ (stop (goal.at.returns-in_err-d c).In_ok-end).0
          (rw (lost _ c.in_err-d.ensures.value).1 at c.next_head.ensures.seen);
    })

pub returns-then-t-gt-MOST_SECONDS : goal.returns-then-t-gt-MOST_SECONDS
returns-then-t-gt-MOST_SECONDS c =
    let b = (goal.at.returns-then-t-gt-MOST_SECONDS c).In_ok-h in
    record {
      bounds = tt;
      reads = tt;
      told = λ held r x e fills here w g. absurd (omega (arith, c.if-t-gt-MOST_SECONDS.true, (fields c x (went b held r x e fills g) w).short));
    }

pub returns-then-not-fits : goal.returns-then-not-fits
returns-then-not-fits c =
    let y = goal.at.returns-then-not-fits c in
    let h = top y.In_ok-h in
    let q = stop y.In_ok-end in
    let b = c.sample_bytes-bytes in
    record {
      bounds = tt;
      reads = tt;
      told = λ held r x e fills here w g.
          measure-fits (went y.In_ok-h held r x e fills g) _ w _ h.seen h.stands.0 _ q.0 q.1 q.2 _ _ _
          c.field-t.ensures.0 c.field-size.ensures.0 c.field-count.ensures.0
          _ _ (b.ensures x.recording.channels here.count here.kept) c.fits.ensures c.if-not-fits.true;
    }

pub returns : goal.returns
returns c =
    let y = goal.at.returns c in
    let p = c.args in
    let h = top y.In_ok-h in
    let q = stop y.In_ok-end in
    let a = follows y.In_ok-d in
    let b = c.sample_bytes-bytes in
    let body = take (c.in_ok-end.end - (p.at + 16)) (drop (p.at + 16) p.s.now) in
    let w : (24 + b.result ≤ c.field-size.result) × (16 + c.field-size.result * c.field-count.result ≤ length body) =
    both_true _ _ _ _ _ c.fits.ensures c.if-not-fits.false in
    let l = body-length p.at c.in_ok-end.end p.s.now (omega (arith, h.stands, q)) q.1 in
    let span : R.Head → ℕ = λ z. p.at + R.span z in
    rw c.measure_for.ensures (record {
      bounds =
          measure-bounded _ _ _ _ _ _ _ _ (omega (arith, c.if-t-gt-MOST_SECONDS.false)) (omega arith) w.0 c.field-size.ensures.1
          (omega (arith, w.1, l, h.stands, q)) (omega (arith, a.stands)) a.stands.inside;
      reads =
          measure-each _ _ _ _ _ _ _ (MeasureIn p.o p.base p.s.now) (record {
            end = λ m z g. q.0 ∙ (ap (λ (z : ℕ). z + R.span (head_of c.in_ok-h.h)) h.stands.0 ∙ ap span (goes_same (sym h.seen ∙ g)).0);
            says = record { seconds = sym c.field-t.ensures.0; size = sym c.field-size.ensures.0; count = sym c.field-count.ensures.0 };
          });
      told = λ held r x m fills here is g.
          measure-told (went y.In_ok-h held r x m fills g) _ is _ h.seen h.stands.0 _ q.0 q.1 q.2 _ _ _
          c.field-t.ensures.0 c.field-size.ensures.0 c.field-count.ensures.0
          _ a.seen a.stands.inside _ (b.ensures x.recording.channels here.count here.kept);
    })
