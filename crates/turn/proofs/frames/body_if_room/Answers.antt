-- `turn::frames::body_if_room` meets its contract: where the walk accepts the body, no test of the code fails, and it is written where there is room.
-- x: behind its three numbers. Assumes nothing.
use mathlib.Core.Path.{◌≡◌, sym, ap}
use mathlib.Core.List.{List}
use Prim.Native.Nat.{ℕ, ◌+◌}
use native.Mathlib.Omega.{arith}
use lib.ListN.{length}
use Rattle.walk.specs.See.{see, goes}
use Rattle.rules.specs.Rules as R
use Rattle.bodies.specs.Copy.{copy}
use Rattle.bodies.proofs.Copying.{pastes-whole, pastes-full}
use Rattle.turn.proofs.Turning.{FramesTurned, framed, framed-length, framed-fits}
use Rattle.turn.proofs.frames.body_if_room.Goals as goal
use Rattle.turn.proofs.frames.body_if_room.Goals.{After-field-count, Else-out-k}

-- what an accepted body says of its numbers
told : (x : After-field-count) →
    let a = x.args in
    let s = a.s.now in
    (b : ℕ) (c : R.Basic) (ch : List R.Channel) (hd : R.Head) (f : R.Frames) (e : ℕ) → R.span hd ≡ 16 + length s →
    see a.w.from b s b (R.frames_body a.w.label c ch hd) ≡ goes f e →
    FramesTurned a.w b s ch x.field-t.result x.field-size.result x.field-count.result (copy a.w b s b (R.frames_body a.w.label c ch hd))
told x b c ch hd f e fills g =
    let a = x.args in
    framed a.w b a.s.now c ch hd fills g _ _ _ (sym x.field-t.ensures.0) (sym x.field-size.ensures.0) (sym x.field-count.ensures.0)

pub returns-then-t-gt-MOST_SECONDS : goal.returns-then-t-gt-MOST_SECONDS
returns-then-t-gt-MOST_SECONDS c = record {
  inside = c.requires.target;
  wrote = λ b k ch hd f e st fills g. absurd (omega (
    arith,
    c.if-t-gt-MOST_SECONDS.true,
    (told (goal.at.returns-then-t-gt-MOST_SECONDS c).After-field-count b k ch hd f e fills g).short,
  ));
}

pub returns-then-not-fits : goal.returns-then-not-fits
returns-then-not-fits c =
    let r = c.fits in
    let m = c.sample_bytes-bytes in
    record {
      inside = c.requires.target;
      wrote = λ b k ch hd f e st fills g. absurd (framed-fits (told (goal.at.returns-then-not-fits c).After-field-count b k ch hd f e fills g) m.result
          r.result (m.ensures ch st.count st.kept) r.ensures (c.if-not-fits.true));
    }

pub returns-then-out-k : goal.returns-then-out-k
returns-then-out-k c =
    let a = c.args in
    record {
      inside = c.requires.target;
      wrote = λ b k ch hd f e st fills g.
          pastes-full a.out.now a.out.now a.k a.k (copy a.w b a.s.now b (R.frames_body a.w.label k ch hd))
          (omega (arith, c.if-out-k.true, framed-length a.w b a.s.now k ch hd fills g c.requires.fields));
    }

pub returns : goal.returns
returns c =
    let a = c.args in
    let s = a.s.now in
    let m = c.sample_bytes-bytes in
    record {
      inside = omega (arith, c.if-out-k.false, c.requires.target);
      wrote = λ b k ch hd f e st fills g.
          pastes-whole a.out.now _ (copy a.w b s b (R.frames_body a.w.label k ch hd)) a.k (a.k + length s)
          (c.frames_body.ensures b k ch hd f e st (ap (λ (i : ℕ). 24 + i) (m.ensures ch st.count st.kept)) (sym c.field-t.ensures.0)
          (sym c.field-size.ensures.0) (sym c.field-count.ensures.0) fills g)
          (omega (arith, framed-length a.w b s k ch hd fills g c.requires.fields));
    }
