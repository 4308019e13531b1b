-- `records::frames::frame_at` meets its contract: a record that is refused before its body, or one whose body is tested. Assumes nothing.
use Rattle.rules.proofs.Handed.{handed}
use mathlib.Core.Path.{◌≡◌}
use Prim.Native.Nat.{◌+◌, ◌-◌}
use native.Mathlib.Omega.{arith}
use lib.ListN.{length}
use Rattle.walk.proofs.Seen.{walks}
use Rattle.rules.specs.Rules as R
use Rattle.rules.specs.Rules.{frame_body}
use Rattle.rules.proofs.Room.{stays-frame_body}
use Rattle.rules.specs.declared.Kind.TheVariants as Kind
use Rattle.records.specs.Says.{FramesOver, Advances, Reaches}
use Rattle.records.proofs.Bodies.{ended, frame_opened, body-held, ended-advances}
use Rattle.records.proofs.frames.frame_at.Goals as goal
use Rattle.records.proofs.frames.frame_at.Goals.{In_ok-end, After-frame_body}

-- the record that was opened: where it stands, and where it stops
reached : (x : In_ok-end) → Reaches x.args.p (Kind.Frame x.args.label x.args.size x.args.filled x.args.i) (length x.args.s.now) x.in_ok-end.field-0-0 x.in_ok-end.end
reached x = x.in_ok-end.ensures.stands

pub returns-in_err-end : goal.returns-in_err-end
returns-in_err-end c =
    rw (handed _ c.from_residual.ensures)
    (record { seen = (λ t cs e. simp (frame_opened, ← e, walks, c.in_err-end.ensures.seen)); stands = tt })

-- what its body comes to: where the record stops, or the body's refusal
held : (x : After-frame_body) → FramesOver x.args.o x.args.base x.args.s.now x.args.p x.args.filled (λ t cs. R.frame x.args.label x.args.size t cs (length x.args.s.now - x.args.p) x.args.i) (Advances x.args.p x.args.size (length x.args.s.now)) (ended x.frame_body.result x.in_ok-end.end)
held x =
    let v = reached (goal.at.After-frame_body x).In_ok-end in
    let o = x.args.o in
    let s = x.args.s.now in
    let b = x.args.base in
    let p = x.args.p in
    let q = x.in_ok-end.end in
    let a = x.frame_body.result in
    let n = x.args.size in
    let e : q ≡ p + n = omega (arith, v.end, v.spans) in
    record {
      seen = (λ t cs f. simp (frame_opened, ← f, walks, v.at, x.in_ok-end.ensures.seen)
          (body-held o b p q n s e (omega (arith, x.requires.timed, x.requires.inside)) v.inside (λ k. frame_body k t cs) (λ y. stays-frame_body n t cs y (omega (arith, f, x.requires.inside))) a (x.frame_body.ensures t cs f)));
      stands = ended-advances p n (length s) q a e v.inside;
    }

pub returns-in_err-frame_body : goal.returns-in_err-frame_body
returns-in_err-frame_body c = rw (handed _ c.from_residual-in_err-frame_body.ensures) (rw c.in_err-frame_body.was at (held (goal.at.returns-in_err-frame_body c).After-frame_body))

pub returns : goal.returns
returns c = rw c.in_ok-frame_body.was at (held (goal.at.returns c).After-frame_body)
