-- The answer of `turn` is the one that the rules fix for the file and the buffer, by what the calls in it say.
-- Assumes nothing.
use Rattle.std.proofs.Common.{Ok, Err}
use Rattle.rules.specs.declared.Refusal.{Refusal}
use mathlib.Core.Path.{◌≡◌, refl, sym, ap, ◌∙◌}
use mathlib.Core.List.{List, ◌++◌}
use mathlib.Core.Option.{Option}
use Prim.Native.Nat.{ℕ}
use lib.ListN.{length}
use Rattle.words.specs.Numbers.{other}
use Rattle.words.specs.Runs.{pasted}
use Rattle.words.specs.declared.Order.{Order}
use Rattle.walk.specs.Walk.{Event, refused}
use Rattle.walk.specs.Tell.{tell}
use Rattle.walk.specs.Trace.{trace}
use Rattle.walk.proofs.Tracing.{trace-bind, trace-give, render-append}
use Rattle.rules.specs.Reasons.{number_of}
use Rattle.rules.specs.Rules as R
use Rattle.rules.specs.Rules.{file_header, file}
use Rattle.rules.specs.Turned as T
use Rattle.rules.specs.declared.FileHeader.{FileHeader}
use Rattle.rules.proofs.Rows.{judge-trace}
use Rattle.rules.proofs.Turn.{turned-of}
use Rattle.judge.specs.Judged.{AcceptedAs}
use Rattle.judge.proofs.Accepted.{behind_header, headed, walked, opens, listed}
use Rattle.bodies.specs.Copy.{copy}
use Rattle.makers.specs.Makers.{first_maker}
use Rattle.permit.specs.Permit.{Answer, meaning, permitted}
use Rattle.permit.proofs.Settled.{stopped, wrote}
use Rattle.turn.specs.Turn.{answer_of, Turns}
use Rattle.turn.specs.Steps.{turning}

-- a file that is refused
pub turns-refused : (s out : List ℕ) (r : Refusal) → R.judge s ≡ refused (number_of r.0) r.1 → Turns s out out (Err r)
turns-refused s out r h = record { answer = rw h; buffer = rw h }

-- a file that is accepted
module _ (s : List ℕ) (h : FileHeader) (x : AcceptedAs s h) where
  module _ (out : List ℕ) {m : Option ℕ} (made : m ≡ first_maker (tell h.order 0 s 32 (walked s h x))) where
    -- leave to write is the answer
    answers : {y : Answer} → y ≡ permitted m (length s) (length out) → y ≡ answer_of s (length out)
    answers e = rw (x.judged, listed s h x, ← made) e

    pub turns_stopped : (r : Refusal) → meaning (Err r) ≡ permitted m (length s) (length out) → Turns s out out (Err r)
    turns_stopped r e = stopped (answer_of s (length out)) (T.turned s) out (Err r) (answers e) refl

    -- its header and its recordings, written, are the turned file
    sent : copy (turning h.order h.heading.label) 0 s 0 (file_header (length s)) ++ copy (turning h.order h.heading.label) 0 s 32 (walked s h x) ≡ T.turned s
    unfolding file
    sent =
        let o : Order = h.order in
        let t : List Event = trace o 0 s 0 (file_header (length s)) in
        let e : x.events ≡ t ++ trace o 0 s 32 (walked s h x) =
        rw x.order (judge-trace s x.judged) ∙ (trace-bind o 0 s 0 (file_header (length s)) (behind_header (length s)) (opens s h x) ∙ ap
        (λ (u : List Event). t ++ u) (trace-give {B = R.File} o 0 s 32 (walked s h x) (λ l. record { heading = (headed s h x).heading; recordings = l })))
        in
        sym (turned-of s x.judged ∙ rw (← x.order, e) (render-append (other o) t (trace o 0 s 32 (walked s h x))))

    pub turns-room : (n : ℕ) (out' : List ℕ) → meaning (Ok n) ≡ permitted m (length s) (length out) →
        out' ≡ pasted out 0 (copy (turning h.order h.heading.label) 0 s 0 (file_header (length s)) ++ copy (turning h.order h.heading.label) 0 s 32
        (walked s h x)) → Turns s out out' (Ok n)
    turns-room n out' e w = wrote (answer_of s (length out)) (T.turned s) out out' (Ok n) (answers e) refl (w ∙ ap (pasted out 0) sent)
