-- The answer of `rewrite` is the one that the rules fix for the file, the letter and the buffer, by what the calls in it say.
-- Assumes nothing.
use Rattle.std.proofs.Common.{Ok, Err, Some}
use Rattle.rules.specs.declared.Refusal.{Refusal}
use mathlib.Core.Path.{◌≡◌, refl, sym, ap, ◌∙◌}
use mathlib.Core.List.{List, map}
use mathlib.Core.Option.{Option}
use Prim.Native.Nat.{ℕ, ◌≤◌, ◌<◌}
use native.Mathlib.Omega.{arith}
use borrow.Author.Tests.{leb-true}
use lib.Dec.{leb}
use lib.ListN.{length, length-map, length-append}
use Rattle.words.specs.Numbers.{Bytes}
use Rattle.words.specs.Runs.{pasted}
use Rattle.words.specs.declared.Order.{Order}
use Rattle.walk.specs.Walk.{refused, render}
use Rattle.walk.proofs.Laws.{length-render}
use Rattle.walk.proofs.Tracing.{render-append}
use Rattle.rules.specs.Reasons.{number_of}
use Rattle.rules.specs.Rules as R
use Rattle.rules.specs.Canonical as C
use Rattle.rules.specs.declared.FileHeader.{FileHeader}
use Rattle.rules.proofs.Canon.{ContentsOk, file-ok, header-size}
use Rattle.rules.proofs.Renew.{and-true}
use Rattle.rules.proofs.Rewrite.{rewritten-of, reading-words}
use Rattle.rules.proofs.Turn.{accepted}
use Rattle.header.specs.Letters.{lettered, heading_of}
use Rattle.judge.specs.Judged.{AcceptedAs}
use Rattle.children.specs.Recordings.{rows_of}
use Rattle.judge.proofs.Accepted.{listed}
use Rattle.makers.specs.Makers.{first_maker}
use Rattle.permit.specs.Permit.{Answer, meaning, permitted}
use Rattle.permit.proofs.Settled.{stopped, wrote}
use Rattle.rewrite.specs.RecordingsAnew.{file_anew, length_anew}
use Rattle.rewrite.specs.Rewrite.{barrier, answer_of, rewritten_in, Rewrites}

-- a file that is refused
pub rewrites-refused : (s : List ℕ) (order : ℕ) (out : List ℕ) (r : Refusal) → R.judge s ≡ refused (number_of r.0) r.1 → Rewrites s order out out (Err r)
rewrites-refused s order out r h = record { answer = rw h; buffer = rw h }

-- a file that is accepted
module _ (s : List ℕ) (b : Bytes s) (h : FileHeader) (x : AcceptedAs s h) where
  abbrev recorded : List R.Recording
  recorded = map (λ p. p.recording) x.file.recordings

  ok : ContentsOk (R.contents x.file)
  ok = file-ok (length s) (accepted s b x.judged).plays

  counted : length recorded ≡ h.count
  counted = length-map x.file.recordings (λ (p : R.Placed). p.recording) ∙ sym x.count

  pub few : h.count ≤ 64
  unfolding R.between
  few = omega (arith, leb-true (length recorded) 64 (and-true (leb 1 (length recorded)) _ ok.header.count).1, counted)

  pub script-low : h.heading.script < 256
  script-low = rw (ap (λ (g : R.Heading). g.script) x.heading) ok.header.byte

  -- the canonical file: its header and its recordings
  anew : (to : Order) → file_anew to h.heading h.count x.file.recordings ≡ C.rewritten to s
  unfolding C.anew
  anew to =
      let e = rewritten-of to s x.judged ∙ ap (λ (v : R.Contents). render to (C.anew v)) (reading-words s b x.judged) in
      sym (e ∙ rw (← x.heading, counted) (render-append to (C.header_events (heading_of h.heading) h.count) (C.recording_events h.heading.label 1 recorded)))

  module _ (order : ℕ) (to : Order) (names : lettered order ≡ Some to) (need : ℕ) (long : need ≡ length_anew h.heading.label x.file.recordings)
      (out : List ℕ) {m : Option ℕ} (made : m ≡ barrier h.order to (first_maker (rows_of h.order h.heading.label s h.count))) where
    pub length-anew : length (C.rewritten to s) ≡ need
    length-anew =
        let e = length-append (render to (C.header_events (heading_of h.heading) h.count)) (render to (C.recording_events h.heading.label 1 recorded)) in
        let f : length (render to (C.header_events (heading_of h.heading) h.count)) ≡ 32 =
        length-render to (C.header_events (heading_of h.heading) h.count) ∙ header-size (heading_of h.heading) h.count
        (rw (x.heading, ← counted) ok.header) in
        omega (arith, ap length (anew to), e, f, length-render to (C.recording_events h.heading.label 1 recorded), long)

    -- leave to write is the answer
    answers : {y : Answer} → y ≡ permitted m need (length out) → y ≡ answer_of s order (length out)
    answers e = rw (x.judged, names, listed s h x, ← x.order, length-anew, ← made) e

    pub rewrites-stopped : (r : Refusal) → meaning (Err r) ≡ permitted m need (length out) → Rewrites s order out out (Err r)
    rewrites-stopped r e = stopped (answer_of s order (length out)) (rewritten_in (lettered order) s) out (Err r) (answers e) refl

    pub rewrites-room : (n : ℕ) (out' : List ℕ) → meaning (Ok n) ≡ permitted m need (length out) →
        out' ≡ pasted out 0 (file_anew to h.heading h.count x.file.recordings) → Rewrites s order out out' (Ok n)
    rewrites-room n out' e w =
        wrote (answer_of s order (length out)) (rewritten_in (lettered order) s) out out' (Ok n) (answers e) refl
        (w ∙ ap (pasted out 0) (anew to ∙ rw names refl))
