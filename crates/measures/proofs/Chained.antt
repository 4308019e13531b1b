-- The events that a walk accepted over the bytes, with every byte that is not judged zero, are those that the canonical form writes of what it gave.
-- Assumes nothing.
use mathlib.Core.Path.{◌≡◌, refl, ◌∙◌}
use mathlib.Core.List.{List, ◌++◌, append_assoc}
use mathlib.Core.Option.{Option}
use Prim.Native.Nat.{ℕ, ◌+◌, ◌-◌, ◌≤◌, ◌<◌}
use native.Mathlib.Omega.{arith}
use lib.ListN.{length, drop}
use Rattle.words.specs.Numbers.{Bytes}
use Rattle.words.specs.declared.Order.{Order}
use Rattle.words.proofs.Words.{bytes_drop}
use Rattle.walk.specs.Walk.{Walk, Outcome, refused, passed, run}
use Rattle.walk.specs.Plays.{Plays}
use Rattle.walk.specs.See.{goes, see, Stays}
use Rattle.walk.specs.Trace.{trace}
use Rattle.walk.proofs.Apart.{stops-goes}
use Rattle.walk.proofs.Laws.{read_of}
use Rattle.walk.proofs.Seen.{seen}
use Rattle.walk.proofs.Tracing.{traces}
use Rattle.walk.proofs.Went.{goes_same}
use Rattle.rules.specs.Canonical.{numerals, record_of, frames_head, frames_written, maker_events, delimiter_events, content}
use Rattle.rules.specs.Rules.{Frame, Maker, Next, next, Held, Descriptions, descriptions}
use Rattle.rules.specs.declared.Label.{Label}
use Rattle.rules.proofs.Room.{stays-next, stays-descriptions}
use Rattle.rules.proofs.Written.{tables_events, tables-written, next-written}
use Rattle.measures.proofs.Canonic.{bare}

-- a walk that went on over bytes accepts the events that it comes to
pub trace-plays : {A : Type 0} (o : Order) (b : ℕ) (s : List ℕ) (L : ℕ) → L ≤ b + length s → Bytes s →
    (w : Walk A) (at : ℕ) (Q : A → ℕ → Type 0) {a : A} {e : ℕ} → b ≤ at → Stays L at w Q → see o b s at w ≡ goes a e →
    Plays (trace o b s at w) w a
trace-plays {A} o b s L fit bytes w at Q {a} {e} g h k = go (run o at (drop (at - b) s) w) refl
  where
    go : (y : Outcome A) → run o at (drop (at - b) s) w ≡ y → Plays (trace o b s at w) w a
    go (refused n p) i = stops-goes (rw i at (seen o b s L fit w at Q g h) ∙ k)
    go (passed x r t) i =
        let v = rw i at (seen o b s L fit w at Q g h) ∙ k in
        rw (← traces o b s L fit w at Q g h i, ← (goes_same v).0) (read_of w o at (drop (at - b) s) (bytes_drop (at - b) s bytes) i).plays

module _ (o : Order) (b : ℕ) (s : List ℕ) (bytes : Bytes s) where
  pub tables-bare : (label : Label) (held : Option Held) (n : ℕ) {t : Descriptions} {e : ℕ} → n ≤ length s + 16 →
      see o b s b (descriptions label held n) ≡ goes t e →
      bare o b s b (descriptions label held n) ≡ tables_events label t ++ numerals t.montage.next.head
  tables-bare label held n l g = tables-written label held n
      (trace-plays o b s (b + (n - 16)) (omega arith) bytes (descriptions label held n) b _ (omega arith) (stays-descriptions label held n b) g)

  -- makers' records and the head of another, with room up to the end of the part
  pub next-bare : (label : Label) (fuel at : ℕ) {n : Next} {e : ℕ} → b ≤ at → at ≤ b + length s → b + length s < at + fuel →
      see o b s at (next label fuel (b + length s - at)) ≡ goes n e →
      bare o b s at (next label fuel (b + length s - at)) ≡ maker_events n.makers ++ numerals n.head
  next-bare label fuel at g l f h =
      next-written label fuel (b + length s - at)
      (trace-plays o b s (b + length s) (omega arith) bytes (next label fuel (b + length s - at)) at _ g
      (stays-next label fuel (b + length s - at) fuel (b + length s) at (omega arith) (omega arith) (omega arith)) h)

-- the recording that these tables begin
pub content-tables : (label : Label) (t : Descriptions) (seconds : ℕ) (fs : List Frame) (ms : List Maker) →
    content label (record {
      basic = t.basic;
      own_channels = t.channels.own;
      channels = t.channels.value;
      own_patient = t.patient.own;
      patient = t.patient.value;
      own_events = t.events.own;
      events = t.events.value;
      own_montage = t.montage.own;
      montage = t.montage.value;
      seconds = seconds;
      frames = fs;
      makers₁ = t.next.makers;
      makers₂ = t.channels.next.makers;
      makers₃ = t.patient.next.makers;
      makers₄ = t.events.next.makers;
      makers₅ = t.montage.next.makers;
      makers₆ = ms;
    }) ≡ tables_events label t ++ (record_of (frames_head seconds t.channels.value fs)
    (frames_written seconds t.channels.value fs) ++ (maker_events ms ++ delimiter_events))
unfolding content
content-tables label t seconds fs ms = simp append_assoc
