-- `rewrite::recordings::measure_at` meets its contract: an accepted recording's 140 stands inside it, and its body is a part of the file.
-- Assumes nothing.
use mathlib.Core.Path.{◌≡◌}
use mathlib.Core.List.{List}
use mathlib.Core.Option.{Option}
use Prim.Native.Nat.{ℕ, ◌+◌, ◌-◌, ◌≤◌}
use native.Mathlib.Omega.{arith}
use lib.ListN.{length, take, drop, length-drop}
use lib.Seq.{length-take-le}
use Rattle.words.specs.Numbers.{Bytes}
use Rattle.words.specs.declared.Order.{Order}
use Rattle.words.proofs.Words.{bytes}
use Rattle.rules.specs.Rules.{Held, Placed}
use Rattle.rules.specs.declared.Label.{Label}
use Rattle.descriptions.specs.declared.Places.{Places}
use Rattle.children.proofs.Recordings.{within}
use Rattle.measures.proofs.Lengths.{within-at}
use Rattle.rewrite.specs.RecordingsAnew.{StandsIn, AcceptedAt}
use Rattle.rewrite.proofs.recordings.measure_at.Goals as goal

-- an accepted recording's 140 stands inside it
inside : (o : Order) (label : Label) (s : List ℕ) (p : ℕ) (q : Places) → StandsIn (length s) p q → Bytes s → (held : Option Held) (i : ℕ) (x : Placed) →
    AcceptedAt o label s p i q held x → (p + 16 ≤ q.frames) × (q.frames ≤ q.end)
inside o label s p q stands b held i x y = within-at b stands.end (within o label s p q.end held i y.went) q.frames y.frames

pub returns-then-end-base : goal.returns-then-end-base
returns-then-end-base c =
    let a = c.args in
    let b = bytes a.file.now (λ i. (c.type_inv.file i).fits) in
    record {
      bounds = tt;
      reads = tt;
      told = λ held i x v. absurd (omega (arith, c.then-end-base.either, inside a.o a.label a.file.now a.p a.q c.requires b held i x v));
    }

pub returns : goal.returns
returns c =
    let a = c.args in
    let s = a.file.now in
    let n = a.q.end - (a.p + 16) in
    let r = c.measure_of.ensures in
    let l : length (take n (drop (a.p + 16) s)) ≡ n = length-take-le n (drop (a.p + 16) s) (rw length-drop (omega (arith, c.requires.end))) in
    record {
      bounds = rw l at r.bounds;
      reads = r.reads;
      told = λ held i x y.
          let w = within a.o a.label s a.p a.q.end held i y.went in
          r.told held w.top x a.q.end w.fills y.channels (omega (arith, y.frames, c.if-q-base.false)) w.body;
    }
