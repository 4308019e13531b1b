-- A file that is accepted, by what its header says: how long it is, what the walks over its header and its recordings come to, and its rows.
-- Assumes nothing.
use Rattle.std.proofs.Common.{Result, Ok}
use Rattle.rules.specs.declared.Refusal.{Refusal}
use mathlib.Core.Path.{◌≡◌, ◌∙◌}
use mathlib.Core.List.{List}
use mathlib.Core.Option.{none}
use Prim.Native.Nat.{ℕ, ◌-◌, ◌≤◌}
use lib.ListN.{length}
use Rattle.words.specs.declared.Order.{Order}
use Rattle.walk.specs.Walk as W
use Rattle.walk.specs.Walk.{Walk, give, ◌>>=◌, ◌>>◌}
use Rattle.walk.specs.See.{goes, see}
use Rattle.walk.specs.Tell.{tell}
use Rattle.walk.proofs.Told.{tell-bind, tell-give, Silent, silent}
use Rattle.rules.specs.Rules.{FileHeader, Placed, File, order_of, file_header, recordings, file}
use Rattle.rules.specs.declared.FileHeader as Declared
use Rattle.rules.proofs.Rows.{judge-rows}
use Rattle.header.specs.Letters.{heading_of}
use Rattle.judge.specs.Judged.{AcceptedAs, JudgedAs}
use Rattle.judge.proofs.Verdicts.{accepted-seen}

-- the judge's answer where it is a header
pub accepted : {s : List ℕ} {a : Result Declared.FileHeader Refusal} {h : Declared.FileHeader} → a ≡ Ok h → JudgedAs s a → AcceptedAs s h
accepted e x = rw e at x

silent-file_header : (n : ℕ) → Silent (file_header n)
unfolding file_header ◌>>=◌ ◌>>◌
silent-file_header n = λ _ _ _ _ _ _ _. tt

-- the walk of a file behind its header
abbrev pub behind_header : ℕ → FileHeader → Walk File
behind_header n d = recordings d.heading.label d.count none (n - 32) 1 >>= λ rs. give (record { heading = d.heading; recordings = rs })

module _ (s : List ℕ) (h : Declared.FileHeader) (x : AcceptedAs s h) where
  -- its header, and the walk over its recordings
  abbrev pub headed : FileHeader
  headed = record { heading = heading_of h.heading; count = h.count }

  abbrev pub walked : Walk (List Placed)
  walked = recordings h.heading.label h.count none (length s - 32) 1

  pub accepted-long : 32 ≤ length s
  accepted-long = (accepted-seen s h x).long

  pub opens : see h.order 0 s 0 (file_header (length s)) ≡ goes headed 32
  opens = rw x.order (accepted-seen s h x).header

  pub went : see h.order 0 s 32 walked ≡ goes x.file.recordings (length s)
  went = rw x.order (accepted-seen s h x).recordings

  -- its rows are those of its recordings
  pub listed : W.rows 0 x.events ≡ tell h.order 0 s 32 walked
  unfolding file
  listed =
      let o : Order = order_of s in
      rw x.order
      (judge-rows s x.judged ∙ tell-bind o 0 s 0 (file_header (length s)) (behind_header (length s)) {a = headed} {e = 32} (accepted-seen s h x).header ∙
      rw (silent o 0 s 0 (file_header (length s)) (silent-file_header (length s)), tell-give {B = File} o 0 s 32 walked (λ l. record { heading = heading_of h.heading; recordings = l })))
