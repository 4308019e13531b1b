-- Files under another version's label, all together.
-- Assumes nothing.
use mathlib.Core.Path.{◌≡◌}
use mathlib.Core.List.{List}
use Prim.Native.Nat.{ℕ}
use Rattle.words.specs.Numbers.{Bytes}
use Rattle.walk.specs.Walk.{Event, passed}
use Rattle.rules.specs.Rules.{File, judge}
use Rattle.rules.specs.declared.Version.{Version}
use Rattle.rules.specs.declared.Version.TheVariants as Version
use Rattle.labels.specs.Versions.{Newer, Older}
use Rattle.labels.proofs.Older.{relabelled-older, accepted-kept, in-file-order}
use Rattle.labels.proofs.Relabelled.{older-newer, same-reading, same-table}

module _ (s : List ℕ) (b : Bytes s) {v : File} {r : List ℕ} {t : List Event} (h : judge s ≡ passed v r t) where
  pub newer : Newer s v t
  newer = record { accepted = older-newer s b h; reading = same-reading s b h Version.V300; table = same-table s b h Version.V300 }

  pub older : (w : Version) → v.heading.label.version ≡ Version.V300 → Older w s v t
  older w e = record { judged = relabelled-older w s b h e; only = accepted-kept w s b h e; rising = in-file-order w s b h e }
