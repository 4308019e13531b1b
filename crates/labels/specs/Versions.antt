-- Files under another version's label: what is proved of every list of bytes, in `proofs/Versions.antt`.
-- Assumes nothing.
use Rattle.std.specs.Prelude.{◌≡◌, List, [], ℕ, length}
use Rattle.walk.specs.Faults.{first, Rising}
use Rattle.walk.specs.Walk.{Event, passed, rows}
use Rattle.rules.specs.Reading as Reading
use Rattle.rules.specs.Rules.{File, judge}
use Rattle.rules.specs.declared.Version.{Version}
use Rattle.rules.specs.declared.Version.TheVariants as Version
use Rattle.labels.specs.Breaches.{breaches_of}
use Rattle.labels.specs.Relabelled.{relabelled, relabelled_events, with_version, reading_with}

-- of a file that is accepted, of any version, with only its version changed to 000300
pub record Newer (s : List ℕ) (v : File) (t : List Event) : Type 0 where
  -- it is accepted
  pub accepted : judge (relabelled Version.V300 s) ≡ passed (with_version Version.V300 v) [] (relabelled_events Version.V300 t)
  -- with the same reading but for the version
  pub reading : Reading.reading (with_version Version.V300 v) ≡ reading_with Version.V300 (Reading.reading v)
  -- and with the same table
  pub table : rows 0 (relabelled_events Version.V300 t) ≡ rows 0 t

-- of a file of 000300 that is accepted, with only its version changed to this one
pub record Older (w : Version) (s : List ℕ) (v : File) (t : List Event) : Type 0 where
  -- it is refused at its first breach of that version's rules; where there is none, it is accepted with the same reading but for the version
  pub judged : judge (relabelled w s) ≡ first (breaches_of w t) (passed (with_version w v) [] (relabelled_events w t))
  -- it is accepted only where there is none
  pub only : {v' : File} {r' : List ℕ} {t' : List Event} → judge (relabelled w s) ≡ passed v' r' t' → breaches_of w t ≡ []
  -- the breaches stand in file order, behind the version and within the file
  pub rising : Rising 14 (breaches_of w t) (length s)
