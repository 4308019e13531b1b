-- The rows and the events of an accepted file are those of the rules' walk over its bytes.
-- Assumes nothing.
use mathlib.Core.Path.{◌≡◌}
use mathlib.Core.List.{List}
use Prim.Native.Nat.{ℕ}
use native.Mathlib.Omega.{arith}
use lib.ListN.{length}
use Rattle.walk.specs.Tell.{tell}
use Rattle.walk.specs.Trace.{trace}
use Rattle.walk.specs.Walk.{Event, passed, rows}
use Rattle.walk.proofs.Tracing.{told, traces}
use Rattle.rules.specs.Rules.{File, file, order_of, judge}
use Rattle.rules.proofs.Refusals.{room}
use Rattle.rules.proofs.Turn.{whole-passed}

pub judge-rows : (s : List ℕ) {v : File} {r : List ℕ} {t : List Event} → judge s ≡ passed v r t → rows 0 t ≡ tell (order_of s) 0 s 0 (file (length s))
unfolding judge
judge-rows s h = told (order_of s) 0 s (length s) (omega arith) (file (length s)) 0 _ (omega arith) (room (length s)) (whole-passed (length s) _ h).is

pub judge-trace : (s : List ℕ) {v : File} {r : List ℕ} {t : List Event} → judge s ≡ passed v r t → t ≡ trace (order_of s) 0 s 0 (file (length s))
unfolding judge
judge-trace s h = traces (order_of s) 0 s (length s) (omega arith) (file (length s)) 0 _ (omega arith) (room (length s)) (whole-passed (length s) _ h).is
