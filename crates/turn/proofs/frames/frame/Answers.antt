-- `turn::frames::frame` meets its contract: its head, what fills it and the bytes behind that are written one behind the other.
-- Assumes nothing.
use mathlib.Core.Path.{◌≡◌, refl}
use Prim.Native.Nat.{◌+◌, ◌-◌}
use native.Mathlib.Omega.{arith}
use lib.ListN.{length, take, drop, length-take, length-drop}
use Rattle.rules.specs.Rules.{sample_bytes}
use Rattle.turn.proofs.Turning.{frame-copied}
use Rattle.turn.proofs.frames.frame.Goals as goal

pub returns : goal.returns
returns c b room i ch st e =
    let a = c.args in
    let s = a.s.now in
    let m : length (take (a.filled - 16) (drop 16 s)) ≡ 8 + sample_bytes a.t ch = simp (length-take, length-drop) (omega arith) in
    frame-copied a.w b s a.d.now a.t a.filled room i ch _ _ _ _ _ c.requires.least c.requires.part.least c.requires.part.room e
    (c.numbers.ensures b) refl (c.frame_body.ensures (b + 16) ch st.count st.kept m) refl c.copy_run.ensures
