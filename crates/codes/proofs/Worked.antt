-- The kinds of some codes, as the checker computes them.
-- Assumes nothing.
use mathlib.Core.Path.{◌≡◌, refl}
use mathlib.Core.List.{List, [], ◌∷◌, map}
use Prim.Native.Nat.{ℕ}
use Rattle.recordings.specs.Answers.{value, outside}
use Rattle.codes.specs.Codes.{published, kind_in, kind_told}
use Rattle.codes.specs.declared.EventKind.{EventKind}

-- these codes are of this kind
abbrev Are : EventKind → List ℕ → Type 0
Are k cs = map kind_told cs ≡ map (λ c. value k) cs

pub nothing : Are EventKind.None (0x0000 ∷ [])
unfolding published kind_in
nothing = refl

-- 0006h, and not the decimal column's 8
pub inst-end : Are EventKind.InstEnd (0x0006 ∷ [])
unfolding published kind_in
inst-end = refl

pub lights-out : Are EventKind.LightsOut (0x0106 ∷ [])
unfolding published kind_in
lights-out = refl

pub user : Are EventKind.User (0x1000 ∷ 0x1003 ∷ 0x3000 ∷ 0xf0ff ∷ 0xffff ∷ [])
unfolding published kind_in
user = refl

pub reserved : Are EventKind.Reserved (8 ∷ 0x0001 ∷ 0x0103 ∷ 0x0fff ∷ 0x2000 ∷ 0xe106 ∷ [])
unfolding published kind_in
reserved = refl

pub beyond : map kind_told (65_536 ∷ 18_446_744_073_709_551_615 ∷ []) ≡ outside ∷ outside ∷ []
unfolding published kind_in
beyond = refl
