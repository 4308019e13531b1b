-- Where `table` answers rows, the lines of the numbers that it wrote are what is printed of the file.
-- Assumes nothing.
use Rattle.std.proofs.Common.{◌≡◌, ℕ, ◌≤◌, ◌*◌, Bool, true, false, List, ℤ, refl, arith, min, length}
use borrow.Author.Tests.{leb-true}
use lib.Dec.{leb}
use Rattle.words.specs.Lent as Lent
use Rattle.walk.specs.Walk as W
use Rattle.walk.specs.Walk.{pick, Row, Outcome, refused, passed}
use Rattle.rules.specs.Rules as R
use Rattle.rows.specs.Rows.{written}
use Rattle.table.specs.Table.{rows, refusal, answered, holding}
use Rattle.table.proofs.Answers.{rows-refusal}
use Rattle.lister.specs.Listing.{lines, lines_in, refusal_line, told}
use Rattle.lister.proofs.Lines.{lines_in-flat}

-- b: whether there is room for the rows
by-room : (rs : List Row) (n : ℕ) (out out' : List ℤ) (b : Bool) → leb (4 * length rs) 8192 ≡ b → rows n ≡ pick b (rows (length rs)) (refusal 17 (4 * length rs)) → out' ≡ pick b (written true out 0 rs) out
    → lines_in (min n 2048) out' ≡ pick b (lines rs) (refusal_line 17 (4 * length rs))
unfolding Lent.written
by-room rs n out out' true e a h =
    let same : n ≡ length rs = cc in
    let room : 4 * length rs ≤ 8192 = leb-true _ _ e in
    let few : min n 2048 ≡ length rs = omega arith in
    rw (few, h) (lines_in-flat rs _)
by-room rs n out out' false e a h = rows-refusal a

pub rows-shown : (o : Outcome R.File) (n : ℕ) (out out' : List ℤ) → length out ≡ 8192 → rows n ≡ answered o (length out) → out' ≡ holding o out → lines_in (min n 2048) out' ≡ told o
rows-shown (refused m p) n out out' room a h = rows-refusal a
rows-shown (passed v r t) n out out' room a h =
    let rs = W.rows 0 t in
    by-room rs n out out' (leb (4 * length rs) 8192) refl (rw room at a) (rw room at h)
