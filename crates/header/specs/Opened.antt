-- What the answers of crate `header` say, as verdicts on the walk of the file header.
use Rattle.std.specs.Prelude.{Result, Ok, Err, Option, Some, None}
use Rattle.std.specs.Prelude.{◌≡◌, Bool, true, false, List, ℕ, ◌≤◌, length}
use Rattle.words.specs.declared.Order.{Order}
use Rattle.walk.specs.See.{Verdict, goes, see}
use Rattle.rules.specs.declared.FileHeader.{FileHeader}
use Rattle.rules.specs.declared.Refusal.{Refusal}
use Rattle.rules.specs.Rules as R
use Rattle.records.specs.Says.{halts}
use Rattle.header.specs.Letters.{heading_of}

-- whether it names one
abbrev pub names : Option Order → Bool
names (Some o) = true
names None = false

-- the header holds, and the walk goes on behind its 32 bytes; or it is refused
abbrev pub opened : Result FileHeader Refusal → Verdict R.FileHeader
opened (Ok h) = goes (record { heading = heading_of h.heading; count = h.count }) 32
opened (Err r) = halts r

-- what else holds of a header in this order, in a file of n bytes
pub record Named (o : Order) (n : ℕ) (h : FileHeader) : Type 0 where
  pub order : h.order ≡ o
  pub one : 1 ≤ h.count
  pub few : h.count ≤ 64
  pub long : 32 ≤ n

abbrev pub NamedIn : Order → ℕ → Result FileHeader Refusal → Type 0
NamedIn o n (Ok h) = Named o n h
NamedIn o n (Err r) = Unit {0}

-- the answer of `file_header` on the file s, read in the order that its letter names
pub record HeaderRead (s : List ℕ) (a : Result FileHeader Refusal) : Type 0 where
  pub walk : see (R.order_of s) 0 s 0 (R.file_header (length s)) ≡ opened a
  pub named : NamedIn (R.order_of s) (length s) a
