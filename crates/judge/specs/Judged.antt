-- What the answer of `judge` says, as the rules' outcome for the file.
-- Assumes nothing.
use Rattle.std.specs.Prelude.{Result, Ok, Err}
use Rattle.rules.specs.Reasons.{number_of}
use Rattle.std.specs.Prelude.{◌≡◌, List, [], ℕ, length}
use Rattle.walk.specs.Walk.{Event, refused, passed}
use Rattle.rules.specs.Rules as R
use Rattle.rules.specs.declared.FileHeader.{FileHeader}
use Rattle.rules.specs.declared.Refusal.{Refusal}
use Rattle.header.specs.Letters.{heading_of}

-- the rules pass the file s with no byte left, and the header h says its order, its values and how many recordings it holds
pub record AcceptedAs (s : List ℕ) (h : FileHeader) : Type 0 where
  pub file : R.File
  pub events : List Event
  pub judged : R.judge s ≡ passed file [] events
  pub order : h.order ≡ R.order_of s
  pub heading : heading_of h.heading ≡ file.heading
  pub count : h.count ≡ length file.recordings

abbrev pub JudgedAs : List ℕ → Result FileHeader Refusal → Type 0
JudgedAs s (Ok h) = AcceptedAs s h
JudgedAs s (Err r) = R.judge s ≡ refused (number_of r.0) r.1
