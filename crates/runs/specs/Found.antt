-- What the functions say that find the run asked for.
-- Assumes nothing.
use Rattle.rules.specs.Reasons.{number_of}
use Rattle.std.specs.Prelude.{◌≡◌, true, List, ℕ, ◌+◌, ◌*◌, ◌≤◌, length, Result, Ok, Err}
use Rattle.words.specs.declared.Order.{Order}
use Rattle.rules.specs.Rules as R
use Rattle.rules.specs.declared.Refusal.{Refusal}
use Rattle.recordings.specs.Answers.{value, refusal}
use Rattle.samples.specs.Frames.{format_of}
use Rattle.samples.specs.Placed.{place_of}
use Rattle.samples.specs.declared.Place.{Place}
use Rattle.runs.specs.Runs.{serves, place_from, answer_of}
use Rattle.runs.specs.declared.Sibling.{Sibling}

-- n samples from the first on are among those at the place p of a file of so many bytes
pub record RunInside (bytes first n : ℕ) (p : Place) : Type 0 where
  -- those lie in the file
  pub file : p.position + p.width * p.count ≤ bytes
  -- and the others among them
  pub inside : first + n ≤ p.count

-- the place p of the run asked for, in a channel of this format, with room for so many numbers
pub record FoundIn (b : Sibling) (s : List ℕ) (i j k first n space : ℕ) (o : Order) (format : ℕ) (p : Place) : Type 0 where
  -- the file's byte order
  pub order : o ≡ R.order_of s
  -- the channel's samples, and their format
  pub all : Place
  pub placed : place_of s i j k ≡ value all
  pub described : format_of s i k ≡ value format
  pub wide : all.width ≡ R.width format
  -- which the call serves
  pub served : serves b format ≡ true
  -- the run lies among them, and in the file
  pub inside : RunInside (length s) first n all
  -- there is room for it
  pub room : n ≤ space
  -- where it stands
  pub place : p ≡ place_from first n all

abbrev pub RunFoundAs : Sibling → List ℕ → (i j k first n space : ℕ) → Result (Order × ℕ × Place) Refusal → Type 0
RunFoundAs b s i j k first n space (Ok (o, format, p)) = FoundIn b s i j k first n space o format p
RunFoundAs b s i j k first n space (Err r) = answer_of b s i j k first n space ≡ refusal (number_of r.0) r.1
