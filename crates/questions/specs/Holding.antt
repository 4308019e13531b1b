-- What the functions say that find an item: the record it is in, its place there, and the answer. And what a montage counts.
-- Assumes nothing.
use Rattle.questions.specs.declared.items.Entry.{Entry}
use Rattle.std.specs.Prelude.{Result, Option, Some, None}
use Rattle.rules.specs.declared.Refusal.{Refusal}
use Rattle.std.specs.Prelude.{◌≡◌, Bool, List, ℕ, ◌+◌, ◌≤◌, length, take}
use Rattle.words.specs.Numbers.{number_at}
use Rattle.words.specs.declared.Order.{Order}
use Rattle.walk.specs.See.{see, goes}
use Rattle.rules.specs.Rules as R
use Rattle.records.specs.declared.items.Holder.{Holder}
use Rattle.descriptions.specs.declared.Places.{Places}
use Rattle.recordings.specs.Answers.{meaning}
use Rattle.questions.specs.Questions.{item_in}

-- the record of these items that holds, if there is one
abbrev pub holding_of : Holder → Places → Option ℕ
holding_of Holder.Patient q = Some q.patient
holding_of Holder.Event q = q.events

-- of n items to pass i are passed at p, in each list of so many that stands at `first` and ends in the file
abbrev pub ReachesTo : Order → List ℕ → (first n i p : ℕ) → Type 0
ReachesTo o s first n i p =
    (ok : ℕ → Bool) (count room : ℕ) (is : List R.Item) (e : ℕ) → n ≤ count → e ≤ length s → see o 0 s first (R.item_list ok count room) ≡ goes is e → p ≡ first + R.item_bytes (take i is)

-- where the item n places behind the one at `first` stands
pub record PlaceOf (o : Order) (s : List ℕ) (first n r : ℕ) : Type 0 where
  -- in the file, whatever it holds
  pub inside : r ≤ length s
  -- all of the n items are passed
  pub passed : ReachesTo o s first n n r

-- the answer is item j of those that a walk gives of the record 130 or 200 at `at`
abbrev pub TellsItem : Order → List ℕ → ℕ → ℕ → Result Entry Refusal → Type 0
TellsItem o s at j a =
    (ok : ℕ → Bool) (room : ℕ) (h : R.Head) (is : List R.Item) (e : ℕ) → e ≤ length s → see o 0 s (at + 16) (R.items ok room h) ≡ goes is e → meaning a ≡ item_in is at j

-- the 350 of the recording at q, where it has one, begins in a file of n bytes; and its count, 0 where it has none
abbrev pub MontageInside : Places → ℕ → Type 0
MontageInside q n = (p : ℕ) → q.montage ≡ Some p → p + 32 ≤ n

abbrev pub count_in : Order → List ℕ → Option ℕ → ℕ
count_in o s (Some p) = number_at o 4 s (p + 16)
count_in o s None = 0

unfoldable pub montage_channels : Order → List ℕ → Places → ℕ
montage_channels o s q = count_in o s q.montage
