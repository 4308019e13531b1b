-- Document 01's worked values hold, and the smallest file with samples is accepted, in either order, with the rows that document 01 lists; so is the smallest one of electrodes.
-- Assumes nothing.
use mathlib.Core.Path.{◌≡◌, refl}
use mathlib.Core.Bool.{Bool, true, false}
use mathlib.Core.List.{List, [], ◌∷◌}
use mathlib.Core.Option.{Option, none, some}
use Prim.Native.Nat.{ℕ}
use lib.ListN.{length}
use Rattle.words.specs.Numbers.{other, word, word_in, ordered, bytes_of, bytes_in}
use Rattle.words.specs.Values.{signed}
use lib.IntN.{negsuc}
use Rattle.words.specs.declared.Order.{Order}
use Rattle.words.specs.declared.Order.TheVariants.{Little, Big}
use Rattle.walk.specs.Walk.{Row, Outcome, refused, passed, swap, laid, ◌>>=◌, ◌>>◌, logged, run, rows, render}
use Rattle.rules.specs.Rules.{event_table, File, zeros, padding, series, between, same_bytes, is_one_of, one_of, spelled, versioned, allows, formed, all_spaces, decimal, count_of, file_header, length_of, head, admit, padded, fixed, leap, month_days, days_in, dated, is_mains, basic_body, is_type, rate_ok, is_input, channels_group, field_if, channel_body, channels_body, channels, montage, keywords, is_in, patient_code, event_code, item, item_bytes, item_list, items_body, items, width, samples_of, all, sample_bytes, number_list, samples, frame_body, frame, frames_body, frames, maker_code, next, part, delimiter, descriptions, signals, recording_body, recording, recordings, file, order_of, whole, judge}
use Rattle.rules.specs.declared.Spelling.{Spelling}
use Rattle.rules.specs.declared.Spelling.TheVariants as Spelling
use Rattle.rules.specs.Canonical.{multiplier_for, size_for}
use Rattle.rules.specs.Turned.{turned}
use Rattle.rules.specs.Worked.{WorkedValues, WorkedPeriods, WorkedRefusals, smallest_of, smallest_in, electrodes_in, smallest, electrodes, with, respelled, with_period, row, listing, electrodes_listing}

-- 24 bits, all set, are -1 in either order
all_set : (o : Order) → signed 3 (word_in o (255 ∷ 255 ∷ 255 ∷ [])) ≡ negsuc 0
unfolding word_in word ordered signed
all_set Little = refl
all_set Big = refl

pub worked : WorkedValues
unfolding word_in word ordered signed length_of samples_of multiplier_for size_for
worked = record {
  one = refl;
  two = refl;
  three = refl;
  four = refl;
  five = all_set;
  six = refl;
  seven = refl;
  eight = refl;
  nine = refl;
  ten = refl;
  eleven = (refl, refl);
  twelve = (refl, refl);
}

pub worked-periods : WorkedPeriods
unfolding samples_of
worked-periods = record { second = refl; thirty = refl; three = refl; seconds = refl; none = refl }

-- the rows of what is accepted
abbrev rows_of : Outcome File → List Row
rows_of (refused n p) = []
rows_of (passed v r t) = rows 0 t

abbrev is_accepted : Outcome File → Bool
is_accepted (refused n p) = false
is_accepted (passed v r t) = true

abbrev spelling_in : Outcome File → Option Spelling
spelling_in (refused n p) = none
spelling_in (passed v r t) = some v.heading.spelling

-- a file: its length, and that it is accepted with its rows
pub record Smallest (s : List ℕ) (n : ℕ) (l : List Row) : Type 0 where
  pub bytes : length s ≡ n
  pub accepted : is_accepted (judge s) ≡ true
  pub listed : rows_of (judge s) ≡ l

-- in either order, and turned from one to the other
record InOrders (file : Order → List ℕ) (n : ℕ) (l : List Row) : Type 0 where
  little : Smallest (file Little) n l
  big : Smallest (file Big) n l
  turns : turned (file Little) ≡ file Big

-- both smallest files; 29 February 2000 passes, and so does a period of 700,000 microseconds, which does not divide T 1; and every refusal number, at its place
record Files : Type 0 where
  channels : InOrders smallest_in 562 listing
  electrodes : InOrders electrodes_in 850 electrodes_listing
  leap : is_accepted (judge (with 80 (208 ∷ 7 ∷ 0 ∷ 0 ∷ 2 ∷ 0 ∷ 0 ∷ 0 ∷ 29 ∷ []))) ≡ true
  period : is_accepted (judge (with_period (96 ∷ 174 ∷ 10 ∷ []))) ≡ true
  spelling : spelling_in (judge smallest) ≡ some Spelling.Spg
  respelling : spelling_in (judge respelled) ≡ some Spelling.Psg
  refusals : WorkedRefusals judge

files : Files
unfolding zeros padding series between same_bytes is_one_of one_of spelled versioned allows formed all_spaces decimal count_of file_header length_of head admit padded fixed leap month_days days_in dated is_mains basic_body is_type rate_ok is_input channels_group field_if channel_body channels_body channels montage keywords is_in patient_code event_code item item_bytes item_list items_body items width samples_of all sample_bytes number_list samples frame_body frame frames_body frames maker_code next part event_table delimiter descriptions signals recording_body recording recordings file order_of whole judge swap laid ◌>>=◌ ◌>>◌ logged run rows ordered word bytes_of word_in bytes_in smallest_of smallest electrodes listing electrodes_listing row other render turned
files = record {
  channels = record { little = record { bytes = refl; accepted = refl; listed = refl }; big = record { bytes = refl; accepted = refl; listed = refl }; turns = refl };
  electrodes = record { little = record { bytes = refl; accepted = refl; listed = refl }; big = record { bytes = refl; accepted = refl; listed = refl }; turns = refl };
  leap = refl;
  period = refl;
  spelling = refl;
  respelling = refl;
  refusals = record { one = refl; two = refl; spelling = refl; three = refl; four = refl; five = refl; six = refl; seven = refl; eight = refl; nine = refl; ten = refl; eleven = refl; twelve = refl; thirteen = refl; fourteen = refl; fifteen = refl; sixteen = refl; period = refl; leap = refl; type = refl; code = refl; montage = refl; size = refl; g1 = refl; g2 = refl; channels = refl; electrodes = refl; form = refl };
}

in_order : {file : Order → List ℕ} {n : ℕ} {l : List Row} → InOrders file n l → (o : Order) → Smallest (file o) n l
in_order f Little = f.little
in_order f Big = f.big

pub smallest-accepted : (o : Order) → Smallest (smallest_in o) 562 listing
smallest-accepted = in_order files.channels

pub smallest-turned : turned smallest ≡ smallest_in Big
unfolding smallest
smallest-turned = files.channels.turns

pub electrodes-accepted : (o : Order) → Smallest (electrodes_in o) 850 electrodes_listing
electrodes-accepted = in_order files.electrodes

pub electrodes-turned : turned electrodes ≡ electrodes_in Big
unfolding electrodes
electrodes-turned = files.electrodes.turns

pub leap-accepted : is_accepted (judge (with 80 (208 ∷ 7 ∷ 0 ∷ 0 ∷ 2 ∷ 0 ∷ 0 ∷ 0 ∷ 29 ∷ []))) ≡ true
leap-accepted = files.leap

pub period-accepted : is_accepted (judge (with_period (96 ∷ 174 ∷ 10 ∷ []))) ≡ true
period-accepted = files.period

-- either spelling is accepted, and is kept as what it is
pub spellings-kept : (spelling_in (judge smallest) ≡ some Spelling.Spg) × (spelling_in (judge respelled) ≡ some Spelling.Psg)
spellings-kept = (files.spelling, files.respelling)

pub worked-refusals : WorkedRefusals judge
worked-refusals = files.refusals
