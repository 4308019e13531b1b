-- The rows of the records that another holds, and what the steps of the listing ask and say.
-- Assumes nothing.
use Rattle.std.specs.Prelude.{◌≡◌, Bool, true, List, [], ◌∷◌, ℕ, zero, suc, ◌+◌, ◌-◌, ◌*◌, ◌≤◌, ℤ, length, eqb}
use Rattle.words.specs.Lent as Lent
use Rattle.words.specs.Sizes.{Addressable}
use Rattle.words.specs.Numbers.{number_at}
use Rattle.words.specs.declared.Order.{Order}
use Rattle.walk.specs.Walk.{pick, Row}
use Rattle.records.specs.Says.{is_group, sub_code}
use Rattle.children.specs.Recordings.{OfBody, OfRecording, OfFile}
use Rattle.rows.specs.Rows.{numbers}

-- so many records of one length, one after the other, numbered from i on
unfoldable pub series_rows : ℕ → ℕ → ℕ → ℕ → ℕ → List Row
series_rows zero i start step code = []
series_rows (suc n) i start step code = record { start = start; size = step; code = code; serial = i } ∷ series_rows n (suc i) (start + step) step code

-- of the record at byte p of the part s, which stands at b: the subs of a 120, 320 or 350, one for each that its count says; a 140's frames, likewise
module _ (o : Order) (b : ℕ) (s : List ℕ) (p : ℕ) where
  abbrev pub channel_rows : ℕ → List Row
  channel_rows code = series_rows (number_at o 4 s (p + 16)) 1 (b + p + 32) 256 (sub_code code)

  abbrev pub frame_rows : List Row
  frame_rows = series_rows (number_at o 4 s (p + 24)) 1 (b + p + 32) (number_at o 4 s (p + 20)) 145

  -- the rows of the records that it holds, by its code
  unfoldable pub held_rows : ℕ → List Row
  held_rows code = pick (is_group code) (channel_rows code) (pick (eqb code 140) frame_rows [])

-- a 120, 320 or 350 from byte p up to q is as long as its subs ask for
abbrev pub ChannelsFit : Order → List ℕ → ℕ → ℕ → Type 0
ChannelsFit o s p q = q - p ≡ 32 + 256 * number_at o 4 s (p + 16)

-- a 140 from byte p up to q has room for its frames
pub record FramesFit (o : Order) (s : List ℕ) (p q : ℕ) : Type 0 where
  pub least : 24 ≤ number_at o 4 s (p + 20)
  pub inside : 32 + number_at o 4 s (p + 20) * number_at o 4 s (p + 24) ≤ q - p

-- the record of this code from byte p up to q has room for the records that it holds
pub record HasRoom (o : Order) (s : List ℕ) (p q code : ℕ) : Type 0 where
  pub channels : is_group code ≡ true → ChannelsFit o s p q
  pub frames : code ≡ 140 → FramesFit o s p q

-- What is asked and said of rows in a buffer

-- k numbers were there before the rows, and k' are there behind them
abbrev pub Wrote : Bool → List ℤ → List ℤ → ℕ → ℕ → List Row → Type 0
Wrote = Lent.Wrote numbers 4

-- a record at `start` of this size, with k numbers before its row: there are never more numbers than bytes
pub record Ahead (k start size : ℕ) : Type 0 where
  pub low : k ≤ start
  pub short : Addressable start
  pub small : Addressable size

-- so many records of one length from `start` on
pub record SeriesAhead (k start step count : ℕ) : Type 0 where
  pub low : k ≤ start
  pub least : 4 ≤ step
  pub short : Addressable (start + step * count)
  pub small : Addressable step

-- the record from byte p up to q of the part s, which stands at b; `least` bytes of it are listed already
pub record RecordAhead (b : ℕ) (s : List ℕ) (p q k least : ℕ) : Type 0 where
  pub starts : p + 16 ≤ q
  pub inside : q ≤ length s
  pub short : Addressable (b + length s)
  pub low : k ≤ b + p + least

-- rows that were written, with no more numbers than the byte that they reach up to
pub record WroteUpTo (most : ℕ) (write : Bool) (out out' : List ℤ) (k k' : ℕ) (rs : List Row) : Type 0 where
  pub wrote : Wrote write out out' k k' rs
  pub reaches : k' ≤ most

-- rows that were written if P holds, with no more numbers than the byte that they reach up to
pub record WroteIf (P : Type 0) (most : ℕ) (write : Bool) (out out' : List ℤ) (k k' : ℕ) (rs : List Row) : Type 0 where
  pub reaches : k' ≤ most
  pub wrote : P → Wrote write out out' k k' rs

-- a recording's body, the part s at b, with k numbers before its rows
pub record BodyAhead (b : ℕ) (s : List ℕ) (k : ℕ) : Type 0 where
  pub short : Addressable (b + length s)
  pub low : k ≤ b

-- the recording's body, the part s at b, listed
pub record BodyListed (o : Order) (b : ℕ) (s : List ℕ) (write : Bool) (out out' : List ℤ) (k k' : ℕ) : Type 0 where
  pub reaches : k' ≤ b + length s
  pub wrote : OfBody o b s (Wrote write out out' k k')

-- a recording from byte p of the file s on, with k numbers before its rows
pub record RecordingAhead (s : List ℕ) (p k : ℕ) : Type 0 where
  pub inside : p ≤ length s
  pub short : Addressable (length s)
  pub low : k ≤ p

-- the recording from byte p up to q of the file s listed
pub record RecordingListed (o : Order) (s : List ℕ) (p q : ℕ) (write : Bool) (out out' : List ℤ) (k k' : ℕ) : Type 0 where
  pub on : p ≤ q
  pub inside : q ≤ length s
  pub reaches : k' ≤ q
  pub wrote : OfRecording o s p q (Wrote write out out' k k')

-- all recordings of the file s listed
pub record FileListed (o : Order) (s : List ℕ) (count : ℕ) (write : Bool) (out out' : List ℤ) (k' : ℕ) : Type 0 where
  pub reaches : k' ≤ length s
  pub wrote : OfFile o s count (Wrote write out out' 0 k')
