-- What the judge's functions ask.
-- Assumes nothing.
use Rattle.std.specs.Prelude.{ℕ, ◌+◌, ◌-◌, ◌≤◌, ◌<◌, List, length}
use Rattle.words.specs.Sizes.{Addressable}
use Rattle.rules.specs.declared.Head.{Head}
use Rattle.rules.specs.declared.Channels.{Channels}
use Rattle.records.specs.Says.{ChannelsIn}

-- byte p of the part s, which stands at `base` in the file
pub record PartAt (base : ℕ) (s : List ℕ) (p : ℕ) : Type 0 where
  -- it is inside the part, or is its end
  pub low : p ≤ length s
  -- every byte of the part has a place in a file
  pub short : Addressable (base + length s)

-- the head h in that part
pub record HeadIn (base : ℕ) (s : List ℕ) (h : Head) : Type 0 where
  -- its 16 bytes are inside the part
  pub inside : h.at + 16 ≤ length s
  -- every byte of the part has a place in a file
  pub short : Addressable (base + length s)

-- the bytes from `from` up to `to` of that part
pub record BytesIn (base : ℕ) (s : List ℕ) (from to : ℕ) : Type 0 where
  -- they start before they end, or are none
  pub start : from ≤ to
  -- they end inside the part, or at its end
  pub inside : to ≤ length s
  -- every byte of the part has a place in a file
  pub short : Addressable (base + length s)

-- s is the body of the record at `at`, whose head is the 16 bytes before it
pub record BodyOf (least at : ℕ) (s : List ℕ) : Type 0 where
  -- it has at least so many bytes, in which the record's fields stand
  pub long : least ≤ length s
  -- every byte of it has a place in a file
  pub short : Addressable (at + 16 + length s)

-- s is the body of the record 145 at `at`, whose samples end at byte `filled` of the record
pub record FilledBody (filled at : ℕ) (s : List ℕ) : Type 0 where
  -- behind the head and the time
  pub timed : 24 ≤ filled
  -- inside the record, or at its end
  pub inside : filled ≤ 16 + length s
  -- every byte of the body has a place in a file
  pub short : Addressable (at + 16 + length s)

-- records 145 from byte p of the part s on, each of `size` bytes, with samples that end at byte `filled` of it
pub record FilledFrames (base : ℕ) (s : List ℕ) (p size filled : ℕ) : Type 0 where
  -- the first starts inside the part, or at its end
  pub part : PartAt base s p
  -- the samples end behind the head and the time
  pub timed : 24 ≤ filled
  -- and inside the record, or at its end
  pub inside : filled ≤ size

-- a field of so many bytes at this offset of a record, whose body is s
pub record FieldIn (s : List ℕ) (offset width : ℕ) : Type 0 where
  -- the body starts behind the head
  pub behind : 16 ≤ offset
  -- the field ends inside the body
  pub inside : offset - 16 + width ≤ length s

-- the head h in a part of n bytes that stands at `base`
pub record HeadUpTo (base n : ℕ) (h : Head) : Type 0 where
  -- it starts inside the part, or at its end
  pub low : h.at ≤ n
  -- its start has a place in a file, which a refusal names
  pub short : Addressable (base + h.at)

-- the same, with a rule that allows so large a multiplier
pub record HeadOfMost (most base n : ℕ) (h : Head) : Type 0 where
  -- no rule allows a larger one
  pub few : most ≤ 128
  -- where the head stands
  pub head : HeadUpTo base n h

-- a head with a length that can be counted: its size, or its size times its multiplier
pub record Spanned (h : Head) : Type 0 where
  -- a record's size is below this
  pub small : h.size < 2147483648
  -- no rule allows a larger multiplier
  pub few : h.multiplier ≤ 128

-- the samples of t seconds, of the channels at cs in a file of n bytes
pub record SecondsOf (n : ℕ) (cs : Channels) (t : ℕ) : Type 0 where
  -- the channels stand in the file
  pub channels : ChannelsIn n cs
  -- no frame has more seconds
  pub hour : t ≤ 3600
