-- What the code asks of the part s that is read, and of the buffer d that is written.
-- Assumes nothing.
use Rattle.std.specs.Prelude.{Option}
use Rattle.std.specs.Prelude.{◌≡◌, List, ℕ, ◌+◌, ◌*◌, ◌≤◌, length}
use Rattle.words.specs.declared.Order.{Order}
use Rattle.bulk.specs.Runs.{NumberWidth}
use Rattle.rules.specs.declared.Channels.{Channels}
use Rattle.bodies.specs.Copy.{widths_in}

-- both are n bytes long
pub record Both (n : ℕ) (s d : List ℕ) : Type 0 where
  -- the bytes that are read
  pub source : length s ≡ n
  -- and the room for them
  pub room : length d ≡ n

-- there are n bytes or more
pub record AtLeast (n : ℕ) (s d : List ℕ) : Type 0 where
  -- in s
  pub least : n ≤ length s
  -- and d is as long
  pub room : length d ≡ length s

-- s is a frame's clock and its samples, all of one width
pub record OneWidth (width : ℕ) (s d : List ℕ) : Type 0 where
  -- the samples'
  pub wide : NumberWidth width
  -- the samples stand behind the clock
  pub clock : AtLeast 8 s d

-- the samples from byte p of s on of the channel whose sub stands at byte q of the file
pub record SamplesPart (file : List ℕ) (q t : ℕ) (s : List ℕ) (p : ℕ) (d : List ℕ) : Type 0 where
  -- the sub is in it
  pub described : q + 256 ≤ length file
  -- the longest frame
  pub seconds : t ≤ 3600
  -- the samples start in s or at its end
  pub part : AtLeast p s d

-- s is a frame's clock and its samples, as the subs at cs describe them
pub record FramePart (o : Order) (file : List ℕ) (cs : Channels) (widths : Option ℕ) (t : ℕ) (s d : List ℕ) : Type 0 where
  -- the subs are in the file
  pub channels : cs.subs + 256 * cs.count ≤ length file
  -- these are the widths that they give
  pub wide : widths ≡ widths_in o file cs.subs cs.count
  -- the longest frame
  pub seconds : t ≤ 3600
  -- the samples stand behind the clock
  pub clock : AtLeast 8 s d
