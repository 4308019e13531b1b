-- `bulk::word_of_8` meets its contract, by the library's reading of eight bytes.
-- Assumes nothing.
use native.Mathlib.Omega.{arith}
use lib.Seq.{take_all}
use Rattle.bulk.proofs.Blocks.{eight-read}
use Rattle.bulk.proofs.word_of_8.Goals as goal

pub returns : goal.returns
returns c = rw (c.from_le_bytes.ensures, c.copy_from_slice.ensures.after, take_all 8 c.args.s.now (omega arith)) (eight-read c.args.s.now c.requires)
