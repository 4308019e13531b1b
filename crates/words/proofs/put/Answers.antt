-- `words::put` meets its contract, by the library's bytes of a number of four.
-- Assumes nothing.
use Rattle.words.specs.Numbers.{bytes_in, ordered}
use Rattle.words.proofs.Fours.{put-little, put-big}
use Rattle.words.proofs.put.Goals as goal

pub returns-in-Little : goal.returns-in-Little
unfolding bytes_in ordered
returns-in-Little g c = rw (c.copy_from_slice.ensures.after, c.in-Little.is, c.to_le_bytes.ensures) (put-little c.args.n g.row.W c.requires.width)

pub returns-in-Big : goal.returns-in-Big
unfolding bytes_in ordered
returns-in-Big g c = rw (c.copy_from_slice-in-Big.ensures.after, c.in-Big.is, c.to_be_bytes.ensures) (put-big c.args.n g.row.W c.requires.width)
