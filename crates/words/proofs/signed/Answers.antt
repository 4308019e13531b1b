-- `words::signed` meets its contract, by the laws of the two halves of the words.
-- Assumes nothing.
use Rattle.words.proofs.Ints.{held-pos, held-neg}
use Rattle.words.proofs.signed.Goals as goal

pub returns-then-n-half : goal.returns-then-n-half
returns-then-n-half g c = held-pos c.first_negative-half.ensures c.if-n-half.true

pub returns : goal.returns
returns g c = held-neg c.first_negative-half.ensures c.if-n-half.false c.requires.word
