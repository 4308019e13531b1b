-- `records::writing::put_head` meets its contract: what is written piece by piece is the head.
-- Assumes nothing.
use Rattle.records.proofs.Heads.{head-written}
use Rattle.records.proofs.writing.put_head.Goals as goal

pub returns : goal.returns
returns c =
    let a = c.args in
    head-written a.to (record { size = a.size; code = a.code; serial = a.serial; multiplier = a.multiplier }) a.d.now _ _ _ _ c.requires
    c.put.ensures
    c.put-2.ensures
    c.put-3.ensures
    c.put-4.ensures
