-- `records::padding` meets its contract: the first byte that is not zero is refused, or there is none. Assumes nothing.
use Rattle.records.proofs.Steps.{pad-stop, pad-clear}
use Rattle.records.proofs.padding.Goals as goal

pub returns-then-zeros-pad : goal.returns-then-zeros-pad
returns-then-zeros-pad c =
    λ o. pad-stop o c.args.base c.args.s.now c.args.from c.args.to c.first_nonzero-zeros.result c.requires.start c.requires.inside c.first_nonzero-zeros.ensures c.if-zeros-pad.true

pub returns : goal.returns
returns c =
    λ o. pad-clear o c.args.base c.args.s.now c.args.from c.args.to c.first_nonzero-zeros.result c.requires.start c.requires.inside c.first_nonzero-zeros.ensures c.if-zeros-pad.false
