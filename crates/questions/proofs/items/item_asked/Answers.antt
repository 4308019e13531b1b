-- `questions::items::item_asked` meets its contract: by the laws of Owners, what `item_in` says of the record at the place that `holding` gives. x: behind the recording found.
-- Assumes nothing.
use Rattle.std.proofs.Common.{Ok}
use mathlib.Core.Path.{sym, ◌∙◌}
use Rattle.rules.proofs.Handed.{lacked}
use Rattle.recordings.specs.Found.{RecordingFoundAs}
use Rattle.questions.proofs.Owners.{asked-nothing, asked-inside, asked-item}
use Rattle.questions.proofs.items.item_asked.Goals as goal
use Rattle.questions.proofs.items.item_asked.Goals.{In_ok-order}

-- the recording found
known : (x : In_ok-order) → RecordingFoundAs x.args.file.now x.args.recording (Ok (x.in_ok-order.order, x.in_ok-order.q))
known x = x.in_ok-order.ensures

pub returns-in_err-at : goal.returns-in_err-at
returns-in_err-at c =
    let a = c.args in
    let none = c.in_err-at.ensures.ok_part in
    rw (lacked _ none c.in_err-at.ensures.value c.from_residual-in_err-at.ensures)
    (asked-nothing (known (goal.at.returns-in_err-at c).In_ok-order).1 a.k a.item (sym c.holding.ensures ∙ none))

pub item_in-requires : goal.item_in-requires
item_in-requires c = asked-inside (known (goal.at.item_in-requires c).In_ok-order).1 c.args.k _ (sym c.holding.ensures ∙ c.in_ok-at.ensures.ok_part)

pub returns : goal.returns
returns c =
    let a = c.args in
    asked-item (known (goal.at.returns c).In_ok-order).1 a.k _ a.item _ (sym c.holding.ensures ∙ c.in_ok-at.ensures.ok_part) c.item_in.ensures
