-- `questions::channels::some_nan` meets its contract: the words are tested one after the other.
-- Assumes nothing.
use mathlib.Core.Path.{◌≡◌, sym, ◌∙◌}
use mathlib.Core.Bool.{false}
use Rattle.words.specs.Floats.{nan_pattern}
use Rattle.questions.specs.Values.{some_nan}
use Rattle.questions.proofs.Calibrated.{nan-here, nan-later}
use Rattle.questions.proofs.channels.some_nan.Goals as goal
use Rattle.questions.proofs.channels.some_nan.Goals.{Else-is_nan, Else-is_nan-2}

-- each word that was passed is no NaN's
clear : (c : Else-is_nan) → nan_pattern c.args.cal ≡ false
clear c = sym c.is_nan.ensures ∙ c.if-is_nan.false

clear-2 : (c : Else-is_nan-2) → nan_pattern c.args.cal_ad ≡ false
clear-2 c = sym c.is_nan-2.ensures ∙ c.if-is_nan-2.false

pub returns-then-is_nan : goal.returns-then-is_nan
unfolding some_nan
returns-then-is_nan c = nan-here _ (sym c.is_nan.ensures ∙ c.if-is_nan.true)

pub returns-then-is_nan-2 : goal.returns-then-is_nan-2
unfolding some_nan
returns-then-is_nan-2 c =
    nan-here _ (sym c.is_nan-2.ensures ∙ c.if-is_nan-2.true) ∙ nan-later _ (clear (goal.at.returns-then-is_nan-2 c).Else-is_nan)

pub returns-then-is_nan-3 : goal.returns-then-is_nan-3
unfolding some_nan
returns-then-is_nan-3 c =
    let g = goal.at.returns-then-is_nan-3 c in
    nan-here _ (sym c.is_nan-3.ensures ∙ c.if-is_nan-3.true) ∙ nan-later _ (clear-2 g.Else-is_nan-2) ∙ nan-later _ (clear g.Else-is_nan)

pub returns : goal.returns
unfolding some_nan
returns c =
    let g = goal.at.returns c in
    c.is_nan-4.ensures ∙ nan-later _ (sym c.is_nan-3.ensures ∙ c.if-is_nan-3.false) ∙ nan-later _ (clear-2 g.Else-is_nan-2) ∙ nan-later _ (clear g.Else-is_nan)
