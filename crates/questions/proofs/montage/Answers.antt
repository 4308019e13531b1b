-- `questions::montage` meets its contract: from the recording found, by the laws of Replies.
-- Assumes nothing.
use Rattle.std.proofs.Common.{Ok}
use mathlib.Core.Path.{◌≡◌, sym, ap, ◌∙◌}
use mathlib.Core.Bool.{true}
use Prim.Native.Nat.{ℕ, ◌+◌, ◌*◌, ◌≤◌}
use native.Mathlib.Omega.{arith}
use lib.ListN.{length}
use Rattle.rules.specs.Rules as R
use Rattle.rules.proofs.Handed.{lacked}
use Rattle.recordings.specs.Found.{RecordingFoundAs}
use Rattle.questions.specs.Holding.{montage_channels}
use Rattle.questions.proofs.Replies.{montage-inside, montage-absent, montage-outside, montage-roomy, montage-told}
use Rattle.questions.proofs.montage.Goals as goal
use Rattle.questions.proofs.montage.Goals.{After-within, Else-not-within, In_ok-order}

-- the recording found
known : (x : In_ok-order) → RecordingFoundAs x.args.file.now x.args.recording (Ok (x.in_ok-order.order, x.in_ok-order.q))
known x = x.in_ok-order.ensures

-- how many channels its montage has
abbrev many : After-within → ℕ
many x = montage_channels x.in_ok-order.order x.args.file.now x.in_ok-order.q

ranges : (c : After-within) → c.within.result ≡ R.between 1 (many c) c.args.channel
ranges c = c.within.ensures ∙ ap (λ (n : ℕ). R.between 1 n c.args.channel) c.montage_channels-count.ensures

-- the channel's number is inside its range
ranged : (c : Else-not-within) → R.between 1 (many (goal.at.Else-not-within c).After-within) c.args.channel ≡ true
ranged c = sym (ranges (goal.at.Else-not-within c).After-within) ∙ c.if-not-within.false

-- the channels have room in the file, and the one asked for is among them
roomy : (c : Else-not-within) →
    (c.in_ok-first.first + 32 + 256 * many (goal.at.Else-not-within c).After-within ≤ length c.args.file.now) × (1 ≤ c.args.channel) × (c.args.channel ≤ many (goal.at.Else-not-within c).After-within)
roomy c = montage-roomy (known (goal.at.Else-not-within c).In_ok-order).1 _ c.in_ok-first.ensures.ok_part (ranged c)

pub returns-in_err-first : goal.returns-in_err-first
returns-in_err-first c =
    let none = c.in_err-first.ensures.ok_part in
    rw (lacked _ none c.in_err-first.ensures.value c.from_residual-in_err-first.ensures)
    (montage-absent (known (goal.at.returns-in_err-first c).In_ok-order).1 _ none)

pub montage_channels-count-requires : goal.montage_channels-count-requires
montage_channels-count-requires c = montage-inside (known (goal.at.montage_channels-count-requires c).In_ok-order).1

pub returns-then-not-within : goal.returns-then-not-within
returns-then-not-within c = montage-outside (known (goal.at.returns-then-not-within c).In_ok-order).1 _ (sym (ranges (goal.at.returns-then-not-within c).After-within) ∙ c.if-not-within.true)

pub overflow_add-at : goal.overflow_add-at
overflow_add-at c = record { fits = omega (arith, roomy (goal.at.overflow_add-at c).Else-not-within, c.well_formed) }

pub overflow_sub-at : goal.overflow_sub-at
overflow_sub-at c = omega (arith, roomy (goal.at.overflow_sub-at c).Else-not-within)

pub overflow_mul-at : goal.overflow_mul-at
overflow_mul-at c = record { fits = omega (arith, roomy (goal.at.overflow_mul-at c).Else-not-within, c.well_formed) }

pub overflow_add-at-2 : goal.overflow_add-at-2
overflow_add-at-2 c = record { fits = omega (arith, roomy (goal.at.overflow_add-at-2 c).Else-not-within, c.well_formed) }

pub wired_at-requires : goal.wired_at-requires
wired_at-requires c = omega (arith, roomy (goal.at.wired_at-requires c).Else-not-within)

pub returns : goal.returns
returns c = montage-told (known (goal.at.returns c).In_ok-order).1 _ c.in_ok-first.ensures.ok_part (ranged (goal.at.returns c).Else-not-within) _ c.wired_at.ensures
