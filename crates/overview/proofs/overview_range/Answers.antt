-- `overview::overview_range` meets its contract: from the track, by the laws of Told and Writing.
-- Assumes nothing.
use Rattle.std.proofs.Common.{Option}
use mathlib.Core.Path.{◌≡◌}
use mathlib.Core.List.{List}
use Rattle.words.specs.Lent.{flat}
use Rattle.recordings.specs.Answers.{value}
use Rattle.overview.specs.Overview.{numbers, range_of}
use Rattle.overview.specs.Steps.{epochs_numbers}
use Rattle.overview.specs.declared.Envelope.{Envelope}
use Rattle.overview.proofs.Told.{epochs-there, tracked, range-told}
use Rattle.overview.proofs.Writing.{range-short, range-written}
use Rattle.overview.proofs.overview_range.Goals as goal
use Rattle.overview.proofs.overview_range.Goals.{In_ok-t}

-- what the reading has of them
told : (x : In_ok-t) →
    let a = x.args in
    (xs : List (Option Envelope)) × (range_of a.file.now a.recording a.channel a.first a.number ≡ value xs)
    × (flat numbers xs ≡ epochs_numbers a.file.now x.in_ok-t.t a.first a.number)
told x = let y = x.in_ok-t.ensures in range-told _ y.bytes _ _ _ y.answer y.whole _ _ y.inside

pub returns-then-out-need : goal.returns-then-out-need
returns-then-out-need c = range-short _ _ _ _ _ _ (told (goal.at.returns-then-out-need c).In_ok-t).1 c.if-out-need.true

pub put_all-requires : goal.put_all-requires
put_all-requires c =
    let y = c.in_ok-t.ensures in
    record { tracked = tracked _ y.bytes _ _ _ y.answer; there = epochs-there _ _ _ y.inside; room = c.if-out-need.false }

pub returns : goal.returns
returns c =
    let y = told (goal.at.returns c).In_ok-t in
    range-written _ _ _ _ _ _ y.1 c.in_ok-t.t y.2 c.if-out-need.false _ c.put_all.ensures
