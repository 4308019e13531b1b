-- `index::file_entries` meets its contract, by the laws of Recorded.
-- Assumes nothing.
use mathlib.Core.Path.{refl}
use native.Mathlib.Omega.{arith}
use borrow.Author.Rules.{rules}
use Rattle.words.specs.Numbers.{Bytes}
use Rattle.words.proofs.Words.{bytes}
use Rattle.judge.proofs.Accepted.{accepted-long}
use Rattle.index.proofs.Recorded.{filed-start, filed-stop, filed-ahead, filed-more}
use Rattle.index.proofs.file_entries.Goals as goal
use Rattle.index.proofs.file_entries.Goals.{After-recording_again}

-- the file is bytes
file-bytes : (c : After-recording_again) → Bytes c.args.file.now
file-bytes c = bytes c.args.file.now (λ j. omega (arith, c.type_inv.file j))

pub loop-i-init : goal.loop-i-init
loop-i-init c = (filed-start (accepted-long _ _ c.requires.accepted) c.requires, refl)

pub returns-in_default : goal.returns-in_default
returns-in_default c =
    filed-stop c.loop-i.invariant.0
    (file-bytes (goal.at.returns-in_default c).After-recording_again) c.loop-i-test.true _ c.recording_again.ensures c.in_default.is

pub recording_entries-k-requires : goal.recording_entries-k-requires
recording_entries-k-requires c =
    filed-ahead c.loop-i.invariant.0
    (file-bytes (goal.at.recording_entries-k-requires c).After-recording_again) c.loop-i-test.true _ c.recording_again.ensures c.in-Ok.is

pub loop-i-preserved : goal.loop-i-preserved
loop-i-preserved c =
    let m = filed-more c.loop-i.invariant.0
    (file-bytes (goal.at.loop-i-preserved c).After-recording_again) c.loop-i-test.true _ c.recording_again.ensures c.in-Ok.is c.recording_entries-k.ensures in
    (m, search rules)
