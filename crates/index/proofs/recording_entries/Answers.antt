-- `index::recording_entries` meets its contract, by the laws of Recorded.
-- Assumes nothing.
use mathlib.Core.Path.{refl}
use native.Mathlib.Omega.{arith}
use lib.ListN.{length}
use borrow.Author.Rules.{rules}
use Rattle.records.specs.Says.{subs_at, ChannelsIn}
use Rattle.index.proofs.Recorded.{framed-none, framed-start, framed-ahead, framed-more, framed-all}
use Rattle.index.proofs.recording_entries.Goals as goal
use Rattle.index.proofs.recording_entries.Goals.{After-struct_known-1}

-- the channels have room in the file
room : (b : After-struct_known-1) → ChannelsIn (length b.args.file.now) (subs_at b.args.q.channels b.args.q.count)
room b = b.requires.found.owned.room

pub returns-then-end-first : goal.returns-then-end-first
returns-then-end-first c =
    framed-none c.requires c.first_events-first.result c.behind_events-end.result c.first_events-first.ensures c.behind_events-end.ensures c.if-end-first.true

pub loop-j-init : goal.loop-j-init
loop-j-init c = (framed-start c.requires, refl)

pub frame_entries-next-requires : goal.frame_entries-next-requires
frame_entries-next-requires c =
    framed-ahead c.loop-j.invariant.0 _
    (record { first = c.first_events-first.ensures; end = c.behind_events-end.ensures; before = c.sample_bytes-before.ensures }) c.loop-j-test.true

pub loop-j-preserved : goal.loop-j-preserved
loop-j-preserved c =
    let l = c.loop-j in
    let m = framed-more l.invariant.0 c.loop-j-test.true c.frame_entries-next.ensures in
    (m, search rules)

pub returns : goal.returns
returns c = framed-all c.loop-j.invariant.0 (omega arith)
