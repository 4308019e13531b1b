-- `records::channels::channels_from` meets its contract: the channels up to i are passed. Assumes nothing.
use Rattle.walk.specs.See.{see, ends}
use Rattle.rules.specs.Rules.{channel, series}
use Rattle.records.specs.Says.{group_of}
use lib.ListN.{length}
use mathlib.Core.Path.{◌≡◌}
use Prim.Native.Nat.{◌-◌, ◌≤◌, ◌+◌, ◌*◌}
use Rattle.records.proofs.channels.channels_from.Given as goal

abbrev pub invariant-loop-i : goal.invariant-loop-i
invariant-loop-i l = (l.i ≤ l.count) × (l.p ≡ l.from + 256 * l.i) × (l.p ≤ length l.s) × (ends (see l.o l.base l.s (l.base + l.from) (series l.count 1 256 (length l.s - l.from) (channel (group_of l.g).sub))) ≡ ends (see l.o l.base l.s (l.base + l.p) (series (l.count - l.i) (l.i + 1) 256 (length l.s - l.p) (channel (group_of l.g).sub))))

abbrev pub decreases-loop-i : goal.decreases-loop-i
decreases-loop-i l = l.count - l.i
