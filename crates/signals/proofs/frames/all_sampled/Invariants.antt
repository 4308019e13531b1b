-- `signals::frames::all_sampled` meets its contract. The loop's invariant: the channels up to i are tested, and stand before byte p.
-- Assumes nothing.
use mathlib.Core.Path.{◌≡◌}
use mathlib.Core.List.{List}
use Prim.Native.Nat.{ℕ, ◌-◌, ◌≤◌, ◌+◌, ◌*◌}
use Rattle.words.specs.declared.Order.{Order}
use Rattle.rules.specs.Rules as R
use Rattle.rules.specs.declared.Channels.{Channels}
use Rattle.records.specs.Says.{ChannelsStand}
use Rattle.signals.proofs.Sampled.{Sampled}
use Rattle.signals.proofs.frames.all_sampled.Given as goal

pub record Going (o : Order) (file : List ℕ) (cs : Channels) (t p i : ℕ) : Type 0 where
  pub few : i ≤ cs.count
  pub place : p ≡ cs.subs + 256 * i
  pub left : (ch : List R.Channel) → ChannelsStand o file cs ch → Sampled o file p t (cs.count - i) ch

abbrev pub invariant-loop-i : goal.invariant-loop-i
invariant-loop-i l = Going l.o l.file (record { subs = l.initial.p; count = l.m }) l.t l.p l._i
