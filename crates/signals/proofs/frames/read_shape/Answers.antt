-- `signals::frames::read_shape` meets its contract: one law of Answers for each return.
-- Assumes nothing.
use mathlib.Core.Path.{◌≡◌, sym, ◌∙◌}
use mathlib.Core.Bool.{true, ◌&&◌}
use mathlib.Core.List.{List}
use Prim.Native.Nat.{◌+◌}
use native.Mathlib.Omega.{arith}
use lib.Dec.{ltb}
use Rattle.rules.specs.Rules as R
use Rattle.records.specs.Says.{ChannelsStand}
use Rattle.records.proofs.Facts.{between_in}
use Rattle.signals.proofs.FramesBody.{size_fits}
use Rattle.signals.proofs.Answers.{stops-seconds, stops-periods, stops-size, stops-count, stops-room, shape-holds}
use borrow.Author.Rules.{rules}
use Rattle.signals.proofs.frames.read_shape.Goals as goal
use Rattle.signals.proofs.frames.read_shape.Goals.{After-size_ok, Else-not-between, Else-not-size_ok}

-- what the tests say
timed : (x : Else-not-between) → R.between 1 3600 x.field-t.result ≡ true
timed x = sym x.between.ensures ∙ x.if-not-between.false

sampled : (x : After-size_ok) →
    let a = x.args in
    (ch : List R.Channel) → ChannelsStand a.o a.file.now a.cs ch → R.all (R.sampled x.field-t.result) ch ≡ true
sampled x ch st = sym (x.all_sampled.ensures ch st) ∙ x.if-not-all_sampled.false

filled : (x : Else-not-size_ok) →
    let bytes = x.sample_bytes-bytes.result in
    let size = x.field-size.result in
    R.between (24 + bytes) (24 + bytes + 127) size && ltb size R.limit ≡ true
filled x = sym x.size_ok.ensures ∙ x.if-not-size_ok.false

pub returns-then-not-between : goal.returns-then-not-between
returns-then-not-between c =
    let a = c.args in
    stops-seconds a.o a.file.now a.cs a.at a.s.now a.total a.multiplier c.field-t.ensures.0 c.field-size.ensures.0 c.field-n.ensures.0
    (sym c.between.ensures ∙ c.if-not-between.true)

pub all_sampled-requires : goal.all_sampled-requires
all_sampled-requires c = let h = between_in 1 3600 _ (timed c) in search rules

pub returns-then-not-all_sampled : goal.returns-then-not-all_sampled
returns-then-not-all_sampled c =
    let a = c.args in
    stops-periods a.o a.file.now a.cs a.at a.s.now a.total a.multiplier c.field-t.ensures.0 c.field-size.ensures.0 c.field-n.ensures.0 (timed (goal.at.returns-then-not-all_sampled c).Else-not-between)
    (λ ch st. sym (c.all_sampled.ensures ch st) ∙ c.if-not-all_sampled.true)

pub sample_bytes-bytes-requires : goal.sample_bytes-bytes-requires
sample_bytes-bytes-requires c = let h = between_in 1 3600 _ (timed (goal.at.sample_bytes-bytes-requires c).Else-not-between) in search rules

pub returns-then-not-size_ok : goal.returns-then-not-size_ok
returns-then-not-size_ok c =
    let a = c.args in
    stops-size a.o a.file.now a.cs a.at a.s.now a.total a.multiplier c.field-t.ensures.0 c.field-size.ensures.0 c.field-n.ensures.0 (timed (goal.at.returns-then-not-size_ok c).Else-not-between) (sampled (goal.at.returns-then-not-size_ok c).After-size_ok)
    (λ ch st. c.sample_bytes-bytes.ensures ch st.count st.kept)
    (sym c.size_ok.ensures ∙ c.if-not-size_ok.true)

pub returns-then-n-total : goal.returns-then-n-total
returns-then-n-total c =
    let a = c.args in
    stops-count a.o a.file.now a.cs a.at a.s.now a.total a.multiplier c.field-t.ensures.0 c.field-size.ensures.0 c.field-n.ensures.0 (timed (goal.at.returns-then-n-total c).Else-not-between) (sampled (goal.at.returns-then-n-total c).After-size_ok)
    (λ ch st. c.sample_bytes-bytes.ensures ch st.count st.kept) (filled (goal.at.returns-then-n-total c).Else-not-size_ok) c.if-n-total.true

pub returns-then-not-room_ok : goal.returns-then-not-room_ok
returns-then-not-room_ok c =
    let a = c.args in
    stops-room a.o a.file.now a.cs a.at a.s.now a.total a.multiplier c.field-t.ensures.0 c.field-size.ensures.0 c.field-n.ensures.0 (timed (goal.at.returns-then-not-room_ok c).Else-not-between) (sampled (goal.at.returns-then-not-room_ok c).After-size_ok)
    (λ ch st. c.sample_bytes-bytes.ensures ch st.count st.kept) (filled (goal.at.returns-then-not-room_ok c).Else-not-size_ok) c.if-n-total.false
    (sym c.room_ok.ensures ∙ c.if-not-room_ok.true)

pub overflow_add-result-2 : goal.overflow_add-result-2
overflow_add-result-2 c = let l = size_fits _ _ (filled (goal.at.overflow_add-result-2 c).Else-not-size_ok) in omega arith

pub returns : goal.returns
returns c =
    let a = c.args in
    shape-holds a.o a.file.now a.cs a.at a.s.now a.total a.multiplier c.field-t.ensures.0 c.field-size.ensures.0 c.field-n.ensures.0 (timed (goal.at.returns c).Else-not-between) (sampled (goal.at.returns c).After-size_ok)
    (λ ch st. c.sample_bytes-bytes.ensures ch st.count st.kept) (filled (goal.at.returns c).Else-not-size_ok) c.if-n-total.false
    (sym c.room_ok.ensures ∙ c.if-not-room_ok.false)
