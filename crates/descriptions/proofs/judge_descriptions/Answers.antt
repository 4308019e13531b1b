-- `descriptions::judge_descriptions` meets its contract: one law of Describing for each return.
-- The places: behind the 100 (first), the head that follows it (found), the 120 or 320 (cs), the 130 (ps), the 200 (es) and the 350 (ms). Assumes nothing.
use Rattle.descriptions.specs.declared.Part.{Part}
use Rattle.std.proofs.Common.{Result, Ok}
use Rattle.rules.proofs.Handed.{handed}
use Rattle.rules.specs.declared.Refusal.{Refusal}
use mathlib.Core.Path.{◌≡◌, refl}
use Rattle.walk.specs.Walk.{pick}
use Rattle.records.specs.declared.items.Holder.TheVariants as Holder
use Rattle.descriptions.specs.DescriptionsJudged.{count_in, ChannelsPart, MontagePart, ItemsPart, EventsPart}
use Rattle.descriptions.proofs.Describing.{Hundred, hundred-fits, Begun, begun, stops-basic, stops-next, stops-channels, stops-patient, stops-events, stops-montage, holds}
use Rattle.descriptions.proofs.judge_descriptions.Goals as goal
use Rattle.descriptions.proofs.judge_descriptions.Goals.{After-count_of-count, After-held_channels, After-held_patient, After-montage_part, In_ok-basic, In_ok-p}

-- what is known at each: the 100 that passed, with the head behind it; the 120 or 320; the 130; the 200
hundred : (x : In_ok-basic) →
    let a = x.args in
    Hundred a.o a.base a.s.now (Ok x.in_ok-basic.basic)
hundred x = x.in_ok-basic.ensures

begins : (x : After-held_channels) →
    let a = x.args in
    Begun a.o a.label a.base a.s.now x.in_ok-basic.basic x.in_ok-h.h
begins x =
    let a = x.args in
    begun a.o a.base a.s.now a.label (hundred (goal.at.After-held_channels x).In_ok-basic) (x.in_ok-h.ensures)

channels : (x : After-held_patient) →
    let a = x.args in
    ChannelsPart a.o a.label a.base a.s.now x.in_ok-h.h x.in_ok-basic.basic.channels x.held_channels.result (Ok x.in_ok-c.c)
channels x = x.in_ok-c.ensures

patient : (x : In_ok-p) →
    let a = x.args in
    ItemsPart a.o a.label Holder.Patient a.base a.s.now x.in_ok-c.c.next x.held_patient.result (Ok x.in_ok-p.p)
patient x = x.in_ok-p.ensures

events : (x : After-count_of-count) →
    let a = x.args in
    EventsPart a.o a.label a.base a.s.now x.in_ok-p.p.next (Ok x.in_ok-e.e)
events x = x.in_ok-e.ensures

-- what is known of the 350, with the count of channels (goal.at.After-montage_part that).After-held_patient hold
montage : (x : After-montage_part) {a : Result Part Refusal} → x.montage_part.result ≡ a →
    let z = x.args in
    MontagePart z.o z.label z.base z.s.now x.in_ok-e.e.next (pick x.in_ok-c.c.own x.in_ok-basic.basic.channels (count_in z.before)) a
montage x e = rw (e, x.count_of-count.ensures) at x.montage_part.ensures

pub returns-in_err-basic : goal.returns-in_err-basic
returns-in_err-basic c =
    let a = c.args in
    rw (handed _ c.from_residual.ensures) (stops-basic a.o a.base a.s.now _ (c.in_err-basic.ensures))

pub next_head-requires : goal.next_head-requires
next_head-requires c =
    record { low = hundred-fits c.args.o c.args.base c.args.s.now (hundred c); short = c.requires.short }

pub returns-in_err-h : goal.returns-in_err-h
returns-in_err-h c =
    let a = c.args in
    rw (handed _ c.from_residual-in_err-h.ensures) (stops-next a.o a.base a.s.now (hundred (goal.at.returns-in_err-h c).In_ok-basic) (c.in_err-h.ensures))

pub returns-in_err-c : goal.returns-in_err-c
returns-in_err-c c =
    let a = c.args in
    rw (handed _ c.from_residual-in_err-c.ensures)
    (stops-channels a.o a.base a.s.now a.label (begins (goal.at.returns-in_err-c c).After-held_channels) a.before c.held_channels.ensures refl (c.in_err-c.ensures))

pub returns-in_err-p : goal.returns-in_err-p
returns-in_err-p c =
    let a = c.args in
    rw (handed _ c.from_residual-in_err-p.ensures)
    (stops-patient a.o a.base a.s.now a.label (begins (goal.at.returns-in_err-p c).After-held_channels) a.before c.held_channels.ensures c.held_patient.ensures (channels (goal.at.returns-in_err-p c).After-held_patient) (c.in_err-p.ensures))

pub returns-in_err-e : goal.returns-in_err-e
returns-in_err-e c =
    let a = c.args in
    rw (handed _ c.from_residual-in_err-e.ensures)
    (stops-events a.o a.base a.s.now a.label (begins (goal.at.returns-in_err-e c).After-held_channels) a.before c.held_channels.ensures c.held_patient.ensures (channels (goal.at.returns-in_err-e c).After-held_patient) (patient (goal.at.returns-in_err-e c).In_ok-p) (c.in_err-e.ensures))

pub returns-in_err-m : goal.returns-in_err-m
returns-in_err-m c =
    let a = c.args in
    rw (handed _ c.from_residual-in_err-m.ensures)
    (stops-montage a.o a.base a.s.now a.label (begins (goal.at.returns-in_err-m c).After-held_channels) a.before c.held_channels.ensures c.held_patient.ensures (channels (goal.at.returns-in_err-m c).After-held_patient) (patient (goal.at.returns-in_err-m c).In_ok-p) (events (goal.at.returns-in_err-m c).After-count_of-count) (montage (goal.at.returns-in_err-m c).After-montage_part c.in_err-m.was))

pub returns : goal.returns
returns c =
    let a = c.args in
    rw (c.count_of-count.ensures, c.own_place.ensures, c.own_place-2.ensures)
    (holds a.o a.base a.s.now a.label (begins (goal.at.returns c).After-held_channels) a.before c.held_channels.ensures c.held_patient.ensures (channels (goal.at.returns c).After-held_patient) (patient (goal.at.returns c).In_ok-p) (events (goal.at.returns c).After-count_of-count) (montage (goal.at.returns c).After-montage_part c.in_ok-m.was) c.requires.headed)
