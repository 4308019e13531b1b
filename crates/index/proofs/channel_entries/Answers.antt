-- `index::channel_entries` meets its contract: the channel's sub is read, and its samples are listed where it is of events.
-- Assumes nothing.
use mathlib.Core.Path.{◌≡◌, sym, ap, ◌∙◌}
use mathlib.Core.Bool.{true}
use mathlib.Core.List.{List}
use Prim.Native.Nat.{ℕ, ◌+◌, ◌*◌, ◌≤◌}
use native.Mathlib.Nat.{mul_comm}
use native.Mathlib.Omega.{arith}
use lib.ListN.{length}
use Rattle.rules.specs.Rules as R
use Rattle.records.specs.Says.{subs_at, ChannelsIn}
use Rattle.samples.specs.Placed.{part_in, bytes_of}
use Rattle.samples.specs.declared.Cut.{Cut}
use Rattle.samples.specs.declared.Place.{Place}
use Rattle.samples.proofs.Placing.{all_of, part-inside, bytes-many}
use Rattle.index.specs.Events.{of_events}
use Rattle.index.specs.Listing.{samples_of}
use Rattle.index.proofs.Framing.{the_one, its-sub, its-end, its-frame, far-enough, its-bytes, channel-quiet, channel-empty, channel-listed}
use Rattle.index.proofs.Standing.{events-kept, events-width, before-there}
use Rattle.index.proofs.channel_entries.Goals as goal
use Rattle.index.proofs.channel_entries.Goals.{After-sample_entries-arg-1, After-struct_known-1, After-width-wide, Else-not-events_at}

-- what the code read: the channel's samples and their width, and where they end
abbrev y : (w : After-width-wide) → R.Channel
y w = (the_one w.requires).0

many : (w : After-width-wide) → w.samples_in-n.result ≡ R.samples_in w.args.q.seconds (y w)
many w =
    let k = its-sub w.requires in
    let t = w.args.q.seconds in
    w.samples_in-n.ensures.0 ∙ ap (λ (n : ℕ). R.samples_of t n w.number-rate.result) (w.number-flags.ensures.0 ∙ sym k.flags) ∙
    ap (R.samples_of t (y w).flags) (w.number-rate.ensures.0 ∙ sym k.rate)

wide : (w : After-width-wide) → w.width-wide.result ≡ R.width (y w).format
wide w = w.width-wide.ensures.0 ∙ ap R.width (w.number-format.ensures.0 ∙ sym (its-sub w.requires).format)

ends : (w : After-width-wide) → w.args.at + w.width-wide.result * w.samples_in-n.result ≡ w.args.at + R.samples_in w.args.q.seconds (y w) * R.width (y w).format
ends w = ap (λ (n : ℕ). w.args.at + n)
    (mul_comm w.width-wide.result w.samples_in-n.result ∙ ap (λ (m : ℕ). m * w.width-wide.result) (many w) ∙
    ap (λ (m : ℕ). R.samples_in w.args.q.seconds (y w) * m) (wide w))

-- the subs have room in the file, that of the channel among them
room : (b : After-struct_known-1) → ChannelsIn (length b.args.file.now) (subs_at b.args.q.channels b.args.q.count)
room b = b.requires.stands.found.owned.room

events : (e : Else-not-events_at) → of_events (y (goal.at.Else-not-events_at e).After-width-wide) ≡ true
events e =
    sym (events-kept _ _ _ _ (its-sub e.requires)) ∙ sym e.events_at.ensures ∙ e.if-not-events_at.false

-- its samples are two bytes each, and as many (goal.at.After-sample_entries-arg-1 bytes).After-width-wide are the part
twice : (e : After-sample_entries-arg-1) →
    let w = e in
    w.width-wide.result * w.samples_in-n.result ≡ 2 * w.samples_in-n.result
twice e =
    ap (λ (m : ℕ). m * e.samples_in-n.result)
    (wide (goal.at.After-sample_entries-arg-1 e).After-width-wide ∙
    events-width (y (goal.at.After-sample_entries-arg-1 e).After-width-wide) (events (goal.at.After-sample_entries-arg-1 e).Else-not-events_at))

abbrev place : goal.After-sample_entries-arg-1 → Place
place w = record { position = w.args.at; width = w.width-wide.result; count = w.samples_in-n.result }

part-long : (e : After-sample_entries-arg-1) (part : List ℕ) →
    let w = e in
    part ≡ bytes_of w.args.file.now (place w) → length part ≡ 2 * w.samples_in-n.result
part-long e part h =
    let s = e.args.file.now in
    let l : part_in (length s) (place e) ≡ all_of (place e) =
    part-inside (length s) (place e) (omega (arith, its-end e.requires, ends (goal.at.After-sample_entries-arg-1 e).After-width-wide)) in
    ap length h ∙ (bytes-many s (place e) ∙ (ap (λ (p : Cut). p.length) l ∙ twice e))

part-samples : (e : After-sample_entries-arg-1) (part : List ℕ) → part ≡ bytes_of e.args.file.now (place e) → samples_of part ≡ e.samples_in-n.result
part-samples e part h = omega (arith, part-long e part h)

pub overflow_add-end : goal.overflow_add-end
overflow_add-end c = record { fits = omega (arith, its-end c.requires, ends c, c.well_formed) }

pub returns-then-n-eq0 : goal.returns-then-n-eq0
returns-then-n-eq0 c =
    channel-empty c.requires _ (ends (goal.at.returns-then-n-eq0 c).After-width-wide)
    (sym (many (goal.at.returns-then-n-eq0 c).After-width-wide) ∙ c.if-n-eq0.true)

pub returns-then-not-events_at : goal.returns-then-not-events_at
returns-then-not-events_at c =
    channel-quiet c.requires _ (ends (goal.at.returns-then-not-events_at c).After-width-wide)
    (sym (events-kept _ _ _ _ (its-sub c.requires)) ∙ sym c.events_at.ensures ∙ c.if-not-events_at.true)

pub code_before-before-requires : goal.code_before-before-requires
code_before-before-requires c =
    record {
      some = omega (arith, c.if-n-eq0.false);
      inside = omega (arith, its-bytes c.requires (events c), many (goal.at.code_before-before-requires c).After-width-wide);
      short = omega (arith, c.well_formed);
      before = far-enough c.requires;
    }

pub sample_entries-next-requires : goal.sample_entries-next-requires
sample_entries-next-requires c =
    record {
      long = omega (arith, part-long c _ c.part.ensures.bytes);
      small = omega (arith, c.code_before-before.ensures.1);
      ahead = record {
        room =
            omega (
              arith,
              c.requires.room (y (goal.at.sample_entries-next-requires c).After-width-wide) (the_one c.requires).1,
              many (goal.at.sample_entries-next-requires c).After-width-wide,
              part-samples c _ c.part.ensures.bytes,
            );
        short =
            omega (
              arith,
              part-samples c _ c.part.ensures.bytes,
              its-bytes c.requires (events (goal.at.sample_entries-next-requires c).Else-not-events_at),
              many (goal.at.sample_entries-next-requires c).After-width-wide,
              c.well_formed,
            );
      };
    }

pub returns : goal.returns
returns c =
    let a = c.requires in
    let n = c.samples_in-n.result in
    let some : 1 ≤ n = omega (arith, c.if-n-eq0.false) in
    channel-listed a _ (ends (goal.at.returns c).After-width-wide) n c.width-wide.result c.code_before-before.result _ _
    (events (goal.at.returns c).Else-not-events_at) (many (goal.at.returns c).After-width-wide) (wide (goal.at.returns c).After-width-wide)
    (c.code_before-before.ensures.0 ∙
    before-there c.args.spot.frame (its-frame a) a.stands c.args.c (y (goal.at.returns c).After-width-wide) (the_one a).1
    (events-width (y (goal.at.returns c).After-width-wide) (events (goal.at.returns c).Else-not-events_at)) n c.args.at
    (sym (many (goal.at.returns c).After-width-wide)) some a.place)
    c.part.ensures.bytes (rw (part-samples (goal.at.returns c).After-sample_entries-arg-1 _ c.part.ensures.bytes) at c.sample_entries-next.ensures)
