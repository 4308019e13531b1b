-- In a canonical file every reserve area is zero.
-- Assumes nothing.
use mathlib.Core.Path.{◌≡◌, refl, ap, ap₂, ◌∙◌}
use mathlib.Core.Bool.{Bool, true, false}
use mathlib.Core.List.{List, [], ◌∷◌, ◌++◌, map}
use Prim.Native.Nat.{ℕ, suc, ◌+◌, ◌-◌}
use lib.ListN.{length}
use Rattle.walk.specs.Walk.{Event, numeral, size, cleared}
use Rattle.walk.proofs.Tracing.{cleared-append}
use Rattle.rules.specs.Rules.{Head, span, Basic, Label, Sub, Group, Channel, Item, Frame, Maker, Recording, width}
use Rattle.rules.specs.Canonical.{zeroes, record_of, basic_fields, field_event, channel_fields, channel_events, channels_head, channels_written, item_events, items_written, sample_events, frame_written, frame_events, frames_written, maker_events, optional, delimiter_events, channels_group_of, montage_group_of, content, recording_head, recording_events, header_events, anew, canonical}
use Rattle.rules.specs.Reading.{Reading}
use Rattle.rules.specs.Words.{words_of}
use Rattle.rules.proofs.Cases.{by_shape}

-- events whose reserve is zero
abbrev pub Clear : List Event → Type 0
Clear t = cleared t ≡ t

both : (t u : List Event) → Clear t → Clear u → Clear (t ++ u)
both t u h k = cleared-append t u ∙ ap₂ (λ (x y : List Event). x ++ y) h k

-- the events of a record, behind its head
of-record : (h : Head) (t : List Event) → Clear t → Clear (record_of h t)
unfolding cleared record_of
of-record h t k = rw k

of-basic : (b : Basic) → Clear (basic_fields b)
unfolding cleared basic_fields
of-basic b = refl

of-channel : (k : Sub) (c : Channel) → Clear (channel_fields k c)
unfolding cleared channel_fields field_event
of-channel = by_shape (λ k. (c : Channel) → Clear (channel_fields k c)) (λ k c. refl) (λ k c. refl) (λ k c. refl) (λ k c. refl)

of-channels : (k : Sub) (i : ℕ) (cs : List Channel) → Clear (channel_events k i cs)
unfolding cleared channel_events
of-channels k i [] = refl
of-channels k i (c ∷ cs) = both (record_of _ (channel_fields k c)) (channel_events k (suc i) cs) (of-record _ (channel_fields k c) (of-channel k c)) (of-channels k (suc i) cs)

of-items : (is : List Item) → Clear (item_events is)
unfolding cleared item_events
of-items [] = refl
of-items (i ∷ is) = rw (of-items is)

of-numbers : (w : ℕ) (s : List ℕ) → Clear (map (numeral w) s)
unfolding cleared
of-numbers w [] = refl
of-numbers w (v ∷ s) = ap (λ (x : List Event). numeral w v ∷ x) (of-numbers w s)

of-samples : (cs : List Channel) (ss : List (List ℕ)) → Clear (sample_events cs ss)
unfolding cleared sample_events
of-samples [] ss = refl
of-samples (c ∷ cs) [] = refl
of-samples (c ∷ cs) (s ∷ ss) = both (map (numeral (width c.format)) s) (sample_events cs ss) (of-numbers (width c.format) s) (of-samples cs ss)

of-frame : (cs : List Channel) (f : Frame) → Clear (frame_written cs f)
unfolding cleared frame_written
of-frame cs f = rw (both (sample_events cs f.channels) _ (of-samples cs f.channels) refl)

of-frames : (t : ℕ) (cs : List Channel) (i : ℕ) (fs : List Frame) → Clear (frame_events t cs i fs)
unfolding cleared frame_events
of-frames t cs i [] = refl
of-frames t cs i (f ∷ fs) = both (record_of _ (frame_written cs f)) (frame_events t cs (suc i) fs) (of-record _ (frame_written cs f) (of-frame cs f)) (of-frames t cs (suc i) fs)

of-makers : (ms : List Maker) → Clear (maker_events ms)
unfolding cleared maker_events
of-makers [] = refl
of-makers (m ∷ ms) = both (record_of m.head _) (maker_events ms) (of-record m.head _ refl) (of-makers ms)

of-optional : (own : Bool) (t : List Event) → Clear t → Clear (optional own t)
unfolding cleared optional
of-optional true t k = k
of-optional false t k = refl

-- 120, 320 or 350, where it stands, and the makers' records behind it
of-group : (own : Bool) (g : Group) (cs : List Channel) (ms : List Maker) → Clear (optional own (record_of (channels_head g cs) (channels_written g cs) ++ maker_events ms))
unfolding cleared channels_written
of-group own g cs ms = of-optional own _ (both (record_of _ (channels_written g cs)) _ (of-record _ (channels_written g cs) (rw (of-channels g.sub 1 cs))) (of-makers ms))

of-content : (label : Label) (r : Recording) → Clear (content label r)
unfolding cleared content items_written frames_written delimiter_events
of-content label r =
    both (record_of _ (basic_fields r.basic)) _ (of-record _ (basic_fields r.basic) (of-basic r.basic))
    (both (maker_events r.makers₁) _ (of-makers r.makers₁)
    (both (optional r.own_channels _) _ (of-group r.own_channels (channels_group_of label r) r.channels r.makers₂)
    (both (optional r.own_patient _) _ (of-optional r.own_patient _ (both (record_of _ (items_written r.patient)) _ (of-record _ (items_written r.patient) (rw (of-items r.patient))) (of-makers r.makers₃)))
    (both (optional r.own_events _) _ (of-optional r.own_events _ (both (record_of _ (items_written r.events)) _ (of-record _ (items_written r.events) (rw (of-items r.events))) (of-makers r.makers₄)))
    (both (optional r.own_montage _) _ (of-group r.own_montage (montage_group_of r) r.montage r.makers₅)
    (both (record_of _ (frames_written r.seconds r.channels r.frames)) _ (of-record _ (frames_written r.seconds r.channels r.frames) (rw (both (frame_events r.seconds r.channels 1 r.frames) _ (of-frames r.seconds r.channels 1 r.frames) refl)))
    (both (maker_events r.makers₆) delimiter_events (of-makers r.makers₆) refl)))))))

pub of-recording : (label : Label) (h : Head) (r : Recording) (n : ℕ) → Clear (record_of h (content label r ++ (zeroes n ∷ [])))
unfolding cleared
of-recording label h r n = of-record h _ (both (content label r) _ (of-content label r) refl)

of-recordings : (label : Label) (i : ℕ) (rs : List Recording) → Clear (recording_events label i rs)
unfolding cleared recording_events
of-recordings label i [] = refl
of-recordings label i (r ∷ rs) =
    both (record_of _ _) (recording_events label (suc i) rs) (of-recording label (recording_head label i r) r (span (recording_head label i r) - (16 + size (content label r)))) (of-recordings label (suc i) rs)

pub reserve-zero : (v : Reading) → cleared (canonical v) ≡ canonical v
unfolding cleared anew header_events
reserve-zero v = both (header_events v.heading (length (words_of v).recordings)) (recording_events v.heading.label 1 (words_of v).recordings) refl (of-recordings v.heading.label 1 (words_of v).recordings)
