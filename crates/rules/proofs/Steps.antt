-- A recording's body, one record after the other: 100, the parts that may be absent, and from the 140 to the end.
-- Assumes nothing.
use mathlib.Core.Path.{◌≡◌, refl}
use mathlib.Core.List.{[]}
use mathlib.Core.Option.{Option, some}
use Prim.Native.Nat.{ℕ, ◌-◌}
use Rattle.walk.specs.Walk.{Walk, ◌>>=◌}
use Rattle.walk.proofs.Laws.{bind-step}
use Rattle.rules.specs.Rules.{Head, span, basic, Label, channels_group, channels, montage, items, patient_code, next, part, event_table, Held, held_channels, held_patient, Placed, descriptions, signals, recording_body}

-- with a head of so many bytes
abbrev pub step_by_step : Label → Option Held → ℕ → Head → Walk Placed
step_by_step label held bytes h =
    basic (bytes - 16) >>= λ b.
    next label bytes (bytes - 144) >>= λ n.
    part label bytes (channels_group label b.channels).code (channels (channels_group label b.channels)) (held_channels held) n >>= λ c.
    part label bytes 130 (items patient_code) (held_patient held) c.next >>= λ p.
    event_table label bytes p.next >>= λ e.
    part label bytes 350 (montage label c.value) (some []) e.next >>= λ m.
    signals label (record { basic = b; next = n; channels = c; patient = p; events = e; montage = m }) h

pub body-steps : (label : Label) (held : Option Held) (h : Head) → recording_body label held h ≡ step_by_step label held (span h) h
unfolding recording_body descriptions ◌>>=◌
body-steps label held h =
    bind-step (basic (span h - 16)) _ _ _ λ b.
    bind-step (next label (span h) (span h - 144)) _ _ _ λ n.
    bind-step (part label (span h) (channels_group label b.channels).code (channels (channels_group label b.channels)) (held_channels held) n) _ _ _ λ c.
    bind-step (part label (span h) 130 (items patient_code) (held_patient held) c.next) _ _ _ λ p.
    bind-step (event_table label (span h) p.next) _ _ _ λ e.
    bind-step (part label (span h) 350 (montage label c.value) (some []) e.next) _ _ _ λ m. refl
