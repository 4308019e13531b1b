-- Two answers with one meaning are one answer, where the answer can be had again from what it means: uniqueness of a contract, once for all calls.
-- Assumes nothing.
use mathlib.Core.Path.{◌≡◌, sym, ap, ◌∙◌}

pub one : {X E : Type 0} (meaning : E → X) (again : X → E) → ((a : E) → again (meaning a) ≡ a) → {x : X} {a b : E} → meaning a ≡ x → meaning b ≡ x → a ≡ b
one meaning again back {a} {b} h k = sym (back a) ∙ ap again (h ∙ sym k) ∙ back b
