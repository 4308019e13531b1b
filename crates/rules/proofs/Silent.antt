-- Walks of the rules that list no row.
-- Assumes nothing.
use mathlib.Core.Bool.{Bool}
use mathlib.Core.List.{List, [], ◌∷◌}
use Prim.Native.Nat.{ℕ, zero, suc, ◌+◌, ◌-◌}
use Rattle.walk.specs.Walk.{◌>>=◌, ◌>>◌}
use Rattle.walk.proofs.Told.{Silent, silent-bind}
use Rattle.rules.specs.Rules.{head, basic_body, zeros, padding, Channel, channel_body, Sub, field_if, item, item_size, item_list, items_body, number_list, samples, sample_bytes, samples_in, width, frame_body}
use Rattle.rules.proofs.Cases.{by_shape}

pub silent-head : (room : ℕ) → Silent (head room)
unfolding head ◌>>=◌ ◌>>◌
silent-head room = λ _ _ _ _. tt

pub silent-basic_body : Silent basic_body
unfolding basic_body ◌>>=◌ ◌>>◌
silent-basic_body = λ _ _ _ _ _ _ _ _ _ _ _ _. tt

silent-zeros : (bs : List ℕ) → Silent (zeros bs)
unfolding zeros
silent-zeros [] = tt
silent-zeros (x ∷ bs) = silent-zeros bs

pub silent-padding : (n : ℕ) → Silent (padding n)
unfolding padding
silent-padding n = silent-zeros

silent-numbers : (w n : ℕ) → Silent (number_list w n)
unfolding number_list ◌>>=◌
silent-numbers w zero = tt
silent-numbers w (suc n) = λ v. silent-bind (number_list w n) _ (silent-numbers w n) (λ _. tt)

silent-samples : (t : ℕ) (cs : List Channel) → Silent (samples t cs)
unfolding samples
silent-samples t [] = tt
silent-samples t (c ∷ cs) = silent-bind (number_list (width c.format) (samples_in t c)) _ (silent-numbers (width c.format) (samples_in t c)) (λ _. silent-bind (samples t cs) _ (silent-samples t cs) (λ _. tt))

pub silent-frame_body : (size t : ℕ) (cs : List Channel) → Silent (frame_body size t cs)
unfolding frame_body ◌>>=◌ ◌>>◌
silent-frame_body size t cs = λ _ _ _. silent-bind (samples t cs) _ (silent-samples t cs) (λ _. silent-bind (padding (size - (24 + sample_bytes t cs))) _ (silent-padding (size - (24 + sample_bytes t cs))) (λ _. tt))

pub silent-channel_body : (k : Sub) → Silent (channel_body k)
unfolding channel_body field_if ◌>>=◌ ◌>>◌
silent-channel_body =
    by_shape (λ k. Silent (channel_body k))
    (λ k _ _ _ _ _ _ _ _ _ _ _ _ _ _ _ _ _ _. tt)
    (λ k _ _ _ _ _ _ _ _ _ _ _ _ _ _ _ _. tt)
    (λ k _ _ _ _ _ _ _ _ _ _ _ _ _ _ _ _. tt)
    (λ k _ _ _ _ _ _ _ _ _ _ _ _ _ _. tt)

silent-item : (ok : ℕ → Bool) (room : ℕ) → Silent (item ok room)
unfolding item ◌>>=◌ ◌>>◌
silent-item ok room = λ _ _ _. tt

silent-item_list : (ok : ℕ → Bool) (n room : ℕ) → Silent (item_list ok n room)
unfolding item_list
silent-item_list ok zero room = tt
silent-item_list ok (suc n) room = silent-bind (item ok room) _ (silent-item ok room) (λ i. silent-bind (item_list ok n (room - item_size i)) _ (silent-item_list ok n (room - item_size i)) (λ _. tt))

pub silent-items_body : (ok : ℕ → Bool) (n : ℕ) → Silent (items_body ok n)
unfolding items_body ◌>>=◌ ◌>>◌
silent-items_body ok n = λ m. silent-bind (item_list ok m (n - 24)) _ (silent-item_list ok m (n - 24)) (λ _. tt)
