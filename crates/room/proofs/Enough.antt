-- One answer meets the contract of `room`; and with the room that it answers a rewrite is not refused by 17.
-- Assumes nothing.
use Rattle.std.proofs.Common.{Result, Ok, Err, Some, None}
use Rattle.std.specs.Prelude as Std
use mathlib.Core.Path.{◌≡◌, refl, sym, ap, ◌∙◌}
use mathlib.Core.List.{List, []}
use mathlib.Core.Option.{Option, none, some}
use Prim.Native.Nat.{ℕ, ◌+◌, ◌*◌, ◌≤◌}
use native.Mathlib.Omega.{arith}
use lib.ListN.{length}
use Rattle.words.specs.Numbers.{Bytes}
use Rattle.words.specs.declared.Order.{Order}
use Rattle.walk.specs.Walk.{Event, Outcome, refused, passed, rows}
use Rattle.rules.specs.Canonical.{rewritten}
use Rattle.rules.specs.Rules.{File, judge, order_of}
use Rattle.rules.specs.Reasons.{number_of}
use Rattle.rules.specs.declared.Refusal.{Refusal}
use Rattle.rules.proofs.Refusals.{refusals}
use Rattle.header.specs.Letters.{lettered}
use Rattle.makers.specs.Makers.{first_maker}
use Rattle.permit.specs.Permit.{refusal, meaning, permitted}
use Rattle.permit.proofs.Settled.{writes-unique, bytes-refusal, permit-bytes}
use Rattle.rewrite.specs.Rewrite.{barrier, asked, answered, Rewrites}
use Rattle.room.specs.Room.{reserve, room_of, RoomAnswer}
use Rattle.room.proofs.Growth.{longer-at-most}

pub room-unique : (s : List ℕ) (a b : Result ℕ Refusal) → RoomAnswer s a → RoomAnswer s b → a ≡ b
room-unique s a b h k = (writes-unique (room_of s) [] [] _ _ a b (record { answer = h; buffer = refl }) (record { answer = k; buffer = refl })).0

-- a refusal by 17 is none by another number
other : {m p q : ℕ} → refusal 17 p ≡ refusal m q → m ≡ 17
other h = cc

-- leave to write, with room: not 17
permit-enough : (made : Option ℕ) (n room p : ℕ) → n ≤ room → refusal 17 p ≡ permitted made n room → ⊥
permit-enough (some q) n room p l h = omega (arith, other h)
permit-enough none n room p l h = bytes-refusal (sym (h ∙ permit-bytes n room l))

-- room for the canonical file, in either order
module _ (s : List ℕ) (room : ℕ) (enough : (to : Order) → length (rewritten to s) ≤ room) where
  asked-enough : (a : Std.Option Order) (t : List Event) (n p : ℕ) → room ≤ n → refusal 17 p ≡ asked a s t n → ⊥
  asked-enough None t n p l h = omega (arith, other h)
  asked-enough (Some to) t n p l h = permit-enough (barrier (order_of s) to (first_maker (rows 0 t))) (length (rewritten to s)) n p (omega (arith, enough to)) h

  answer-enough : (x : Outcome File) → judge s ≡ x → (a : Std.Option Order) (n p : ℕ) → room ≤ n → refusal 17 p ≡ answered x a s n → ⊥
  answer-enough (refused m q) e a n p l h = omega (arith, other h, (refusals s e).1)
  answer-enough (passed v r t) e a n p l h = asked-enough a t n p l h

  -- a rewrite with this room is not refused by 17
  pub rewrite-enough : (order : ℕ) (out out' : List ℕ) (a : Result ℕ Refusal) → room ≤ length out → Rewrites s order out out' a → (r : Refusal) → a ≡ Err r →
      number_of r.0 ≡ 17 → ⊥
  rewrite-enough order out out' a l x r i e = answer-enough (judge s) refl (lettered order) (length out) r.1 l (rw e at (sym (ap meaning i) ∙ x.answer))

-- an accepted file: what `room` answers of it, which is enough
module _ (s : List ℕ) (b : Bytes s) {v : File} {t : List Event} (h : judge s ≡ passed v [] t) where
  pub room-told : (a : Result ℕ Refusal) → RoomAnswer s a → a ≡ Ok (length s + reserve * length v.recordings)
  room-told a x = room-unique s a _ x (rw h)

  pub reserved : (to : Order) → length (rewritten to s) ≤ length s + reserve * length v.recordings
  reserved to = omega (arith, longer-at-most s b h to)
