-- In an accepted file the texts that are answered are the reading's, and lie in the file: those of a channel, of a montage's channel, and of a patient or an
-- event item.
-- Assumes nothing.
use mathlib.Core.Path.{◌≡◌, refl, sym, ap, ◌∙◌}
use mathlib.Core.List.{List, []}
use Prim.Native.Nat.{ℕ, ◌+◌, ◌≤◌}
use native.Mathlib.Omega.{arith}
use lib.ListN.{length}
use Rattle.words.specs.Numbers.{Bytes, bytes_at}
use Rattle.words.specs.declared.Order.{Order}
use Rattle.walk.specs.Walk.{Event, passed, laid, Text}
use Rattle.walk.proofs.Laid.{laid-text}
use Rattle.rules.specs.Rules as R
use Rattle.rules.specs.Reading.{channel_reading, item_reading, reading}
use Rattle.records.specs.declared.items.Holder.{Holder}
use Rattle.questions.specs.Questions.{channel_of, montage_of, item_of}
use Rattle.questions.specs.Tied.{channel_read, montage_read, item_read, Alike, TextIs, TextsAre, WiredIs, ItemIs}
use Rattle.questions.specs.Values.{text_at, descriptor_of, wired_of, entry_of}
use Rattle.questions.proofs.Described.{wired_at, ChannelSeen, channel-seen, montage-seen, sub-seen}
use Rattle.questions.proofs.Entries.{ItemAt}
use Rattle.questions.proofs.Owners.{item-held}
use Rattle.questions.proofs.Readings.{numbers-are, channel-alike, montage-alike, item-alike}

-- what a walk reads as a text
text-is : (s : List ℕ) (o : Order) (p n : ℕ) {x : List ℕ} → p + n ≤ length s → x ≡ laid o Text (bytes_at n s p) → TextIs s (text_at p n) x
text-is s o p n l e = record { inside = l; bytes = sym (e ∙ laid-text o (bytes_at n s p)) }

texts-at : {k : R.Sub} {s : List ℕ} {p j : ℕ} {c : R.Channel} → ChannelSeen k s p j c → TextsAre s (descriptor_of c p) (channel_reading c)
unfolding descriptor_of
texts-at {s} {p} x =
    let o : Order = R.order_of s in
    let e = (sub-seen x).is in
    record {
      label = text-is s o _ _ (omega (arith, x.inside)) (ap (λ (y : R.Channel). y.label) e);
      unit = text-is s o _ _ (omega (arith, x.inside)) (ap (λ (y : R.Channel). y.unit) e);
      comment = text-is s o _ _ (omega (arith, x.inside)) (ap (λ (y : R.Channel). y.comment) e);
    }

entry_at : {s : List ℕ} {p : ℕ} {x : R.Item} → ItemAt (R.order_of s) s p x → ItemIs s (entry_of x p) (item_reading x)
entry_at z = record { code = refl; text = record { inside = omega (arith, z.fits); bytes = sym z.text } }

module _ (s : List ℕ) (b : Bytes s) {v : R.File} {t : List Event} (h : R.judge s ≡ passed v [] t) (i j : ℕ) where
  -- label, unit and comment of a channel
  pub channel-texts : Alike (TextsAre s) (channel_of s i j) (channel_read (reading v) i j)
  channel-texts = channel-alike s b h i j (λ r c is nth. texts-at (channel-seen s b h i r is j nth))

  -- a channel of a montage: its numbers, its texts and its inputs
  pub montage-wired : Alike (WiredIs s) (montage_of s i j) (montage_read (reading v) i j)
  unfolding wired_of
  montage-wired = montage-alike s b h i j (λ r c is nth. record { numbers = numbers-are c (wired_at r j); texts = texts-at (montage-seen s b h i r is j nth); g1 = refl; g2 = refl })

  -- code and text of an item
  pub item-text : (k : Holder) → Alike (ItemIs s) (item_of k s i j) (item_read k (reading v) i j)
  item-text k = item-alike s b h i k j (λ r x is nth. entry_at (item-held s b i r is k j nth))
