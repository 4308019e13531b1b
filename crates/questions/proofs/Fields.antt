-- The fields of a sub that a walk gave are the numbers in the bytes of its record; and a record that holds subs has as many as it counts.
-- Assumes nothing.
use mathlib.Core.Path.{◌≡◌, refl, sym, ◌∙◌}
use mathlib.Core.Bool.{Bool, true, false, not}
use mathlib.Core.List.{List}
use Prim.Native.Nat.{ℕ, ◌+◌, ◌-◌, ◌*◌}
use native.Mathlib.Omega.{arith}
use borrow.Author.Tests.{eqb-true}
use lib.Dec.{eqb}
use lib.IntN.{pos}
use lib.ListN.{length}
use Rattle.words.specs.Numbers.{number_at, bytes_at}
use Rattle.words.specs.Values.{signed}
use Rattle.words.specs.declared.Order.{Order}
use Rattle.words.proofs.Values.{signed-pos}
use Rattle.walk.specs.Walk.{pick, laid, Text, Walk, ◌>>=◌, ◌>>◌}
use Rattle.walk.specs.See.{see, goes, Yields}
use Rattle.walk.proofs.Seen.{yields, places}
use Rattle.rules.specs.Rules as R
use Rattle.rules.specs.Rules.{anything, fixed, head, admit, field_if, channel_body, channels, channels_body, montage}
use Rattle.rules.specs.declared.Label.{Label}
use Rattle.rules.proofs.Cases.{by_form}
use Rattle.records.proofs.Steps.{yields-channels}
use Rattle.descriptions.proofs.Stands.{yields-weaken}
use Rattle.questions.specs.Values.{field_in}

-- the sub at byte p
abbrev pub channel_at : R.Sub → Order → List ℕ → ℕ → R.Channel
channel_at k o s p = record {
  channel = number_at o 4 s (p + 16);
  flags = number_at o 4 s (p + 20);
  type = number_at o 4 s (p + 24);
  format = number_at o 4 s (p + 28);
  rate = number_at o 4 s (p + 32);
  cal = number_at o 4 s (p + 36);
  cal_ad = number_at o 4 s (p + 40);
  offset_ad = number_at o 4 s (p + 44);
  offset_cal = number_at o 4 s (p + 48);
  cal_frequency = pick k.calibrated (number_at o 4 s (p + 52)) 0;
  low_cut = number_at o 4 s (p + 56);
  high_cut = number_at o 4 s (p + 60);
  sensitivity = pick k.calibrated (number_at o 4 s (p + 64)) 0;
  label = laid o Text (bytes_at 16 s (p + 72));
  unit = laid o Text (bytes_at 16 s (p + 88));
  g1 = pick k.wired (number_at o 4 s (p + 104)) 0;
  g2 = pick k.wired (number_at o 4 s (p + 108)) 0;
  comment = laid o Text (bytes_at 60 s (p + 196));
}

-- what the walk of a sub at byte p tested, and what it gave
pub record SubRead (k : R.Sub) (o : Order) (s : List ℕ) (p i : ℕ) (c : R.Channel) : Type 0 where
  pub is : c ≡ channel_at k o s p
  pub code : eqb (number_at o 4 s (p + 4)) k.code ≡ true
  pub serial : eqb i (number_at o 4 s (p + 8)) ≡ true
  pub format : k.format (number_at o 4 s (p + 28)) ≡ true

-- a field that an electrode does not have: its number, where the sub's code is not an electrode's
field-by : (b : Bool) (n : ℕ) → pick b (pos 0) (signed 4 n) ≡ signed 4 (pick (not b) n 0)
field-by true n = sym (signed-pos 4 0 (omega arith))
field-by false n = refl

module _ (o : Order) (s : List ℕ) (p : ℕ) where
  -- a field that only some subs have: its number, or 0
  yields_field : {A : Type 0} (c : Bool) (ok : ℕ → Bool) (f : ℕ → Walk A) (at : ℕ) (Q : A → ℕ → Type 0) →
      Yields o 0 s (at + 4) (f (pick c (number_at o 4 s (at - 0)) 0)) Q → Yields o 0 s at (field_if c ok >>= f) Q
  unfolding field_if ◌>>=◌
  yields_field true ok f at Q k = λ _. k
  yields_field false ok f at Q k = k

  yields-channel : (k : R.Sub) (room i : ℕ) → Yields o 0 s p (R.channel k room i) (λ c e. SubRead k o s p i c)
  unfolding fixed head admit channel_body ◌>>=◌ ◌>>◌
  yields-channel k room i _ code _ _ serial _ _ format _ =
      yields_field k.calibrated anything _ _ _ (yields_field k.calibrated anything _ _ _ (yields_field k.wired k.input _ _ _ (yields_field k.wired k.input _ _ _
      (record { is = simp places; code = simp places at code; serial = simp places at serial; format = simp places at format }))))

  pub sub_read : (k : R.Sub) (room i : ℕ) {c : R.Channel} {e : ℕ} → see o 0 s p (R.channel k room i) ≡ goes c e → SubRead k o s p i c
  sub_read k room i h = yields o 0 s (R.channel k room i) p _ (yields-channel k room i) h

  pub field-read : {k : R.Sub} {i : ℕ} {c : R.Channel} → SubRead k o s p i c → k.calibrated ≡ not (eqb k.code 325) → (offset : ℕ) →
      field_in o s p offset ≡ signed 4 (pick k.calibrated (number_at o 4 s (p + offset)) 0)
  unfolding field_in
  field-read {k} x h offset = rw (eqb-true (number_at o 4 s (p + 4)) k.code x.code, h) (field-by (eqb k.code 325) (number_at o 4 s (p + offset)))

  -- the subs of the 120, 320 or 350 at byte p, up to e: as many as it counts
  pub record Counted (cs : List R.Channel) (e : ℕ) : Type 0 where
    pub count : length cs ≡ number_at o 4 s (p + 16)
    pub end : e ≡ p + 32 + 256 * length cs

  yields-counted : (g : R.Group) (room : ℕ) (h : R.Head) → Yields o 0 s (p + 16) (channels g room h) Counted
  unfolding channels channels_body admit ◌>>=◌ ◌>>◌
  yields-counted g room h _ _ _ _ _ _ _ =
      let m : ℕ = number_at o 4 s (p + 16 - 0) in
      let z : p + 16 + 4 + 4 + 8 ≡ 0 + (p + 32) = omega arith in
      rw z (yields-weaken o 0 s (R.series m 1 256 (R.span h - 32) (R.channel g.sub)) (0 + (p + 32)) _ _
      (λ cs e q. record { count = simp places at q.1; end = q.2 ∙ rw (← q.1) (omega arith) })
      (yields-channels o 0 s g.sub (R.span h - 32) m 1 (p + 32)))

  -- so of a 350, in either form
  pub montage-counted : (label : Label) (es : List R.Channel) (room : ℕ) (h : R.Head) {cs : List R.Channel} {e : ℕ} → see o 0 s (p + 16) (montage label es room h) ≡ goes cs e → Counted cs e
  unfolding montage
  montage-counted label es room h =
      yields o 0 s (montage label es room h) (p + 16) Counted
      (by_form (λ l. Yields o 0 s (p + 16) (montage l es room h) Counted) label tt (yields-counted (R.montage_group (length es)) room h))
