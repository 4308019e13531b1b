-- What the walks that the code loops over come to, one step at a time.
-- Assumes nothing.
use mathlib.Core.Path.{◌≡◌, refl, sym, ap, ◌∙◌}
use mathlib.Core.Bool.{Bool, true, false}
use mathlib.Core.List.{List, [], ◌∷◌}
use Prim.Native.Nat.{ℕ, zero, suc, ◌+◌, ◌*◌, ◌-◌, ◌≤◌, ◌<◌}
use native.Mathlib.Nat.{add-zero, add_assoc, sub_self, add-sub_cancel_left, suc-mul, mul_comm}
use native.Mathlib.Numerals.{add-one}
use native.Mathlib.Omega.{arith}
use lib.ListN.{length, take, drop, length-drop}
use lib.Seq.{length-take-le}
use lib.Dec.{leb, eqb}
use Rattle.words.specs.Numbers.{number_at, bytes_at}
use Rattle.words.specs.Runs.{first_nonzero}
use Rattle.words.specs.declared.Order.{Order}
use Rattle.walk.specs.See.{Yields, gate, ends, Verdict, stops, goes, Goes, see, over, onward}
use Rattle.walk.specs.Walk.{laid, Text, Walk, give, number, ◌>>=◌, ◌>>◌}
use Rattle.walk.proofs.Laid.{laid-padding}
use Rattle.walk.proofs.Seen.{yields-bind, yields-then, places, back, add-sub-add, eqb-add, then-gate, over-gate, over-goes, see-bind, then-skip, over-then, went, stopped, stays-goes, walks, see-read, over-give}
use Rattle.rules.specs.declared.Label.{Label}
use Rattle.rules.specs.Rules.{most_of, items_body, Head, head, admit, span, maker_code, next, zeros, padding, more, series, Item, item, item_size, item_bytes, item_list, between, dated, days_in, is_mains, basic_body, Channel, width, samples_in, samples_of, sample_bytes, number_list, samples, coded, fixed, Sub, Group, anything, field_if, channel_body, channel, channels, channels_body, items}
use Rattle.rules.proofs.Room.{stays-item, stays-item_list}
use Rattle.records.specs.Says.{KeptOne, Kept, headroom}

-- an answer put before a list that follows, of which only the place is kept
pub ends-cons : {A B : Type 0} (f : A → B) (v : Verdict A) → ends (onward v (λ l e. goes (f l) e)) ≡ ends v
ends-cons f v = over-give (λ _. tt) f v

-- items, one more and none. The room is what is left of the part from p on
module _ (o : Order) (b : ℕ) (s : List ℕ) (ok : ℕ → Bool) where
  list-suc : (at n room : ℕ) →
      ends (see o b s at (item_list ok (suc n) room)) ≡ onward (see o b s at (item ok room)) (λ i e. ends (see o b s e (item_list ok n (room - item_size i))))
  unfolding item_list see
  list-suc at n room =
      rw see-bind (over-then (λ _. tt) (see o b s at (item ok room)) (λ i e. see o b s e (item_list ok n (room - item_size i) >>= λ l. give (i ∷ l))) (λ i e. ends (see o b s e (item_list ok n (room - item_size i))))
      (λ i e. ap ends (see-bind o b s e (item_list ok n (room - item_size i)) (λ l. give (i ∷ l))) ∙ ends-cons (λ l. i ∷ l) (see o b s e (item_list ok n (room - item_size i)))))

  pub list-none : (at room n i : ℕ) → n ≤ i → ends (see o b s at (item_list ok (n - i) room)) ≡ goes tt at
  unfolding item_list see over
  list-none at room n i h = let d : n - i ≡ 0 = omega arith in rw d

  pub list-stop : (at room n i m q : ℕ) → i < n → ends (see o b s at (item ok room)) ≡ stops m q → ends (see o b s at (item_list ok (n - i) room)) ≡ stops m q
  list-stop at room n i m q h k =
      let d : n - i ≡ suc (n - (i + 1)) = omega arith in
      rw (d, list-suc at (n - (i + 1)) room, stopped (λ _. tt) (see o b s at (item ok room)) k)

  pub list-go : (p q n i : ℕ) → i < n → p ≤ length s → ends (see o b s (b + p) (item ok (length s - p))) ≡ goes tt (b + q) →
      ends (see o b s (b + p) (item_list ok (n - i) (length s - p))) ≡ ends (see o b s (b + q) (item_list ok (n - (i + 1)) (length s - q)))
  list-go p q n i h l k =
      let d : n - i ≡ suc (n - (i + 1)) = omega arith in
      let g : Goes (see o b s (b + p) (item ok (length s - p))) (λ _ x. (tt ≡ tt) × (x ≡ b + q)) = went (λ _. tt) (see o b s (b + p) (item ok (length s - p))) k in
      let z : (g.end ≡ b + p + item_size g.value) × (g.end ≤ b + p + (length s - p)) = stays-goes o b s (b + p + (length s - p)) (omega arith) (item ok (length s - p)) (b + p) _ (omega arith) (stays-item ok (length s - p) (b + p)) g.is in
      let e : length s - p - item_size g.value ≡ length s - q = omega (arith, g.kept.1, z.0) in
      rw (d, list-suc (b + p) (n - (i + 1)) (length s - p), g.is, e, g.kept.1)

-- records of one size, one more and none
module _ {A : Type 0} (o : Order) (b : ℕ) (s : List ℕ) (step : ℕ) (w : ℕ → ℕ → Walk A) where
  series-suc : (at n i room : ℕ) →
      ends (see o b s at (series (suc n) i step room w)) ≡ onward (see o b s at (w room i)) (λ _ e. ends (see o b s e (series n (suc i) step (room - step) w)))
  unfolding series see
  series-suc at n i room =
      rw see-bind (over-then (λ _. tt) (see o b s at (w room i)) (λ a e. see o b s e (series n (suc i) step (room - step) w >>= λ l. give (a ∷ l))) (λ _ e. ends (see o b s e (series n (suc i) step (room - step) w)))
      (λ a e. ap ends (see-bind o b s e (series n (suc i) step (room - step) w) (λ l. give (a ∷ l))) ∙ ends-cons (λ l. a ∷ l) (see o b s e (series n (suc i) step (room - step) w))))

  pub series-none : (at room n i : ℕ) → n ≤ i → ends (see o b s at (series (n - i) (i + 1) step room w)) ≡ goes tt at
  unfolding series see over
  series-none at room n i h = let d : n - i ≡ 0 = omega arith in rw d

  pub series-stop : (at room n i m q : ℕ) → i < n → ends (see o b s at (w room (i + 1))) ≡ stops m q → ends (see o b s at (series (n - i) (i + 1) step room w)) ≡ stops m q
  series-stop at room n i m q h k =
      let d : n - i ≡ suc (n - (i + 1)) = omega arith in
      rw (d, series-suc at (n - (i + 1)) (i + 1) room, stopped (λ _. tt) (see o b s at (w room (i + 1))) k)

  pub series-go : (p q n i : ℕ) → i < n → q ≡ p + step → ends (see o b s (b + p) (w (length s - p) (i + 1))) ≡ goes tt (b + q) →
      ends (see o b s (b + p) (series (n - i) (i + 1) step (length s - p) w)) ≡ ends (see o b s (b + q) (series (n - (i + 1)) (i + 1 + 1) step (length s - q) w))
  series-go p q n i h l k =
      let d : n - i ≡ suc (n - (i + 1)) = omega arith in
      let e : length s - p - step ≡ length s - q = omega arith in
      let g : Goes (see o b s (b + p) (w (length s - p) (i + 1))) (λ _ x. (tt ≡ tt) × (x ≡ b + q)) = went (λ _. tt) (see o b s (b + p) (w (length s - p) (i + 1))) k in
      rw (d, add-one (i + 1), series-suc (b + p) (n - (i + 1)) (i + 1) (length s - p), g.is, e, g.kept.1)

-- padding: the walk stands behind it, and the first byte that is not zero is so many back
module _ (o : Order) (b : ℕ) (s : List ℕ) where
  zeros-cons : (a : ℕ) (l : List ℕ) (t : Bool) → eqb a 0 ≡ t → ((x : ℕ) → first_nonzero l < length l → see o b s (x + length l) (zeros l) ≡ stops 15 (x + first_nonzero l)) →
      (x : ℕ) → first_nonzero (a ∷ l) < length (a ∷ l) → see o b s (x + length (a ∷ l)) (zeros (a ∷ l)) ≡ stops 15 (x + first_nonzero (a ∷ l))
  unfolding zeros first_nonzero see gate
  zeros-cons a l true e on x h =
      let k : first_nonzero l < length l = omega (arith, rw e at h) in
      let d : x + length (a ∷ l) ≡ x + 1 + length l = omega arith in
      let f : x + 1 + first_nonzero l ≡ x + suc (first_nonzero l) = omega arith in
      rw e (ap (λ (y : ℕ). see o b s y (zeros l)) d ∙ (on (x + 1) k ∙ ap (λ (y : ℕ). stops 15 y) f))
  zeros-cons a l false e on x h = let d : x + length (a ∷ l) - suc (length l) ≡ x + 0 = omega arith in rw e (ap (λ (y : ℕ). stops 15 y) d)

  zeros-found : (l : List ℕ) (x : ℕ) → first_nonzero l < length l → see o b s (x + length l) (zeros l) ≡ stops 15 (x + first_nonzero l)
  zeros-found [] x h = absurd (omega (arith, h))
  zeros-found (a ∷ l) x h = zeros-cons a l (eqb a 0) refl (zeros-found l) x h

  clear-cons : (a : ℕ) (l : List ℕ) (t : Bool) → eqb a 0 ≡ t → ((x : ℕ) → length l ≤ first_nonzero l → see o b s x (zeros l) ≡ goes tt x) →
      (x : ℕ) → length (a ∷ l) ≤ first_nonzero (a ∷ l) → see o b s x (zeros (a ∷ l)) ≡ goes tt x
  unfolding zeros first_nonzero see gate
  clear-cons a l true e on x h = rw e (on x (omega (arith, rw e at h)))
  clear-cons a l false e on x h = absurd (omega (arith, rw e at h))

  zeros-clear : (l : List ℕ) (x : ℕ) → length l ≤ first_nonzero l → see o b s x (zeros l) ≡ goes tt x
  unfolding zeros see
  zeros-clear [] x h = refl
  zeros-clear (a ∷ l) x h = clear-cons a l (eqb a 0) refl (zeros-clear l) x h

  -- k: what the code found
  module _ (p to k : ℕ) (low : p ≤ to) (high : to ≤ length s) (is : k ≡ first_nonzero (take (to - p) (drop p s))) where
    pad-open : see o b s (b + p) (padding (to - p)) ≡ see o b s (b + p + (to - p)) (zeros (take (to - p) (drop p s)))
    unfolding bytes_at padding
    pad-open = rw (see-read, laid-padding, add-sub_cancel_left b p)

    pad-length : length (take (to - p) (drop p s)) ≡ to - p
    pad-length = length-take-le (to - p) (drop p s) (rw length-drop (omega arith))

    pub pad-stop : k < length (take (to - p) (drop p s)) → see o b s (b + p) (padding (to - p)) ≡ stops 15 (b + p + k)
    pad-stop h =
        pad-open ∙ (ap (λ (y : ℕ). see o b s (b + p + y) (zeros (take (to - p) (drop p s)))) (sym pad-length) ∙
        (zeros-found (take (to - p) (drop p s)) (b + p) (omega (arith, is)) ∙ ap (λ (y : ℕ). stops 15 (b + p + y)) (sym is)))

    pub pad-clear : length (take (to - p) (drop p s)) ≤ k → see o b s (b + p) (padding (to - p)) ≡ goes tt (b + to)
    pad-clear h =
        let d : b + p + (to - p) ≡ b + to = omega arith in
        pad-open ∙ (zeros-clear (take (to - p) (drop p s)) (b + p + (to - p)) (omega (arith, is)) ∙ ap (λ (y : ℕ). goes tt y) d)

-- what the body of the record 100 at `at` comes to: its tests, one after the other
pub basic-open : (o : Order) (at : ℕ) (s : List ℕ) → see o (at + 16) s (at + 16) basic_body ≡
    gate (eqb 1 (number_at o 4 s 0)) (gate (between 1 128 (number_at o 4 s 4)) (gate (between 1 1_000_000 (number_at o 4 s 8)) (gate (leb (number_at o 4 s 16) 9999) (gate (dated (number_at o 4 s 16) 12 (number_at o 4 s 20)) (gate (dated (number_at o 4 s 16) (days_in (number_at o 4 s 16) (number_at o 4 s 20)) (number_at o 4 s 24)) (gate (leb (number_at o 4 s 28) 23) (gate (leb (number_at o 4 s 32) 59) (gate (leb (number_at o 4 s 36) 59) (gate (is_mains (number_at o 4 s 60)) (goes (record { channels = number_at o 4 s 4; frames = number_at o 4 s 8; year = number_at o 4 s 16; month = number_at o 4 s 20; day = number_at o 4 s 24; hour = number_at o 4 s 28; minute = number_at o 4 s 32; second = number_at o 4 s 36; time = laid o Text (bytes_at 20 s 40); mains = number_at o 4 s 60; comment = laid o Text (bytes_at 32 s 80) }) (at + 128))
    13 (at + 76))
    13 (at + 52))
    13 (at + 48))
    13 (at + 44))
    13 (at + 40))
    13 (at + 36))
    13 (at + 32))
    13 (at + 24))
    13 (at + 20))
    13 (at + 16)
unfolding basic_body see ◌>>=◌ ◌>>◌
basic-open o at s = simp (add_assoc, add-sub-add, sub_self, back)

-- the body of a record of items
module _ (o : Order) (at : ℕ) (s : List ℕ) (ok : ℕ → Bool) where
  -- the list, and the test of its end
  items-open : leb (number_at o 4 s 0) 256 ≡ true → see o (at + 16) s (at + 16) (items_body ok (16 + length s)) ≡
      onward (see o (at + 16) s (at + 24) (item_list ok (number_at o 4 s 0) (length s - 8))) (λ is e. gate (eqb (24 + item_bytes is) (16 + length s)) (goes is e) 14 (e - (8 + item_bytes is)))
  unfolding items_body
  items-open h =
      let r : 16 + length s - 24 ≡ length s - 8 = omega arith in
      simp (walks, then-gate, h, r)

  pub items-many : leb (number_at o 4 s 0) 256 ≡ false → ends (see o (at + 16) s (at + 16) (items_body ok (16 + length s))) ≡ stops 13 (at + 16)
  unfolding items_body
  items-many h = simp (walks, h)

  pub items-stop : {m p : ℕ} → leb (number_at o 4 s 0) 256 ≡ true → ends (see o (at + 16) s (at + 16 + 8) (item_list ok (number_at o 4 s 0) (length s - 8))) ≡ stops m p → ends (see o (at + 16) s (at + 16) (items_body ok (16 + length s))) ≡ stops m p
  unfolding over
  items-stop h k = rw (items-open h, ← add_assoc at 16 8, stopped (λ _. tt) (see o (at + 16) s (at + 16 + 8) (item_list ok (number_at o 4 s 0) (length s - 8))) k)

  items-ends : (is : List Item) (e q : ℕ) → e ≡ at + 16 + 8 + item_bytes is → e ≡ at + 16 + q → ends (gate (eqb (24 + item_bytes is) (16 + length s)) (goes is e) 14 (e - (8 + item_bytes is))) ≡ gate (eqb q (length s)) (goes tt (at + 16 + q)) 14 (at + 16)
  items-ends is e q i j =
      let x : 24 + item_bytes is ≡ 16 + q = omega arith in
      let y : e - (8 + item_bytes is) ≡ at + 16 = omega arith in
      rw (y, x, eqb-add 16 q (length s), over-gate, over-goes, j)

  pub items-end : (q : ℕ) → leb (number_at o 4 s 0) 256 ≡ true → 8 ≤ length s → ends (see o (at + 16) s (at + 16 + 8) (item_list ok (number_at o 4 s 0) (length s - 8))) ≡ goes tt (at + 16 + q) →
      ends (see o (at + 16) s (at + 16) (items_body ok (16 + length s))) ≡ gate (eqb q (length s)) (goes tt (at + 16 + q)) 14 (at + 16)
  items-end q h l k =
      let w : Walk (List Item) = item_list ok (number_at o 4 s 0) (length s - 8) in
      let g : Goes (see o (at + 16) s (at + 16 + 8) w) (λ _ x. (tt ≡ tt) × (x ≡ at + 16 + q)) = went (λ _. tt) (see o (at + 16) s (at + 16 + 8) w) k in
      let z : (g.end ≡ at + 16 + 8 + item_bytes g.value) × (g.end ≤ at + 16 + 8 + (length s - 8)) = stays-goes o (at + 16) s (at + 16 + 8 + (length s - 8)) (omega arith) w (at + 16 + 8) _ (omega arith) (stays-item_list ok (number_at o 4 s 0) (length s - 8) (at + 16 + 8)) g.is in
      rw (items-open h, ← add_assoc at 16 8, g.is) (items-ends g.value g.end q z.0 g.kept.1)

-- channels still to count, from byte p on
pub record Rest (o : Order) (s : List ℕ) (p t n sum : ℕ) (cs : List Channel) : Type 0 where
  pub rest : List Channel
  pub count : length rest ≡ n
  pub kept : Kept o s p rest
  pub total : sum + sample_bytes t rest ≡ sample_bytes t cs

module _ {o : Order} {s : List ℕ} {p t sum : ℕ} {cs : List Channel} where
  pub rest-none : {n : ℕ} → Rest o s p t n sum cs → n ≡ 0 → sum ≡ sample_bytes t cs
  unfolding sample_bytes
  rest-none {n} x h = go x.rest x.count x.total
    where
      go : (r : List Channel) → length r ≡ n → sum + sample_bytes t r ≡ sample_bytes t cs → sum ≡ sample_bytes t cs
      go [] e q = sym (add-zero sum) ∙ q
      go (c ∷ r) e q = absurd (omega (arith, e))

  pub rest_more : {n : ℕ} → Rest o s p t n sum cs → (m : ℕ) → n ≡ suc m → (flags format rate : ℕ) →
      flags ≡ number_at o 4 s (p + 20) → format ≡ number_at o 4 s (p + 28) → rate ≡ number_at o 4 s (p + 32) → Rest o s (p + 256) t m (sum + width format * samples_of t flags rate) cs
  unfolding sample_bytes
  rest_more {n} x m h flags format rate e₁ e₂ e₃ = go x.rest x.count x.kept x.total
    where
      go : (r : List Channel) → length r ≡ n → Kept o s p r → sum + sample_bytes t r ≡ sample_bytes t cs → Rest o s (p + 256) t m (sum + width format * samples_of t flags rate) cs
      go [] e k q = absurd (omega (arith, e))
      go (c ∷ r) e k q = record { rest = r; count = omega (arith, e); kept = k.1; total = rw (e₁, e₂, e₃, ← k.0.flags, ← k.0.format, ← k.0.rate, mul_comm (width c.format) (samples_in t c), add_assoc) q }

-- what a sub that passed holds is what stands in its bytes
module _ (o : Order) (b : ℕ) (s : List ℕ) where
  -- a field that only some subs have takes its 4 bytes either way
  pub yields-field_if : {A : Type 0} (c : Bool) (ok : ℕ → Bool) (f : ℕ → Walk A) (at : ℕ) (Q : A → ℕ → Type 0) → ((n : ℕ) → Yields o b s (at + 4) (f n) Q) → Yields o b s at (field_if c ok >>= f) Q
  unfolding field_if ◌>>=◌
  yields-field_if true ok f at Q k = λ _. k _
  yields-field_if false ok f at Q k = k 0

  yields-channel_body : (k : Sub) (p : ℕ) → Yields o b s (b + (p + 16)) (channel_body k) (λ c e. KeptOne o s p c × (e ≡ b + (p + 256)))
  unfolding channel_body ◌>>=◌ ◌>>◌
  yields-channel_body k p _ _ _ _ =
      yields-field_if k.calibrated anything _ _ _ λ _. yields-field_if k.calibrated anything _ _ _ λ _. yields-field_if k.wired k.input _ _ _ λ _. yields-field_if k.wired k.input _ _ _ λ _.
      (record { flags = simp places; type = simp places; format = simp places; rate = simp places }, simp places)

  yields-head : (room p : ℕ) → Yields o b s (b + p) (head room) (λ h e. e ≡ b + (p + 16))
  unfolding head ◌>>=◌ ◌>>◌
  yields-head room p _ = simp places

  yields-admit : (h : Head) (room : ℕ) (f g : ℕ → Bool) (x : ℕ) → Yields o b s x (admit room 0 f g h) (λ _ y. y ≡ x)
  unfolding admit ◌>>=◌ ◌>>◌
  yields-admit h room f g x _ _ _ = refl

  yields-channel : (k : Sub) (room i p : ℕ) → Yields o b s (b + p) (channel k room i) (λ c e. KeptOne o s p c × (e ≡ b + (p + 256)))
  unfolding fixed
  yields-channel k room i p =
      yields-bind o b s (head room) _ (b + p) (λ h e. e ≡ b + (p + 16)) _ (yields-head room p)
      (λ h e q. yields-then o b s (coded h k.code) _ e (λ _ x. x ≡ e) _ (λ _. refl)
      (λ _ x u. yields-then o b s (admit room 0 (eqb 256) (eqb i) h) _ x (λ _ y. y ≡ x) _ (yields-admit h room (eqb 256) (eqb i) x)
      (λ _ y v. rw (v, u, q) (yields-channel_body k p))))

  pub yields-channels : (k : Sub) (room n i p : ℕ) → Yields o b s (b + p) (series n i 256 room (channel k)) (λ cs e. Kept o s p cs × (length cs ≡ n) × (e ≡ b + (p + 256 * n)))
  unfolding series
  yields-channels k room zero i p = (tt, refl, omega arith)
  yields-channels k room (suc n) i p =
      yields-bind o b s (channel k room i) _ (b + p) _ _ (yields-channel k room i p)
      (λ c e q. rw q.1 (yields-bind o b s (series n (suc i) 256 (room - 256) (channel k)) _ (b + (p + 256)) _ _ (yields-channels k (room - 256) n (suc i) (p + 256))
      (λ cs x r. ((q.0, r.0), ap suc r.1, r.2 ∙ omega arith))))

-- samples are read, whatever they are
module _ (o : Order) (b : ℕ) (s : List ℕ) where
  ends-numbers : (w n at : ℕ) → ends (see o b s at (number_list w n)) ≡ goes tt (at + n * w)
  unfolding number_list see over
  ends-numbers w zero at = ap (λ (x : ℕ). goes tt x) (omega arith)
  ends-numbers w (suc n) at =
      let d : suc n * w ≡ n * w + w = suc-mul n w in
      ap ends (see-bind o b s at (number w give) (λ v. number_list w n >>= λ l. give (v ∷ l))) ∙
      (ap ends (see-bind o b s (at + w) (number_list w n) (λ l. give (number_at o w s (at - b) ∷ l))) ∙
      (ends-cons (λ l. number_at o w s (at - b) ∷ l) (see o b s (at + w) (number_list w n)) ∙ (ends-numbers w n (at + w) ∙ ap (λ (x : ℕ). goes tt x) (omega arith))))

  pub ends-samples : (t : ℕ) (cs : List Channel) (at : ℕ) → ends (see o b s at (samples t cs)) ≡ goes tt (at + sample_bytes t cs)
  unfolding samples sample_bytes
  ends-samples t [] at = simp walks
  ends-samples t (c ∷ cs) at =
      let w : ℕ = width c.format in
      let n : ℕ = samples_in t c in
      rw (see-bind o b s at (number_list w n) (λ l. samples t cs >>= λ r. give (l ∷ r)))
      (then-skip (see o b s at (number_list w n)) (λ l e. see o b s e (samples t cs >>= λ r. give (l ∷ r))) (at + n * w) (goes tt (at + (n * w + sample_bytes t cs))) (ends-numbers w n at)
      (λ l. rw (see-bind o b s (at + n * w) (samples t cs) (λ r. give (l ∷ r)))
      (then-skip (see o b s (at + n * w) (samples t cs)) (λ r e. see o b s e (give (l ∷ r))) (at + n * w + sample_bytes t cs) (goes tt (at + (n * w + sample_bytes t cs))) (ends-samples t cs (at + n * w)) (λ r. simp walks))))

module _ (o : Order) (label : Label) (b at room f : ℕ) (s : List ℕ) where
  pub next-stop : {n p : ℕ} → see o b s at (head room) ≡ stops n p → over headroom (see o b s at (next label (suc f) room)) ≡ stops n p
  unfolding next
  next-stop h = simp (walks, h)

  module _ {h : Head} {e : ℕ} (found : see o b s at (head room) ≡ goes h e) where
    pub next-done : maker_code h.code ≡ false → over headroom (see o b s at (next label (suc f) room)) ≡ goes (record { head = h; room = room }) e
    unfolding next
    next-done m = simp (walks, found, m)

    pub next-refused : {n p : ℕ} → maker_code h.code ≡ true → see o b s e (admit room (most_of label) (leb 16) (λ _. true) h) ≡ stops n p → over headroom (see o b s at (next label (suc f) room)) ≡ stops n p
    unfolding next
    next-refused m a = simp (walks, found, m, a)

    pub next_more : maker_code h.code ≡ true → see o b s e (admit room (most_of label) (leb 16) (λ _. true) h) ≡ goes tt e →
        over headroom (see o b s at (next label (suc f) room)) ≡ over headroom (see o b s (e + (span h - 16)) (next label f (room - span h)))
    unfolding next
    next_more m a = simp (walks, found, m, a) (over-give headroom (more _) (see o b s (e + (span h - 16)) (next label f (room - span h))))

-- the rest of a record whose head is read: it is admitted, and the body follows
pub channels-split : (g : Group) (room : ℕ) (h : Head) → channels g room h ≡ (admit room 0 (leb 32) (eqb 0) h >> channels_body g (span h))
unfolding channels
channels-split g room h = refl

pub items-split : (ok : ℕ → Bool) (room : ℕ) (h : Head) → items ok room h ≡ (admit room 0 (leb 24) (eqb 0) h >> items_body ok (span h))
unfolding items
items-split ok room h = refl
