-- The entries of each of some channels, frames or recordings, from those before them; and the bytes of some channels.
-- Assumes nothing.
use mathlib.Core.Path.{◌≡◌, refl, sym, ap, ◌∙◌, subst}
use mathlib.Core.Bool.{false}
use mathlib.Core.List.{List, [], ◌∷◌, ◌++◌, append-nil, append_assoc}
use Prim.Native.Nat.{ℕ, zero, suc, ◌+◌, ◌*◌, ◌≤◌, ◌<◌, zero-le}
use native.Mathlib.Nat.{add-zero, zero-add, suc-mul, le_refl}
use native.Mathlib.Omega.{arith}
use lib.ListN.{length, take, get_or, length-append}
use Rattle.rules.specs.Rules as R
use Rattle.recordings.specs.Answers.{value, indexed}
use Rattle.recordings.proofs.Chosen.{refusal-value, indexed-in}
use Rattle.index.specs.Events.{Entry, of_events, each_of, channel_entries, frame_entries, recording_entries}

-- an element of a list that is long enough
pub some_one : {A : Type 0} (l : List A) (c : ℕ) → c < length l → (y : A) × (indexed l c ≡ value y)
some_one [] c h = absurd (omega arith)
some_one (x ∷ l) c h = (get_or (x ∷ l) c x, indexed-in x (x ∷ l) c h)

-- Each of a list, behind the first k

module _ {A : Type 0} where
  -- this holds of each and its number
  abbrev pub Each : (ℕ → A → Type 0) → ℕ → List A → Type 0
  Each P k l = (c : ℕ) (a : A) → indexed l c ≡ value a → P (suc (k + c)) a

  pub each-zero : (P : ℕ → A → Type 0) (l : List A) → ((c : ℕ) (a : A) → indexed l c ≡ value a → P (suc c) a) → Each P 0 l
  each-zero P l h c a e = subst (λ (n : ℕ). P (suc n) a) (sym (zero-add c)) (h c a e)

  pub each_first : (P : ℕ → A → Type 0) (k : ℕ) (a : A) (l : List A) → Each P k (a ∷ l) → P (suc k) a
  unfolding indexed
  each_first P k a l h = rw (add-zero k) at (h 0 a refl)

  pub each-others : (P : ℕ → A → Type 0) (k : ℕ) (a : A) (l : List A) → Each P k (a ∷ l) → Each P (suc k) l
  unfolding indexed
  each-others P k a l h c b e =
      let d : suc k + c ≡ k + suc c = omega arith in
      rw d (h (suc c) b e)

  -- where two say the same of each
  pub each-alike : (f g : ℕ → A → List Entry) (k : ℕ) (l : List A) → Each (λ n a. f n a ≡ g n a) k l → each_of f k l ≡ each_of g k l
  unfolding each_of
  each-alike f g k [] h = refl
  each-alike f g k (a ∷ l) h =
      let e : f (suc k) a ≡ g (suc k) a = each_first (λ n a. f n a ≡ g n a) k a l h in
      let r : each_of f (suc k) l ≡ each_of g (suc k) l = each-alike f g (suc k) l (each-others (λ n a. f n a ≡ g n a) k a l h) in
      λ n. e n ++ r n

  module _ (f : ℕ → A → List Entry) where
    -- one more
    pub each_more : (k c : ℕ) (l : List A) {a : A} → indexed l c ≡ value a → each_of f k (take (suc c) l) ≡ each_of f k (take c l) ++ f (suc (k + c)) a
    unfolding each_of indexed
    each_more k c [] h = refusal-value h
    each_more k zero (x ∷ l) {a} h =
        let d : x ≡ a = cc in
        rw (d, add-zero k) (append-nil (f (suc k) a))
    each_more k (suc c) (x ∷ l) h =
        let d : suc k + c ≡ k + suc c = omega arith in
        rw (each_more (suc k) c l h, d, append_assoc)

    -- some that have none
    pub each-quiet : (n d : ℕ) (l : List A) → n + d ≤ length l → ((c : ℕ) (a : A) → n ≤ c → c < n + d → indexed l c ≡ value a → f (suc c) a ≡ []) →
        each_of f 0 (take (n + d) l) ≡ each_of f 0 (take n l)
    each-quiet n zero l h q = ap (λ (m : ℕ). each_of f 0 (take m l)) (add-zero n)
    each-quiet n (suc d) l h q =
        let e : n + suc d ≡ suc (n + d) = omega arith in
        let a = some_one l (n + d) (omega arith) in
        let none : f (suc (0 + (n + d))) a.0 ≡ [] = ap (λ (m : ℕ). f (suc m) a.0) (zero-add (n + d)) ∙ q (n + d) a.0 (omega arith) (omega arith) a.1 in
        let less : each_of f 0 (take (n + d) l) ++ f (suc (0 + (n + d))) a.0 ≡ each_of f 0 (take (n + d) l) =
        rw none (append-nil (each_of f 0 (take (n + d) l))) in
        ap (λ (m : ℕ). each_of f 0 (take m l)) e ∙ (each_more 0 (n + d) l a.1 ∙ (less ∙ each-quiet n d l (omega arith) (λ c b u v. q c b u (omega arith))))

    pub each_none : (k : ℕ) (l : List A) → Each (λ n a. f n a ≡ []) k l → each_of f k l ≡ []
    unfolding each_of
    each_none k [] h = refl
    each_none k (a ∷ l) h = rw (each_first (λ n a. f n a ≡ []) k a l h, each_none (suc k) l (each-others (λ n a. f n a ≡ []) k a l h))

    -- so many each at most
    pub each-few : (k n m : ℕ) (l : List A) → Each (λ c a. length (f c a) ≤ m) k l → length (each_of f k (take n l)) ≤ n * m
    unfolding each_of
    each-few k zero m l h = omega arith
    each-few k (suc n) m [] h = omega arith
    each-few k (suc n) m (a ∷ l) h =
        let first : length (f (suc k) a) ≤ m = each_first (λ c a. length (f c a) ≤ m) k a l h in
        rw length-append (omega (arith, first, each-few (suc k) n m l (each-others (λ c a. length (f c a) ≤ m) k a l h), suc-mul n m))

-- the channels of a frame
pub frame_is : (s : List ℕ) (i : ℕ) (cs : List R.Channel) (j : ℕ) (f : R.Frame) → each_of (channel_entries s i j) 0 cs ≡ frame_entries s i cs j f
unfolding frame_entries
frame_is s i cs j f = refl

-- A channel that is not of events, and a recording without one that is

pub channel-none : (s : List ℕ) (i j k : ℕ) (y : R.Channel) → of_events y ≡ false → channel_entries s i j k y ≡ []
unfolding channel_entries
channel-none s i j k y h = rw h

pub recording-none : (s : List ℕ) (i : ℕ) (r : R.Recording) → ((c : ℕ) (y : R.Channel) → indexed r.channels c ≡ value y → of_events y ≡ false) →
    recording_entries s i r ≡ []
unfolding recording_entries frame_entries
recording-none s i r h =
    each_none (frame_entries s i r.channels) 0 r.frames
    (λ c f e. each_none (channel_entries s i (suc (0 + c))) 0 r.channels (λ n y g. channel-none s i (suc (0 + c)) (suc (0 + n)) y (h n y g)))

-- The bytes of samples

-- of one channel more
pub bytes-more : (t c : ℕ) (cs : List R.Channel) {y : R.Channel} → indexed cs c ≡ value y →
    R.sample_bytes t (take (suc c) cs) ≡ R.sample_bytes t (take c cs) + R.samples_in t y * R.width y.format
unfolding indexed R.sample_bytes
bytes-more t c [] h = refusal-value h
bytes-more t zero (x ∷ cs) {y} h =
    let d : x ≡ y = cc in
    rw d (omega arith)
bytes-more t (suc c) (x ∷ cs) h = omega (arith, bytes-more t c cs h)

-- and of some channels
pub bytes-some : (t n : ℕ) (cs : List R.Channel) → R.sample_bytes t (take n cs) ≤ R.sample_bytes t cs
unfolding R.sample_bytes
bytes-some t zero cs = zero-le
bytes-some t (suc n) [] = le_refl 0
bytes-some t (suc n) (c ∷ cs) = omega (arith, bytes-some t n cs)
