-- What the rules say of a file, by what its header and its recordings come to; and that only one answer meets the contract of `judge`.
-- Assumes nothing.
use Rattle.rules.specs.Reasons.{number_of, refusal_of}
use Rattle.rules.proofs.Reasons.{refusal-is, refusal-only}
use Rattle.std.proofs.Common.{Result, Ok, Err}
use Rattle.rules.specs.declared.Refusal.{Refusal}
use mathlib.Core.Path.{◌≡◌, refl, sym, ap, ◌∙◌}
use mathlib.Core.Bool.{Bool, true, false}
use mathlib.Core.List.{List, []}
use mathlib.Core.Option.{none}
use Prim.Native.Nat.{ℕ, ◌+◌, ◌-◌, ◌≤◌, ◌<◌}
use native.Mathlib.Nat.{zero-add}
use native.Mathlib.Omega.{arith}
use lib.Dec.{eqb}
use lib.ListN.{length}
use borrow.Author.Tests.{eqb-true, eqb-false}
use Rattle.words.specs.declared.Order.{Order}
use Rattle.walk.specs.See.{Verdict, stops, goes, see, ends, Goes, Holds}
use Rattle.walk.specs.Walk.{Event, Walk, Outcome, refused, passed}
use Rattle.walk.proofs.Apart.{refused-passed}
use Rattle.walk.proofs.Seen.{walks, see-give, stopped, went, yields, stays-holds, stays-goes}
use Rattle.walk.proofs.Went.{went-first}
use Rattle.rules.specs.Rules.{Heading, FileHeader, Placed, File, file_header, recordings, file, order_of, judge}
use Rattle.rules.specs.declared.FileHeader as Declared
use Rattle.rules.proofs.Refusals.{Told, judge-told}
use Rattle.rules.proofs.Room.{stays-file_header, stays-file}
use Rattle.header.specs.Letters.{heading_of}
use Rattle.judge.specs.Judged.{AcceptedAs, JudgedAs}
use Rattle.judge.proofs.Recordings.{yields-recordings}

-- the file with this header whose recordings end at q
abbrev Filed : FileHeader → ℕ → File → ℕ → Type 0
Filed f q v e = (e ≡ q) × (v.heading ≡ f.heading) × (length v.recordings ≡ f.count)

-- the walk over a file, by its header and its recordings
module _ (o : Order) (s : List ℕ) where
  file-unread : {m p : ℕ} → see o 0 s 0 (file_header (length s)) ≡ stops m p → see o 0 s 0 (file (length s)) ≡ stops m p
  unfolding file
  file-unread h = simp (walks, h)

  module _ (f : FileHeader) (head : see o 0 s 0 (file_header (length s)) ≡ goes f 32) where
    file-stop : {m p : ℕ} → see o 0 s 32 (recordings f.heading.label f.count none (length s - 32) 1) ≡ stops m p → see o 0 s 0 (file (length s)) ≡ stops m p
    unfolding file
    file-stop h = simp (walks, head, h)

    file-goes : (q : ℕ) → ends (see o 0 s 32 (recordings f.heading.label f.count none (length s - 32) 1)) ≡ goes tt q →
        Goes (see o 0 s 0 (file (length s))) (Filed f q)
    unfolding file
    file-goes q h =
        let w : Walk (List Placed) = recordings f.heading.label f.count none (length s - 32) 1 in
        let g : Goes (see o 0 s 32 w) (λ _ e. (tt ≡ tt) × (e ≡ q)) = went (λ _. tt) (see o 0 s 32 w) h in
        record {
          value = record { heading = f.heading; recordings = g.value };
          end = g.end;
          is = simp (walks, head, g.is);
          kept = (g.kept.1, refl, yields o 0 s w 32 _ (yields-recordings o f.heading.label 0 s f.count none (length s - 32) 1 32) g.is);
        }

-- so what the rules say of it
pub judge-unread : (s : List ℕ) {m p : ℕ} → see (order_of s) 0 s 0 (file_header (length s)) ≡ stops m p → judge s ≡ refused m p
judge-unread s h = rw (file-unread (order_of s) s h) at (judge-told s)

module _ (s : List ℕ) (f : FileHeader) (head : see (order_of s) 0 s 0 (file_header (length s)) ≡ goes f 32) where
  pub judge-stop : {m p : ℕ} → ends (see (order_of s) 0 s 32 (recordings f.heading.label f.count none (length s - 32) 1)) ≡ stops m p → judge s ≡ refused m p
  judge-stop h = rw (file-stop (order_of s) s f head (stopped (λ _. tt) (see (order_of s) 0 s 32 (recordings f.heading.label f.count none (length s - 32) 1)) h)) at (judge-told s)

  module _ (q : ℕ) (on : ends (see (order_of s) 0 s 32 (recordings f.heading.label f.count none (length s - 32) 1)) ≡ goes tt q) where
    pub judge-left : q < length s → judge s ≡ refused 16 q
    judge-left l =
        let g : Goes (see (order_of s) 0 s 0 (file (length s))) (Filed f q) = file-goes (order_of s) s f head q on in
        (rw g.is at (judge-told s)).1 (omega (arith, g.kept.0)) ∙ ap (λ (e : ℕ). refused 16 e) g.kept.0

    pub judge-whole : (h : Declared.FileHeader) → q ≡ length s → h.order ≡ order_of s → heading_of h.heading ≡ f.heading → h.count ≡ f.count → AcceptedAs s h
    judge-whole h l x y z =
        let g : Goes (see (order_of s) 0 s 0 (file (length s))) (Filed f q) = file-goes (order_of s) s f head q on in
        let t : (t : List Event) × (judge s ≡ passed g.value [] t) = (rw g.is at (judge-told s)).0 (g.kept.0 ∙ l) in
        record { file = g.value; events = t.0; judged = t.1; order = x; heading = y ∙ sym g.kept.1; count = z ∙ sym g.kept.2 }

-- one answer for every file
accepted-unique : (s : List ℕ) (h k : Declared.FileHeader) → AcceptedAs s h → AcceptedAs s k → h ≡ k
accepted-unique s h k x y =
    let v : x.file ≡ y.file = cc in
    let i : h.order ≡ k.order = cc in
    let j : heading_of h.heading ≡ heading_of k.heading = cc in
    let l : h.count ≡ k.count = cc in
    λ n. record { order = i n; heading = record { spelling = (j n).spelling; label = (j n).label; script = (j n).script }; count = l n }

pub judge-unique : (s : List ℕ) (a b : Result Declared.FileHeader Refusal) → JudgedAs s a → JudgedAs s b → a ≡ b
judge-unique s (Ok h) (Ok k) x y = ap Ok (accepted-unique s h k x y)
judge-unique s (Ok h) (Err r) x y = refused-passed (sym y ∙ x.judged)
judge-unique s (Err r) (Ok k) x y = refused-passed (sym x ∙ y.judged)
judge-unique s (Err r) (Err u) x y =
    let i : number_of r.0 ≡ number_of u.0 = cc in
    let j : r.1 ≡ u.1 = cc in
    ap Err (refusal-only r u i j)

-- the answer is the rules' own: what a caller knows of a file that they refuse, and of one that they pass
pub judge-refused : (s : List ℕ) (a : Result Declared.FileHeader Refusal) {m p : ℕ} → JudgedAs s a → judge s ≡ refused m p → a ≡ Err (refusal_of m p)
judge-refused s (Ok h) x e = refused-passed (sym e ∙ x.judged)
judge-refused s (Err r) {m} {p} x e =
    let i : number_of r.0 ≡ m = cc in
    let j : r.1 ≡ p = cc in
    ap Err (refusal-is r i j)

pub judge-accepted : (s : List ℕ) (a : Result Declared.FileHeader Refusal) {v : File} {t : List Event} → JudgedAs s a → judge s ≡ passed v [] t → a ≡ Ok (record { order = order_of s; heading = record { spelling = v.heading.spelling; label = v.heading.label; script = v.heading.script }; count = length v.recordings })
judge-accepted s a {v} {t} x e = judge-unique s a (Ok (record { order = order_of s; heading = record { spelling = v.heading.spelling; label = v.heading.label; script = v.heading.script }; count = length v.recordings })) x (record { file = v; events = t; judged = e; order = refl; heading = refl; count = refl })

-- what the walk comes to over a file that is accepted
went-whole : (n : ℕ) (x : Outcome File) {v : File} {t : List Event} → x ≡ passed v [] t → (y : Verdict File) → Told n x y → Holds (λ _ e. e ≤ n) y → y ≡ goes v n
went-whole n x h (stops m p) told b = refused-passed (sym told ∙ h)
went-whole n x {v} {t} h (goes w e) told b = go (eqb e n) refl
  where
    go : (c : Bool) → eqb e n ≡ c → goes w e ≡ goes v n
    go true i =
        let j : e ≡ n = eqb-true e n i in
        let k : x ≡ passed w [] (told.0 j).0 = (told.0 j).1 in
        let l : w ≡ v = cc in
        rw (l, j)
    go false i =
        refused-passed (sym (told.1 (let j : e ≡ n → ⊥ = eqb-false e n i in omega arith)) ∙ h)

pub judge-went : (s : List ℕ) {v : File} {t : List Event} → judge s ≡ passed v [] t → see (order_of s) 0 s 0 (file (length s)) ≡ goes v (length s)
judge-went s h = went-whole (length s) (judge s) h (see (order_of s) 0 s 0 (file (length s))) (judge-told s) (stays-holds (order_of s) 0 s (length s) (omega arith) (file (length s)) 0 _ (omega arith) (rw zero-add at (stays-file (length s) 0)))

-- its header, and its recordings up to the last byte
pub record Accepted-seen (s : List ℕ) (h : Declared.FileHeader) (x : AcceptedAs s h) : Type 0 where
  pub long : 32 ≤ length s
  pub header : see (order_of s) 0 s 0 (file_header (length s)) ≡ goes (record { heading = heading_of h.heading; count = h.count }) 32
  pub recordings : see (order_of s) 0 s 32 (recordings h.heading.label h.count none (length s - 32) 1) ≡ goes x.file.recordings (length s)

pub accepted-seen : (s : List ℕ) (h : Declared.FileHeader) (x : AcceptedAs s h) → Accepted-seen s h x
unfolding file
accepted-seen s h x =
    let o : Order = order_of s in
    let g = went-first o 0 s 0 (file_header (length s)) _ (judge-went s x.judged) in
    let f : FileHeader = g.value in
    let w : Walk (List Placed) = recordings f.heading.label f.count none (length s - 32) 1 in
    let r = went-first o 0 s g.end w _ g.kept in
    let q = stays-goes o 0 s (0 + length s) (omega arith) (file_header (length s)) 0 _ (omega arith) (stays-file_header (length s) 0) g.is in
    let d : g.end ≡ 32 = omega (arith, q.0) in
    let k : goes (record { heading = f.heading; recordings = r.value }) r.end ≡ goes x.file (length s) = sym (see-give o 0 s r.end (record { heading = f.heading; recordings = r.value })) ∙ r.kept in
    let v : ◌≡◌ {A = File} (record { heading = f.heading; recordings = r.value }) x.file = cc in
    let l : r.value ≡ x.file.recordings = ap (λ (y : File). y.recordings) v in
    let m : length r.value ≡ f.count = yields o 0 s w g.end _ (yields-recordings o f.heading.label 0 s f.count none (length s - 32) 1 g.end) r.is in
    let y : f.heading ≡ heading_of h.heading = ap (λ (y : File). y.heading) v ∙ sym x.heading in
    let z : f.count ≡ h.count = sym m ∙ (ap length l ∙ sym x.count) in
    let u : f ≡ record { heading = heading_of h.heading; count = h.count } = λ j. record { heading = y j; count = z j } in
    let b : f.heading.label ≡ h.heading.label = ap (λ (x : Heading). x.label) y in
    let e : r.end ≡ length s = cc in
    record { long = omega (arith, q.1); header = cc (g.is, u, d); recordings = cc (r.is, b, z, d, l, e) }
