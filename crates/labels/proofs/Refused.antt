-- A 000300 file under another version's label is refused at the first test of that version that fails, or accepted where none does.
-- Assumes nothing.
use mathlib.Core.Path.{◌≡◌, refl, sym, ap, ◌∙◌}
use mathlib.Core.Bool.{Bool, true, false}
use mathlib.Core.List.{List, [], ◌∷◌, ◌++◌, append-nil, append_assoc}
use Prim.Native.Nat.{ℕ, ◌+◌, ◌-◌}
use native.Mathlib.Omega.{arith}
use lib.Dec.{leb}
use lib.ListN.{length}
use Rattle.words.specs.Numbers.{Bytes}
use Rattle.words.specs.declared.Order.{Order}
use Rattle.walk.specs.Faults.{Fault, first, Rising}
use Rattle.walk.specs.Plays.{Plays}
use Rattle.walk.specs.Walk.{Kind, Text, Event, piece, Walk, check, read, Outcome, passed, logged, run, render, size, ◌>>=◌, ◌>>◌}
use Rattle.walk.proofs.Apart.{false-true}
use Rattle.walk.proofs.Laws.{length-render, run-piece}
use Rattle.walk.proofs.Implied.{faults, first-fault, first-logged}
use Rattle.walk.proofs.Ordered.{ordered-implies, rising-faults}
use Rattle.rules.specs.Rules.{is_spelling, spelling_of, versioned, is_version, version_of, file_header, File, file, order_of, whole, judge}
use Rattle.rules.specs.declared.Spelling.{Spelling}
use Rattle.rules.specs.declared.Version.{Version}
use Rattle.rules.specs.declared.Version.TheVariants as Version
use Rattle.rules.proofs.Named.{versions}
use Rattle.rules.proofs.Turn.{is-render, tiled}
use Rattle.labels.specs.Relabelled.{relabelled, relabelled_events, with_version}
use Rattle.labels.proofs.Opened.{others, rest, renamed, said, ordered-rest}
use Rattle.labels.proofs.Relabelled.{events-are, order-relabelled, was-opened, is-relabelled, size_is}

whole-first : (n : ℕ) (fs : List Fault) (v : File) (t : List Event) → whole n (first fs (passed v [] t)) ≡ first fs (passed v [] t)
unfolding whole
whole-first n [] v t = refl
whole-first n (f ∷ fs) v t = refl

-- one step of a run, where it is known
module _ {A : Type 0} (o : Order) (at : ℕ) where
  past-check : (s : List ℕ) (c : Bool) (n p : ℕ) (w : Walk A) (x : Outcome A) → c ≡ true → run o at s w ≡ x → run o at s (check c n p w) ≡ x
  unfolding run
  past-check s true n p w x e h = h
  past-check s false n p w x e h = false-true e

  past-read : (k : Kind) (bs : List ℕ) (t : List Event) (n : ℕ) (f : List ℕ → Walk A) (x : Outcome A) → length bs ≡ n → run o (at + n) (render o t ++ []) (f bs) ≡ x →
      run o at (render o (piece k bs ∷ t) ++ []) (read k n f) ≡ logged (piece k bs ∷ []) x
  unfolding render
  past-read k bs t n f x l h = rw (append_assoc, run-piece o at k bs (render o t ++ []) n f l, h)

-- the walk over a file up to its version
opening : (o : Order) (w : Version) (n : ℕ) (id : List ℕ) (t : List Event) → length id ≡ 8 → is_spelling id ≡ true → leb 32 n ≡ true → (x : Outcome File) →
    run o 14 (render o t ++ []) (rest n (spelling_of id) w w) ≡ x → run o 0 (render o (piece Text id ∷ piece Text (versioned w) ∷ t) ++ []) (file n) ≡ logged (piece Text id ∷ []) (logged (piece Text (versioned w) ∷ []) x)
unfolding file file_header rest others ◌>>=◌ ◌>>◌
opening o w n id t l c e x h =
    let y : Version = version_of (versioned w) in
    let z : run o 14 (render o t ++ []) (rest n (spelling_of id) y y) ≡ x = rw (versions w).same h in
    past-check o 0 _ (leb 32 n) 1 0 _ _ e (past-read o 0 Text id _ 8 _ _ l (past-check o 8 _ (is_spelling id) 2 8 _ _ c (past-read o 8 Text (versioned w) t 6 _ x (versions w).long (past-check o 14 _ (is_version (versioned w)) 3 6 _ x (versions w).one z))))

-- a 000300 file, with only its version changed
module _ (w : Version) (s : List ℕ) (b : Bytes s) {v : File} {r : List ℕ} {t : List Event} (h : judge s ≡ passed v r t) (e : v.heading.label.version ≡ Version.V300) where
  abbrev name : Spelling
  name = spelling_of (was-opened s b h).id

  -- its events behind the version are those of the other version, but for that version's own tests
  pub as-newest : Plays (was-opened s b h).others (rest (length s) name Version.V300 w) (with_version w v)
  as-newest =
      let q = was-opened s b h in
      let z : version_of q.label ≡ Version.V300 = sym (said (length s) name (version_of q.label) (version_of q.label) q.plays) ∙ e in
      let p : Plays q.others (rest (length s) name Version.V300 Version.V300) v = rw z at q.plays in
      renamed (length s) name Version.V300 Version.V300 w p

  -- the tests that fail
  unfoldable pub failing : List Fault
  failing = faults 14 (was-opened s b h).others (rest (length s) name w w)

  pub newer-older : judge (relabelled w s) ≡ first failing (passed (with_version w v) [] (relabelled_events w t))
  unfolding judge failing
  newer-older =
      let n : ℕ = length s in
      let o : Order = order_of s in
      let q = was-opened s b h in
      let u : List Event = relabelled_events w t in
      let m : length (render o u) ≡ n = length-render o u ∙ size_is s b h w in
      let d : order_of (render o u) ≡ o = order-relabelled w n q o ∙ ap order_of (sym (is-render s b h)) in
      let f : run o 14 (render o q.others ++ []) (rest n name w w) ≡ first failing (passed (with_version w v) [] q.others) = first-fault (ordered-implies (ordered-rest n name w w)) as-newest o 14 [] in
      let g : run o 0 (render o u) (file n) ≡ first failing (passed (with_version w v) [] u) =
      ap (λ (x : List ℕ). run o 0 x (file n)) (ap (render o) (events-are w n q) ∙ sym (append-nil (render o _))) ∙ opening o w n q.id q.others q.long q.spelling q.enough _ f ∙
      ap (logged (piece Text q.id ∷ [])) (first-logged (piece Text (versioned w)) failing (with_version w v) [] q.others) ∙
      first-logged (piece Text q.id) failing (with_version w v) [] (piece Text (versioned w) ∷ q.others) ∙
      ap (λ (y : List Event). first failing (passed (with_version w v) [] y)) (sym (events-are w n q)) in
      rw (is-relabelled s b h w, d, m, g) (whole-first n failing (with_version w v) u)

  -- they stand in file order
  pub failing-rising : Rising 14 failing (length s)
  unfolding failing size
  failing-rising =
      let q = was-opened s b h in
      let z : 14 + size q.others - 0 ≡ length s = (let x = q.long in let y = q.wide in omega arith) ∙ sym (ap size q.events) ∙ tiled s b h in
      rw z at (rising-faults (ordered-rest (length s) name w w) as-newest 14 (omega arith))
