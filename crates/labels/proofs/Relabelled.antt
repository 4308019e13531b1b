-- A file of any version, relabelled 000300, is accepted with the same reading but for the version.
-- Assumes nothing.
use mathlib.Core.Path.{◌≡◌, refl, sym, ap, ◌∙◌}
use mathlib.Core.List.{List, [], ◌∷◌, ◌++◌}
use Prim.Native.Nat.{ℕ, ◌+◌}
use native.Mathlib.Omega.{arith}
use lib.ListN.{length, get_or, drop}
use lib.Seq.{get_or-append-add, take_at, drop_at, drop-drop}
use Rattle.words.specs.Numbers.{Bytes}
use Rattle.words.specs.declared.Order.{Order}
use Rattle.words.specs.declared.Order.TheVariants.{Little, Big}
use Rattle.walk.specs.Plays.{Plays, checks, reads}
use Rattle.walk.specs.Walk.{laid, Text, Event, piece, passed, render, rows, size, ◌>>=◌, ◌>>◌}
use Rattle.walk.proofs.Implied.{implied}
use Rattle.walk.proofs.Ordered.{ordered-implies}
use Rattle.rules.specs.Reading.{reading}
use Rattle.rules.specs.Rules.{spelling_of, versioned, version_of, file_header, File, file, order_of, judge}
use Rattle.rules.specs.declared.Version.{Version}
use Rattle.rules.specs.declared.Version.TheVariants as Version
use Rattle.rules.proofs.Named.{versions}
use Rattle.rules.proofs.Turn.{accepted, judge-render, is-render, tiled}
use Rattle.labels.specs.Relabelled.{relabelled, relabelled_events, with_version, reading_with}
use Rattle.labels.proofs.Opened.{others, rest, renamed, ordered-rest, Opened, opened}

-- text is text in either order
render-text : (o : Order) (bs : List ℕ) (t : List Event) → render o (piece Text bs ∷ t) ≡ bs ++ render o t
unfolding render laid
render-text Little bs t = refl
render-text Big bs t = refl

relabelled-is : (w : Version) (id a x : List ℕ) → length id ≡ 8 → length a ≡ 6 → relabelled w (id ++ (a ++ x)) ≡ id ++ (versioned w ++ x)
unfolding relabelled
relabelled-is w id a x h k =
    let d : drop 14 (id ++ (a ++ x)) ≡ x = sym (drop-drop 6 8 (id ++ (a ++ x))) ∙ ap (drop 6) (drop_at id (a ++ x) 8 h) ∙ drop_at a x 6 k in
    ap (λ (y : List ℕ). y ++ (versioned w ++ drop 14 (id ++ (a ++ x)))) (take_at id (a ++ x) 8 h) ∙ ap (λ (y : List ℕ). id ++ (versioned w ++ y)) d

past_two : (id a x : List ℕ) → length id ≡ 8 → length a ≡ 6 → get_or (id ++ (a ++ x)) 16 0 ≡ get_or x 2 0
past_two id a x h k =
    let e = get_or-append-add id (a ++ x) 8 0 in
    let f = get_or-append-add a x 2 0 in
    rw h at e ∙ rw k at f

-- the version is changed in the bytes as in the events, and the order stands
module _ (w : Version) (n : ℕ) {t : List Event} {v : File} (q : Opened n t v) where
  pub events-are : relabelled_events w t ≡ piece Text q.id ∷ piece Text (versioned w) ∷ q.others
  unfolding relabelled_events
  events-are = ap (relabelled_events w) q.events

  module _ (o : Order) where
    render-was : render o t ≡ q.id ++ (q.label ++ render o q.others)
    render-was = ap (render o) q.events ∙ render-text o q.id _ ∙ ap (λ (y : List ℕ). q.id ++ y) (render-text o q.label _)

    render-is : render o (relabelled_events w t) ≡ q.id ++ (versioned w ++ render o q.others)
    render-is = ap (render o) events-are ∙ render-text o q.id _ ∙ ap (λ (y : List ℕ). q.id ++ y) (render-text o (versioned w) _)

    pub render-relabelled : relabelled w (render o t) ≡ render o (relabelled_events w t)
    render-relabelled = ap (relabelled w) render-was ∙ relabelled-is w q.id q.label (render o q.others) q.long q.wide ∙ sym render-is

    pub order-relabelled : order_of (render o (relabelled_events w t)) ≡ order_of (render o t)
    unfolding order_of
    order-relabelled =
        let e : get_or (render o (relabelled_events w t)) 16 0 ≡ get_or (render o t) 16 0 =
        ap (λ (y : List ℕ). get_or y 16 0) render-is ∙ past_two q.id (versioned w) (render o q.others) q.long (versions w).long ∙
        sym (ap (λ (y : List ℕ). get_or y 16 0) render-was ∙ past_two q.id q.label (render o q.others) q.long q.wide) in
        rw (order_of, e)

  pub size-relabelled : size (relabelled_events w t) ≡ size t
  unfolding size
  size-relabelled = ap size events-are ∙ (let z = q.wide in let y = (versions w).long in omega arith) ∙ sym (ap size q.events)

  rows-relabelled : rows 0 (relabelled_events w t) ≡ rows 0 t
  unfolding rows
  rows-relabelled = ap (rows 0) events-are ∙ ap (λ (m : ℕ). rows (0 + length q.id + m) q.others) ((versions w).long ∙ sym q.wide) ∙ sym (ap (rows 0) q.events)

  -- the walk over the file goes on as the version says
  plays-relabelled : {x : File} → Plays q.others (rest n (spelling_of q.id) w w) x → Plays (relabelled_events w t) (file n) x
  unfolding file file_header rest others ◌>>=◌ ◌>>◌
  plays-relabelled {x} p =
      let y : Version = version_of (versioned w) in
      let z : Plays q.others (rest n (spelling_of q.id) y y) x = rw (versions w).same p in
      rw events-are (checks q.enough (reads q.long q.bytes (checks q.spelling (reads (versions w).long (versions w).bytes (checks (versions w).one z)))))

-- a file that is accepted, with only its version changed to 000300, is accepted with the same reading but for the version
module _ (s : List ℕ) (b : Bytes s) {v : File} {r : List ℕ} {t : List Event} (h : judge s ≡ passed v r t) where
  pub was-opened : Opened (length s) t v
  was-opened = opened (length s) (accepted s b h).plays

  pub is-relabelled : (w : Version) → relabelled w s ≡ render (order_of s) (relabelled_events w t)
  is-relabelled w = ap (relabelled w) (is-render s b h) ∙ render-relabelled w (length s) was-opened (order_of s)

  pub size_is : (w : Version) → size (relabelled_events w t) ≡ length s
  size_is w = size-relabelled w (length s) was-opened ∙ tiled s b h

  pub older-newer : judge (relabelled Version.V300 s) ≡ passed (with_version Version.V300 v) [] (relabelled_events Version.V300 t)
  older-newer =
      let n : ℕ = length s in
      let q = was-opened in
      let p = renamed n (spelling_of q.id) Version.V300 (version_of q.label) Version.V300 (implied (ordered-implies (ordered-rest n (spelling_of q.id) (version_of q.label) (version_of q.label))) q.plays) in
      rw (is-relabelled Version.V300) (judge-render (rw (size_is Version.V300) (plays-relabelled Version.V300 n q p)) (order_of s))

  -- the reading
  pub same-reading : (w : Version) → reading (with_version w v) ≡ reading_with w (reading v)
  same-reading w = refl

  -- the table
  pub same-table : (w : Version) → rows 0 (relabelled_events w t) ≡ rows 0 t
  same-table w = rows-relabelled w (length s) was-opened
