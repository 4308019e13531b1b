-- A 000300 file under another version's label is refused at the first place where it breaks that version's rules, or accepted where there is none.
-- Assumes nothing.
use mathlib.Core.Path.{◌≡◌, refl, sym, ap, ◌∙◌}
use mathlib.Core.Bool.{Bool, true, false, ◌||◌, not}
use mathlib.Core.List.{List, [], ◌∷◌, ◌++◌, append_assoc, append-nil}
use mathlib.Core.Option.{none}
use Prim.Native.Nat.{ℕ, ◌+◌, ◌-◌}
use native.Mathlib.Omega.{arith}
use lib.Dec.{eqb}
use lib.ListN.{length, get_or}
use borrow.Author.Tests.{eqb-true}
use Rattle.words.specs.Numbers.{Bytes}
use Rattle.walk.specs.Faults.{Fault, first, Rising, piece_of, behind}
use Rattle.walk.specs.Plays.{Plays, gives, checks, numbers, reads, skips, lists}
use Rattle.walk.specs.Walk.{Kind, Event, piece, size, Walk, give, read, passed, pick, ◌>>=◌, ◌>>◌}
use Rattle.walk.proofs.Apart.{refused-passed}
use Rattle.walk.proofs.Laws.{by_parts, by-check}
use Rattle.walk.proofs.Implied.{faults, faults-bind}
use Rattle.walk.proofs.Ordered.{ordered-implies}
use Rattle.rules.specs.Rules.{same_bytes, allows, formed, is_form, is_script, recordings, File, judge}
use Rattle.rules.specs.declared.Form.{Form}
use Rattle.rules.specs.declared.Form.TheVariants as Form
use Rattle.rules.specs.declared.Spelling.{Spelling}
use Rattle.rules.specs.declared.Version.{Version}
use Rattle.rules.specs.declared.Version.TheVariants as Version
use Rattle.rules.proofs.Named.{same-is}
use Rattle.labels.specs.Breaches.{unless, broken, breaches_in, start, of_form, of_script, breaches_of}
use Rattle.labels.specs.Relabelled.{relabelled, relabelled_events, with_version}
use Rattle.labels.proofs.Breaches.{steps, Calm, other, Tells, Any, quiet, breaches-append, tells-bind, tells-give}
use Rattle.labels.proofs.Ordered.{ordered-recordings}
use Rattle.labels.proofs.Opened.{Others, others, made, rest, ordered-others, Opened}
use Rattle.labels.proofs.Records.{narrowed-two}
use Rattle.labels.proofs.Recordings.{tells-recordings}
use Rattle.labels.proofs.Refused.{as-newest, failing, newer-older, failing-rising}
use Rattle.labels.proofs.Relabelled.{was-opened}

no-faults : {A : Type 0} {t : List Event} {w : Walk A} {a : A} → Plays t w a → (at : ℕ) → faults at t w ≡ []
unfolding faults
no-faults gives at = refl
no-faults (checks h p) at = rw h (no-faults p at)
no-faults (numbers {n} l p) at = no-faults p (at + n)
no-faults (reads {n} l b p) at = no-faults p (at + n)
no-faults (skips {n} l b p) at = no-faults p (at + n)
no-faults (lists p) at = no-faults p at

by-taken : {A C : Type 0} {k : Kind} {n : ℕ} {t : List Event} {g : List ℕ → Walk A} {a : A} → Plays t (read k n g) a → ((bs : List ℕ) (u : List Event) → t ≡ piece k bs ∷ u → Plays u (g bs) a → C) → C
by-taken (reads {bs} {t} l b p) f = f bs t refl p

pick-unless : (c : Bool) (n p : ℕ) (x : List Fault) → pick c x (record { number = n; place = p } ∷ x) ≡ unless c n p ++ x
pick-unless true n p x = refl
pick-unless false n p x = refl

two-forms : same_bytes (formed Form.Electrodes) (formed Form.Channels) ≡ false
unfolding same_bytes formed
two-forms = refl

module _ (w : Version) where
  form-asked : (f : List ℕ) → is_form Version.V300 f ≡ true → is_form w f ≡ (allows w).electrodes || not (same_bytes f (formed Form.Electrodes))
  unfolding allows
  form-asked f h = narrowed-two (same_bytes f (formed Form.Channels)) (same_bytes f (formed Form.Electrodes)) (allows w).electrodes apart h
    where
      apart : same_bytes f (formed Form.Electrodes) ≡ true → same_bytes f (formed Form.Channels) ≡ false
      apart e = rw (same-is f (formed Form.Electrodes) e) two-forms

  script-asked : (b : ℕ) → is_script Version.V300 b ≡ true → is_script w b ≡ (allows w).unicode || not (eqb b 85)
  unfolding allows
  script-asked b h = narrowed-two (eqb b 83 || eqb b 74 || eqb b 69) (eqb b 85) (allows w).unicode (λ e. rw (eqb-true b 85 e)) h

  -- the header
  header-faults : {t : List Event} {f : Others} → Plays t (others Version.V300) f → (u : List Event) → faults 14 t (others w) ≡
      of_form w (piece_of (t ++ u)) ++ of_script w (get_or (piece_of (behind (behind (t ++ u)))) 0 0)
  unfolding others faults ◌>>=◌ ◌>>◌
  header-faults p u =
      by-taken p λ a u₁ e₁ p. by-check p λ h₁ p. by-taken p λ _ u₂ e₂ p. by-check p λ h₂ p. by-taken p λ c u₃ e₃ p. by-check p λ h₃ p. by-taken p λ _ u₄ e₄ p. by-check p λ h₄ p. by-taken p λ _ u₅ e₅ p. by-check p λ h₅ p.
      rw (e₁, e₂, e₃, e₄, e₅, h₂, h₄, h₅, form-asked a h₁, script-asked (get_or c 0 0) h₃)
      (pick-unless ((allows w).electrodes || not (same_bytes a (formed Form.Electrodes))) 4 14 (of_script w (get_or c 0 0)))

  header-quiet : {t : List Event} {f : Others} → Plays t (others Version.V300) f → (breaches_in w start 14 t ≡ []) × Calm (steps start t)
  unfolding others ◌>>=◌ ◌>>◌
  header-quiet {t} p =
      let q = quiet w p (λ _ _ _ _ _. tt) start (other refl) 14 in
      (sym (append-nil (breaches_in w start 14 t)) ∙ q.equal ∙ no-faults p 14, q.calm)

  -- the file behind its version
  rest-faults : (n : ℕ) (name : Spelling) {T : List Event} {v : File} → Plays T (rest n name Version.V300 w) v → faults 14 T (rest n name w w) ≡
      of_form w (piece_of T) ++ (of_script w (get_or (piece_of (behind (behind T))) 0 0) ++ breaches_in w start 14 T)
  unfolding rest
  rest-faults n name p =
      by_parts (others Version.V300) _ p λ f t u j p₁ p₂.
      let h = header-quiet p₁ in
      let k : Others → Walk File = λ f. recordings (record { version = w; form = f.form }) f.count none (n - 32) 1 >>= λ rs. give (made name w f rs) in
      let x : Tells w false false (steps start t) (14 + size t) u (k f) Any =
      tells-bind w _ _ _ _ (steps start t) (14 + size t) (λ _. Any) Any (ordered-implies (ordered-recordings (record { version = w; form = f.form }) f.count none (n - 32) 1)) p₂
      (λ _ t₁ q. tells-recordings w f.form f.count none (n - 32) 1 q (steps start t) h.1 (14 + size t)) (λ _ u₁ S at c _ p. tells-give w S at Any c p (λ _. tt)) in
      let y : breaches_in w start 14 (t ++ u) ≡ faults (14 + size t) u (k f) =
      breaches-append w t u start 14 ∙ ap (λ (z : List Fault). z ++ breaches_in w (steps start t) (14 + size t) u) h.0 ∙ sym (append-nil _) ∙ x.equal in
      let a : List Fault = of_form w (piece_of (t ++ u)) in
      let c : List Fault = of_script w (get_or (piece_of (behind (behind (t ++ u)))) 0 0) in
      rw (← j) (faults-bind u k (ordered-implies (ordered-others w)) p₁ 14 ∙ ap (λ (z : List Fault). z ++ faults (14 + size t) u (k f)) (header-faults p₁ u) ∙ append_assoc a c _ ∙ ap (λ (z : List Fault). a ++ (c ++ z)) (sym y))

  -- the name and the version are no matter
  opened-breaches : (n : ℕ) {t : List Event} {v : File} (q : Opened n t v) →
      breaches_of w t ≡ of_form w (piece_of q.others) ++ (of_script w (get_or (piece_of (behind (behind q.others))) 0 0) ++ breaches_in w start 14 q.others)
  unfolding breaches_in broken size
  opened-breaches n q =
      let z : 0 + (length q.id + 0) + (length q.label + 0) ≡ 14 = (let x = q.long in let y = q.wide in omega arith) in
      ap (breaches_of w) q.events ∙ ap (λ (m : ℕ). of_form w (piece_of q.others) ++ (of_script w (get_or (piece_of (behind (behind q.others))) 0 0) ++ breaches_in w start m q.others)) z

  module _ (s : List ℕ) (b : Bytes s) {v : File} {r : List ℕ} {t : List Event} (h : judge s ≡ passed v r t) (e : v.heading.label.version ≡ Version.V300) where
    failing-are : failing w s b h e ≡ breaches_of w t
    unfolding failing
    failing-are = rest-faults (length s) _ (as-newest w s b h e) ∙ sym (opened-breaches (length s) (was-opened s b h))

    -- a 000300 file, with only its version changed, is refused at the first place where it breaks that version's rules; where there is none, it is accepted with the same reading but for the version
    pub relabelled-older : judge (relabelled w s) ≡ first (breaches_of w t) (passed (with_version w v) [] (relabelled_events w t))
    relabelled-older = newer-older w s b h e ∙ ap (λ (z : List Fault). first z (passed (with_version w v) [] (relabelled_events w t))) failing-are

    -- and the breaches stand in file order
    pub in-file-order : Rising 14 (breaches_of w t) (length s)
    in-file-order = rw failing-are at (failing-rising w s b h e)

    -- accepted exactly if there is none
    pub kept-accepted : breaches_of w t ≡ [] → judge (relabelled w s) ≡ passed (with_version w v) [] (relabelled_events w t)
    kept-accepted k = relabelled-older ∙ ap (λ (z : List Fault). first z (passed (with_version w v) [] (relabelled_events w t))) k

    pub accepted-kept : {v' : File} {r' : List ℕ} {t' : List Event} → judge (relabelled w s) ≡ passed v' r' t' → breaches_of w t ≡ []
    accepted-kept {v'} {r'} {t'} k = go (breaches_of w t) (sym relabelled-older ∙ k)
      where
        go : (fs : List Fault) → first fs (passed (with_version w v) [] (relabelled_events w t)) ≡ passed v' r' t' → fs ≡ []
        go [] g = refl
        go (f ∷ fs) g = refused-passed g
