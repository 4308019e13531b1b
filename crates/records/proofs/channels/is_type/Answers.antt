-- `records::channels::is_type` meets its contract: the types are 0 to 18, and 20 where the version allows it. Assumes nothing.
use mathlib.Core.Path.{◌≡◌, refl, sym, ap, ◌∙◌}
use mathlib.Core.Bool.{Bool, true, false, ◌&&◌, ◌||◌}
use Prim.Native.Nat.{ℕ}
use lib.Dec.{leb, eqb}
use Rattle.rules.specs.Rules.{Allows, allows, is_type}
use Rattle.rules.specs.declared.Version.{Version}
use borrow.Author.Tests.{ne_eqb}
use Rattle.records.proofs.channels.is_type.Goals as goal

-- of any other number
other : (v : Version) (n : ℕ) → eqb n 20 ≡ false → is_type v n ≡ leb n 18
unfolding is_type
other v n e = rw e (none (leb n 18) (allows v).twenty)
  where
    none : (a b : Bool) → a || (b && false) ≡ a
    none true b = refl
    none false true = refl
    none false false = refl

twenty : (v : Version) → is_type v 20 ≡ (allows v).twenty
unfolding is_type
twenty v = all (allows v).twenty
  where
    all : (b : Bool) → leb 20 18 || (b && eqb 20 20) ≡ b
    all true = refl
    all false = refl

pub returns-then-n-eq20 : goal.returns-then-n-eq20
returns-then-n-eq20 c = ap (λ (a : Allows). a.twenty) c.allows.ensures ∙ (sym (twenty _) ∙ ap (is_type _) (sym c.if-n-eq20.true))

pub returns : goal.returns
returns c = sym (other c.args.v c.args.n (ne_eqb c.args.n 20 c.if-n-eq20.false))
