-- `index::eight_same` meets its contract: each word is the pair four times.
-- Assumes nothing.
use mathlib.Core.Path.{◌≡◌, sym, ap, ◌∙◌}
use Prim.Native.Nat.{ℕ, ◌*◌}
use native.Mathlib.Omega.{arith}
use borrow.Author.Tests.{eqb-true}
use Rattle.words.proofs.Words.{bytes}
use Rattle.index.proofs.Pairs.{eight-same}
use Rattle.index.proofs.eight_same.Goals as goal

pub returns : goal.returns
returns c e q l =
    let four : c.from-four.result * 281479271743489 ≡ c.args.pair * 281479271743489 = ap (λ (n : ℕ). n * 281479271743489) c.from-four.ensures in
    eight-same c.args.s.now (bytes c.args.s.now c.fits-s) c.told-s c.args.pair (omega arith)
    (sym c.word_of_8.ensures ∙ c.if-word_of_8-four.false ∙ four)
    (sym c.word_of_8-2.ensures ∙ eqb-true c.word_of_8-2.result (c.from-four.result * 281479271743489) e ∙ four) q l
