use Rattle.std.proofs.Common.{◌≡◌, ◌≢◌, ◌∙◌, ◌+◌, ◌∷◌, ap, arith, drop, subst, sym}
use Rattle.std.proofs.lemmas.List.{drop_more}
use Rattle.poly_text.proofs.Entries.{none_nearer}
use Rattle.poly_text.proofs.vector.next_position.Goals as goal

pub loop-term-preserved : goal.loop-term-preserved
loop-term-preserved c =
    let i = c.loop-term.term-index in
    let here : drop i c.args.terms.now ≡ c.term-item.result ∷ drop (i + 1) c.args.terms.now
    = drop_more c.args.terms.now i c.term-item.result c.loop-term-test.true ∙ ap (λ u. u ∷ drop (i + 1) c.args.terms.now) (sym c.term-item.is) in (
      c.nearer-least.ensures.within.0,
      omega (arith, c.nearer-least.ensures.within.1, c.loop-term.invariant.1),
      (λ q above below known. c.loop-term.invariant.2 q above (omega (arith, c.nearer-least.ensures.within.1))
          (none_nearer c.term-item.result _ _ q here (subst (λ p. p ≢ q) c.from.ensures (c.nearer-least.ensures.apart q above below)) known)),
    )
