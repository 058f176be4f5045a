use Rattle.std.proofs.Common.{[], ap, arith, sym, ◌++◌, ◌∙◌, ◌∷◌}
use Rattle.std.proofs.lemmas.List.{take_all}
use Rattle.ideal_ops.specs.Components.{positioned_at}
use Rattle.ideal_ops.proofs.Dividing.{placed_next}
use Rattle.ideal_ops.proofs.quotients.placed_terms.Goals as goal

pub loop-term-preserved : goal.loop-term-preserved
loop-term-preserved c =
    let j = c.args.position in
    let x = c.term-item.result in
    c.in_ok-push_placed.ensures
    ∙ ap (λ xs. xs ++ positioned_at j (x ∷ [])) c.loop-term.invariant
    ∙ sym (placed_next j c.terms-term-items.result.now c.loop-term.term-index x c.loop-term-test.true c.term-item.is)

pub loop-term-init : goal.loop-term-init
loop-term-init c = c.in_ok-terms.ensures.items

pub returns : goal.returns
returns c =
    c.loop-term.invariant
    ∙ ap (positioned_at c.args.position) (take_all c.loop-term.term-index c.terms-term-items.result.now (omega arith) ∙ c.terms-term-items.ensures)
