use Rattle.std.proofs.Common.{[], ap, map, sym, take, ◌++◌, ◌∙◌, ◌∷◌}
use Rattle.std.proofs.lemmas.List.{map-append}
use Rattle.term_lists.proofs.Scaling.{take_item}
use Rattle.vector_division.specs.Reductions.{unscaled}
use Rattle.schreyer_resolution.proofs.trails.quotient_products.Goals as goal

pub loop-quotient-init : goal.loop-quotient-init
loop-quotient-init c = c.in_ok-products.ensures

pub loop-quotient-preserved : goal.loop-quotient-preserved
loop-quotient-preserved c =
    let quotients = c.args.quotients.now in
    let i = c.loop-quotient.quotient-index in
    let x = c.quotient-item.result in
    c.in_ok-push_product.ensures
    ∙ ap (λ xs. xs ++ unscaled x ∷ []) c.loop-quotient.invariant
    ∙ ap (λ xs. (c.args.key.now.position, c.args.key.now.monomial) ∷ xs)
    (sym (ap (map unscaled) (take_item quotients i x c.loop-quotient-test.true c.quotient-item.is) ∙ map-append unscaled (take i quotients) (x ∷ [])))
