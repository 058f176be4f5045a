use Rattle.std.proofs.Common.{[], ap, subst, sym, ◌++◌, ◌∙◌, ◌∷◌}
use Rattle.monomial_orders.specs.Kept.{AreWeights}
use Rattle.degree_engine.proofs.LastVariable.{weights_more}
use Rattle.degree_engine.proofs.last_variable.weights_with_last.Goals as goal

pub from_vec-requires : goal.from_vec-requires
from_vec-requires c =
    let ws = c.args.weights.now in
    subst AreWeights
    (sym (c.in_ok-push.ensures.items
    ∙ ap (λ l. l ++ 1 ∷ [])
    (c.in_ok-extend_from_slice.ensures.items ∙ ap (λ l. l ++ c.as_slice.result.now) c.in_ok-more.ensures.items ∙ c.as_slice.ensures.value)))
    (weights_more ws c.as_slice.ensures.positive)

pub returns : goal.returns
returns c =
    c.from_vec.ensures ∙ c.in_ok-push.ensures.items
    ∙ ap (λ l. l ++ 1 ∷ [])
    (c.in_ok-extend_from_slice.ensures.items ∙ ap (λ l. l ++ c.as_slice.result.now) c.in_ok-more.ensures.items ∙ c.as_slice.ensures.value)
