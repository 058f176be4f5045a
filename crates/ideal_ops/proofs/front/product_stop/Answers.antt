use Rattle.std.proofs.Common.{[], ap₂, arith, get_or, length, refl, subst, sym, ◌++◌, ◌<◌, ◌∙◌, ◌∷◌}
use Rattle.term_lists.specs.Rings.{ring_comparison}
use Rattle.term_lists.specs.Vectors.{AreVectorsOver}
use Rattle.module_vectors.specs.ProductStops.{CombinationStops}
use Rattle.ideal_ops.specs.Products.{IsProductTrail, WorkStops}
use Rattle.ideal_ops.proofs.front.product_stop.Goals as goal

pub stop_of-requires-clause-stop : goal.stop_of-requires-clause-stop
stop_of-requires-clause-stop c =
    let whole = c.in-Ok.ensures.ok ∙ ap₂ (λ z x. z ++ x ∷ []) c.new-one.ensures refl in
    subst (λ l. CombinationStops c.args.b.now (get_or l 0 [] ∷ []) c.args.stop) (sym whole) c.requires.stop

pub stop_of-requires-clause-members : goal.stop_of-requires-clause-members
stop_of-requires-clause-members c =
    let whole = c.in-Ok.ensures.ok ∙ ap₂ (λ z x. z ++ x ∷ []) c.new-one.ensures refl in
    subst (AreVectorsOver c.args.front.now (ring_comparison c.args.front.now)) (sym whole) (c.requires.u, tt)

pub stop_of-requires-clause-index : goal.stop_of-requires-clause-index
stop_of-requires-clause-index c =
    let whole = c.in-Ok.ensures.ok ∙ ap₂ (λ z x. z ++ x ∷ []) c.new-one.ensures refl in
    subst (λ l. 0 < length l) (sym whole) (omega arith)

pub returns-in-Ok : goal.returns-in-Ok
returns-in-Ok c =
    let whole = c.in-Ok.ensures.ok ∙ ap₂ (λ z x. z ++ x ∷ []) c.new-one.ensures refl in
    subst (λ l. WorkStops (IsProductTrail c.args.front.now c.args.b.now l 0) c.stop_of.result) whole c.stop_of.ensures

pub stop_of-requires-clause-b : goal.stop_of-requires-clause-b
stop_of-requires-clause-b c = c.requires.b

pub stop_of-requires-clause-b_positions : goal.stop_of-requires-clause-b_positions
stop_of-requires-clause-b_positions c = c.requires.b_positions
