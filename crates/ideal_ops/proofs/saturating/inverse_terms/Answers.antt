use Rattle.std.proofs.Common.{[], ap, subst, sym, ◌++◌, ◌∙◌, ◌∷◌}
use Rattle.monomials.specs.Exponents.{unit}
use Rattle.monomial_orders.specs.Kept.{IsWeighed}
use Rattle.monomial_orders.specs.Monomials.{IsMonomial}
use Rattle.term_lists.specs.Rings.{variables}
use Rattle.term_lists.specs.Vectors.{AreTermsOver, sum_of}
use Rattle.syzygy_engine.proofs.Marks.{marked_over, marked_sum}
use Rattle.ideal_ops.specs.Components.{positioned_at}
use Rattle.ideal_ops.proofs.Dividing.{placed_over}
use Rattle.ideal_ops.proofs.saturating.inverse_terms.Goals as goal

pub returns-clause-terms : goal.returns-clause-terms
returns-clause-terms c =
    let ring = c.args.front.now in
    let j = c.args.position in
    let m = c.in_ok-unit.field-0 in
    let weighed = subst (λ z. IsWeighed z ring.weights m) c.len.ensures (c.in_ok-unit.ensures.weighed ring.weights) in
    let whole = c.in_ok-push.ensures.items ∙ ap (λ z. z ++ (record { position = j; monomial = m }, 1) ∷ []) c.in_ok-terms.ensures in
    subst (AreTermsOver ring) (sym whole)
    (marked_over ring (positioned_at j c.args.w.now) j m c.domain.ensures.above_one (placed_over ring j c.args.w.now c.requires) weighed)

pub returns-clause-sum : goal.returns-clause-sum
returns-clause-sum c =
    let n = variables c.args.front.now in
    let j = c.args.position in
    let m = c.in_ok-unit.field-0 in
    let unit_of = subst (λ z. IsMonomial z (unit z) m.exponents) c.len.ensures c.in_ok-unit.ensures.ok in
    let whole = c.in_ok-push.ensures.items ∙ ap (λ z. z ++ (record { position = j; monomial = m }, 1) ∷ []) c.in_ok-terms.ensures in
    ap (sum_of n) whole ∙ marked_sum n (positioned_at j c.args.w.now) j m unit_of
