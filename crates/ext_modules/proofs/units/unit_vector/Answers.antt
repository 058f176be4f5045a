use Rattle.std.proofs.Common.{ap, subst, ◌∙◌}
use Rattle.monomials.specs.Exponents.{unit}
use Rattle.monomial_orders.specs.Monomials.{IsMonomial}
use Rattle.term_lists.specs.Rings.{variables}
use Rattle.term_lists.specs.Vectors.{sum_of}
use Rattle.ext_modules.proofs.UnitLists.{one_term_sum}
use Rattle.ext_modules.proofs.units.unit_vector.Goals as goal

pub returns-clause-sum : goal.returns-clause-sum
returns-clause-sum c =
    let n = variables c.args.ring.now in
    let m = c.in_ok-monomial.monomial in
    let one = subst (λ z. IsMonomial z (unit z) m.exponents) c.len.ensures c.in_ok-monomial.ensures.ok in
    ap (λ v. sum_of n v) c.from_ordered.ensures ∙ one_term_sum n c.args.position m c.in_ok-terms.terms.items one c.in_ok-terms.ensures
