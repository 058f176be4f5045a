use Rattle.std.proofs.Common.{IfOk, [], ap, subst, ◌∙◌}
use Rattle.monomials.specs.Exponents.{unit}
use Rattle.monomial_orders.specs.Monomials.{IsMonomial}
use Rattle.term_lists.specs.Rings.{variables}
use Rattle.term_lists.specs.Vectors.{StandsFor, sum_of}
use Rattle.syzygy_engine.proofs.Marks.{marked_sum}
use Rattle.ideal_ops.proofs.colons.one.Goals as goal

pub returns-clause-sum : goal.returns-clause-sum
returns-clause-sum c =
    let n = variables c.args.ring.now in
    let m = c.in_ok-monomial.monomial in
    let unit_of = subst (λ z. IsMonomial z (unit z) m.exponents) c.len.ensures c.in_ok-monomial.ensures.ok in
    subst (λ z. IfOk c.from_terms.result (λ u. StandsFor c.args.ring.now u z)) (ap (λ v. sum_of n v) c.in_ok-terms.ensures ∙ marked_sum n [] 0 m unit_of)
    c.from_terms.ensures.same
