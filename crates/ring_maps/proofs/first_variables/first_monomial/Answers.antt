use Rattle.std.proofs.Common.{ap, arith, length, subst, ◌∙◌, ◌≡◌}
use Rattle.monomials.specs.Exponents.{exponents_of}
use Rattle.term_lists.specs.Rings.{variables}
use Rattle.ring_maps.proofs.GraphRings.{graph_count, first_exponents}
use Rattle.ring_maps.proofs.first_variables.first_monomial.Goals as goal

pub with_zeros-requires : goal.with_zeros-requires
with_zeros-requires c =
    let two = graph_count c.args._ring.now c.args.graph.now c.requires.graph in
    omega (arith, ap length c.exponents.ensures.value, c.len.ensures, c.requires.monomial.variables, two)

pub monomial_of-requires : goal.monomial_of-requires
monomial_of-requires c = omega (arith, ap length c.deref.ensures.value, c.in_ok-with_zeros.ensures.count, c.len.ensures)

pub returns-clause-fitted : goal.returns-clause-fitted
returns-clause-fitted c =
    let n = variables c.args._ring.now in
    let k = variables c.args.graph.now in
    let same = subst (λ j. exponents_of j c.with_zeros.new.more.items ≡ exponents_of j c.exponents.result.now) c.len.ensures c.in_ok-with_zeros.ensures.same in
    ap (exponents_of k) (c.in_ok-monomial_of.ensures.exponents ∙ c.deref.ensures.value) ∙ same ∙ ap (exponents_of k) c.exponents.ensures.value
    ∙ first_exponents n k c.args.m.now.exponents c.requires.monomial.variables
