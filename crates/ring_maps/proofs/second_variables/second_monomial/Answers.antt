use Rattle.std.proofs.Common.{ap, ap₂, arith, drop, length, ◌∙◌}
use Rattle.monomials.specs.Exponents.{exponents_of}
use Rattle.term_lists.specs.Rings.{variables}
use Rattle.ring_maps.proofs.GraphRings.{graph_count, second_exponents}
use Rattle.ring_maps.proofs.second_variables.second_monomial.Goals as goal

pub split_at-requires : goal.split_at-requires
split_at-requires c =
    let two = graph_count c.args.ring.now c.args._graph.now c.requires.graph in
    omega (arith, ap length c.exponents.ensures.value, c.len.ensures, c.requires.monomial.variables, two)

pub monomial_of-requires : goal.monomial_of-requires
monomial_of-requires c =
    let two = graph_count c.args.ring.now c.args._graph.now c.requires.graph in
    omega (arith, c.split_at.ensures.back_len, ap length c.exponents.ensures.value, c.len.ensures, c.requires.monomial.variables, two)

pub returns-clause-after : goal.returns-clause-after
returns-clause-after c =
    let n = variables c.args.ring.now in
    let k = variables c.args._graph.now in
    let two = graph_count c.args.ring.now c.args._graph.now c.requires.graph in
    ap (exponents_of n) (c.in_ok-monomial_of.ensures.exponents ∙ c.split_at.ensures.back ∙ ap₂ drop c.len.ensures c.exponents.ensures.value)
    ∙ second_exponents n n k c.args.m.now.exponents c.requires.monomial.variables two
