use Rattle.std.proofs.Common.{arith, length, subst, ◌≡◌}
use Rattle.monomial_orders.specs.Kept.{IsWeighed}
use Rattle.term_lists.specs.Rings.{variables}
use Rattle.ring_maps.proofs.GraphRings.{graph_count, variable_among}
use Rattle.ring_maps.proofs.graph.second_variable.Goals as goal

pub overflow_sub-from_last : goal.overflow_sub-from_last
overflow_sub-from_last c = omega (arith, c.len.ensures, c.requires.index)

pub variable-requires : goal.variable-requires
variable-requires c =
    let two = graph_count c.args.ring.now c.args.graph.now c.requires.graph in
    let weighted : length c.args.graph.now.weights ≡ variables c.args.graph.now = c.args.graph.now.weighted in
    omega arith

pub returns-clause-over : goal.returns-clause-over
returns-clause-over c =
    let graph = c.args.graph.now in
    subst (λ k. IsWeighed k graph.weights c.in_ok-variable.field-0) graph.weighted c.in_ok-variable.ensures.weighed

pub returns-clause-behind : goal.returns-clause-behind
returns-clause-behind c =
    let ring = c.args.ring.now in
    let graph = c.args.graph.now in
    let two = graph_count ring graph c.requires.graph in
    let weighted : length graph.weights ≡ variables graph = graph.weighted in
    variable_among (variables ring) (variables graph) _ c.args.i _ _ weighted c.in_ok-variable.ensures.ok c.requires.index two (omega arith)
