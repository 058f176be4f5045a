use Rattle.std.proofs.Common.{[], ap, subst, ◌∷◌, ◌<◌}
use Rattle.ring_maps.proofs.GraphRings.{graph_modulus}
use Rattle.ring_maps.proofs.second_variables.second_term.Goals as goal

pub second_monomial-requires-clause-monomial : goal.second_monomial-requires-clause-monomial
second_monomial-requires-clause-monomial c = c.requires.term.0.0

pub returns-clause-over : goal.returns-clause-over
returns-clause-over c =
    ((c.in_ok-monomial.ensures.over, subst (λ p. c.args.term.1 < p) (graph_modulus c.args.ring.now c.args.graph.now c.requires.graph) c.requires.term.0.1), tt)

pub returns-clause-term : goal.returns-clause-term
returns-clause-term c = ap (λ e. ((c.args.term.0.position, e), c.args.term.1) ∷ []) c.in_ok-monomial.ensures.after
