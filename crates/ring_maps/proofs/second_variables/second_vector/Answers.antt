use Rattle.std.proofs.Common.{ap, subst, sym, ◌∙◌}
use Rattle.formal_sums.proofs.Sameness.{IsSame_of, IsSame_trans}
use Rattle.map_laws.specs.Graphs.{from_second}
use Rattle.term_lists.specs.Rings.{variables}
use Rattle.term_lists.specs.Vectors.{AreTermsOver, sum_of}
use Rattle.ring_maps.proofs.second_variables.second_vector.Goals as goal

pub second_terms-requires-clause-terms : goal.second_terms-requires-clause-terms
second_terms-requires-clause-terms c = subst (AreTermsOver c.args.graph.now) (sym c.into_terms.ensures) c.requires.terms

pub from_terms-requires : goal.from_terms-requires
from_terms-requires c = c.in_ok-terms.ensures.over

pub returns-clause-stands : goal.returns-clause-stands
returns-clause-stands c =
    let n = variables c.args.ring.now in
    let m = variables c.args.graph.now in
    IsSame_trans c.in_ok-from_terms.ensures.same
    (IsSame_of _ _ _ (c.in_ok-terms.ensures.sum ∙ ap (λ z. from_second n (sum_of m z)) c.into_terms.ensures))
