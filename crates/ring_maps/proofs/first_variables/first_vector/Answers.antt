use Rattle.std.proofs.Common.{[], subst, sym, ◌++◌}
use Rattle.monomials.specs.Exponents.{unit}
use Rattle.formal_sums.proofs.Sameness.{IsSame_of, IsSame_trans}
use Rattle.formal_sums.specs.FormalSums.{scale}
use Rattle.map_laws.specs.Graphs.{in_first}
use Rattle.term_lists.specs.Rings.{variables}
use Rattle.term_lists.specs.Vectors.{AreTermsOver, StandsFor, sum_of}
use Rattle.ring_maps.proofs.FirstTerms.{first_alone}
use Rattle.ring_maps.proofs.first_variables.first_vector.Goals as goal

pub push_first-requires-clause-terms : goal.push_first-requires-clause-terms
push_first-requires-clause-terms c = subst (AreTermsOver c.args.ring.now) (sym c.terms-own.ensures) c.requires.terms

pub push_first-requires-clause-more : goal.push_first-requires-clause-more
push_first-requires-clause-more c = subst (AreTermsOver c.args.graph.now) (sym c.in_ok-terms.ensures.items) tt

pub from_terms-requires : goal.from_terms-requires
from_terms-requires c = c.in_ok-push_first.ensures.over

pub returns-clause-stands : goal.returns-clause-stands
returns-clause-stands c =
    let graph = c.args.graph.now in
    let m = variables graph in
    let n = variables c.args.ring.now in
    let v = c.args.v.now in
    let sum = subst (λ z. StandsFor graph c.push_first.new.more.items (sum_of m z ++ scale 1 (unit m) (in_first m (sum_of n c.terms-own.result.now)))) c.in_ok-terms.ensures.items c.in_ok-push_first.ensures.sum in
    IsSame_trans c.in_ok-from_terms.ensures.same
    (IsSame_trans (subst (λ z. StandsFor graph c.push_first.new.more.items ([] ++ scale 1 (unit m) (in_first m (sum_of n z)))) c.terms-own.ensures sum)
    (IsSame_of _ _ _ (first_alone m (sum_of n v))))
