use Rattle.std.proofs.Common.{length, subst, sym, ◌++◌, ◌∙◌}
use Rattle.formal_sums.proofs.Sameness.{IsSame_sym, IsSame_trans}
use Rattle.formal_sums.specs.Combinations.{combination}
use Rattle.formal_sums.specs.FormalSums.{FormalSum, HasRank}
use Rattle.term_lists.specs.Rings.{ring_comparison, variables}
use Rattle.term_lists.specs.Vectors.{AreTermsOver, IsVectorOver, StandsFor, sum_of, sums_of}
use Rattle.vector_division.specs.Divisions.{IsFreeOfLeads}
use Rattle.syzygy_engine.proofs.LeftOver.{division_rests}
use Rattle.syzygy_engine.proofs.Marks.{loose}
use Rattle.syzygy_engine.proofs.lifting.rest_of_copy.Goals as goal

pub from_terms-requires : goal.from_terms-requires
from_terms-requires c =
    let items = c.into_terms.ensures ∙ c.in_ok-try_copy.ensures in
    subst (AreTermsOver c.args.by_position.now) (sym items)
    (subst (λ r. AreTermsOver r c.args.v.now) (sym c.requires.by_position) (loose c.args.ring.now c.args.v.now c.requires.vector.each))

pub returns-in-Ok-clause-rest : goal.returns-in-Ok-clause-rest
returns-in-Ok-clause-rest c = subst (λ r. IsVectorOver r (ring_comparison r) c.in-Ok.rest) c.requires.by_position c.in-Ok.ensures.rest

pub returns-in-Ok-clause-reduced : goal.returns-in-Ok-clause-reduced
returns-in-Ok-clause-reduced c =
    subst (λ r. IsFreeOfLeads (sums_of (variables r) c.args.list.now) (sum_of (variables r) c.in-Ok.rest)) c.requires.by_position c.in-Ok.ensures.reduced

pub returns-in-Ok-clause-sum : goal.returns-in-Ok-clause-sum
returns-in-Ok-clause-sum c =
    let ring = c.args.ring.now in
    let list = c.args.list.now in
    let u = c.in_ok-u.u in
    let items = c.into_terms.ensures ∙ c.in_ok-try_copy.ensures in
    let e = c.requires.by_position in
    let same = subst (λ z. StandsFor ring u (sum_of (variables ring) z)) items (subst (λ r. StandsFor r u (sum_of (variables r) c.into_terms.result.items)) e c.in_ok-u.ensures.same) in
    let found = subst (λ r. (a : FormalSum (variables r)) × HasRank (length list) a × StandsFor r u (combination (sums_of (variables r) list) a ++ sum_of (variables r) c.in-Ok.rest)) e c.in-Ok.ensures.sum in
    (found.0, found.1, IsSame_trans (IsSame_sym same) found.2)

pub returns-clause-stop : goal.returns-clause-stop
returns-clause-stop c =
    let ring = c.args.ring.now in
    let u = c.in_ok-u.u in
    let items = c.into_terms.ensures ∙ c.in_ok-try_copy.ensures in
    let e = c.requires.by_position in
    let same = subst (λ z. StandsFor ring u (sum_of (variables ring) z)) items (subst (λ r. StandsFor r u (sum_of (variables r) c.into_terms.result.items)) e c.in_ok-u.ensures.same) in
    let vector = subst (λ r. IsVectorOver r (ring_comparison r) u) e c.in_ok-u.ensures.vector in
    division_rests ring c.args.by_position.now c.args.v.now u c.args.list.now c.in-Err.stop e (record { vector = vector; same = same }) c.in-Err.ensures.stop
