use Rattle.std.proofs.Common.{[], subst, sym, ◌∷◌, ◌≡◌}
use Rattle.std.proofs.lemmas.Result.{IfOk-weaker}
use Rattle.formal_sums.specs.FormalSums.{IsSame}
use Rattle.monomial_orders.specs.Kept.{IsWeighed}
use Rattle.term_lists.specs.Rings.{variables}
use Rattle.term_lists.specs.Vectors.{AreTermsOver, sum_of}
use Rattle.cofactor_track.proofs.Differences.{unit_sum}
use Rattle.cofactor_track.proofs.changes.unit_vector.Goals as goal

pub returns-clause-unit : goal.returns-clause-unit
returns-clause-unit c =
    let n = variables c.args.ring.now in
    let p = c.args.ring.now.modulus.value in
    let items : c.in_ok-terms.terms.items ≡ (record { position = c.args.i; monomial = c.in_ok-monomial.monomial }, 1) ∷ [] = c.in_ok-terms.ensures.items in
    IfOk-weaker c.from_terms.result _ _
    (λ v h. unit_sum p n c.len.result c.args.i c.in_ok-monomial.monomial (sum_of n v) c.len.ensures c.in_ok-monomial.ensures.ok
    (subst (λ z. IsSame p (sum_of n v) (sum_of n z)) items h))
    c.from_terms.ensures.same

pub from_terms-requires : goal.from_terms-requires
from_terms-requires c =
    let ring = c.args.ring.now in
    let m = c.in_ok-monomial.monomial in
    let items : c.in_ok-terms.terms.items ≡ (record { position = c.args.i; monomial = m }, 1) ∷ [] = c.in_ok-terms.ensures.items in
    subst (AreTermsOver ring) (sym items)
    ((subst (λ k. IsWeighed k ring.weights m) c.len.ensures (c.in_ok-monomial.ensures.weighed ring.weights), c.domain.ensures.above_one), tt)
