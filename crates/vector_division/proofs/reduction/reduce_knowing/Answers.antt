use Rattle.std.proofs.Common.{subst}
use Rattle.residues.specs.Residues.{IsDomain}
use Rattle.formal_sums.proofs.Combining.{Each_map}
use Rattle.term_lists.specs.Rings.{variables}
use Rattle.vector_division.proofs.Keeping.{kept_reduced, kept_sum}
use Rattle.vector_division.proofs.reduction.reduce_knowing.Goals as goal

pub take_products-requires-clause-vector : goal.take_products-requires-clause-vector
take_products-requires-clause-vector g c = c.requires.vector

pub take_products-requires-clause-list : goal.take_products-requires-clause-list
take_products-requires-clause-list g c = c.requires.list

pub take_products-requires-clause-divisors : goal.take_products-requires-clause-divisors
take_products-requires-clause-divisors g c = c.requires.divisors

pub take_products-requires-clause-free : goal.take_products-requires-clause-free
take_products-requires-clause-free g c = c.requires.free

pub from_terms-requires : goal.from_terms-requires
from_terms-requires g c = Each_map _ _ c.in_ok-quotients.field-0.rest.items (λ t h. (h.weighed, h.reduced)) c.in_ok-quotients.ensures.kept.stay

pub returns-clause-quotients : goal.returns-clause-quotients
returns-clause-quotients g c = c.in_ok-quotients.ensures.kept.underway.quotients

pub returns-clause-met : goal.returns-clause-met
returns-clause-met g c = c.in_ok-quotients.ensures.kept.underway.met

pub returns-clause-bounded : goal.returns-clause-bounded
returns-clause-bounded g c = c.in_ok-quotients.ensures.kept.underway.bounded

pub returns-clause-sum : goal.returns-clause-sum
returns-clause-sum g c =
    let ring = g.F.Frame.over c.args.frame.now in
    let n = variables ring in
    let t = c.in_ok-quotients.field-0 in
    let h = c.in_ok-quotients.ensures in
    kept_sum n ring.weights ring.modulus.value (g.F.Frame.compare c.args.frame.now n) (g.met.F.Frame.laws c.args.frame.now n 0)
    c.args.v.now (g.L.Vectors.listed c.args.list.now) t.quotients.items t.rest.items c.in_ok-from_terms.field-0 t.left
    h.kept h.ended c.in_ok-from_terms.ensures.same

pub returns-clause-rest : goal.returns-clause-rest
returns-clause-rest g c = c.in_ok-from_terms.ensures.vector

pub returns-clause-reduced : goal.returns-clause-reduced
returns-clause-reduced g c =
    let ring = g.F.Frame.over c.args.frame.now in
    let n = variables ring in
    let t = c.in_ok-quotients.field-0 in
    let h = c.in_ok-quotients.ensures in
    kept_reduced n ring.weights ring.modulus.value (g.F.Frame.compare c.args.frame.now n) (g.met.F.Frame.laws c.args.frame.now n 0)
    c.args.v.now (g.L.Vectors.listed c.args.list.now) t.rest.items c.in_ok-from_terms.field-0
    (subst (λ r. IsDomain r.modulus.value) c.ring.ensures c.domain.ensures.domain) h.kept.reduced
    c.in_ok-from_terms.ensures.vector c.in_ok-from_terms.ensures.same
