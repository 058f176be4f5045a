use Rattle.std.proofs.Common.{ap₂, subst, sym, ◌++◌, ◌-◌, ◌<◌, ◌∙◌, ◌∷◌}
use Rattle.formal_sums.proofs.Sameness.{IsSame_of, IsSame_trans}
use Rattle.formal_sums.specs.FormalSums.{IsSame, Term}
use Rattle.map_laws.specs.Graphs.{behind, variable_monomial}
use Rattle.term_lists.specs.Rings.{variables}
use Rattle.term_lists.specs.Vectors.{AreTermsOver, IsMonomialOver, sum_of}
use Rattle.ring_maps.proofs.FirstTerms.{both_parts, each_back, each_front, first_among, multiple}
use Rattle.ring_maps.proofs.graph.graph_vector.Goals as goal

pub push_first-requires-clause-terms : goal.push_first-requires-clause-terms
push_first-requires-clause-terms c =
    let ring = c.args.ring.now in
    let all = subst (AreTermsOver ring) (sym c.terms-own.ensures) c.requires.terms in
    subst (AreTermsOver ring) (sym c.split_at.ensures.front) (each_front (λ t. IsMonomialOver ring t.0.monomial × (t.1 < ring.modulus.value)) c.before_constant.result c.terms-own.result.now all)

pub push_first-requires-clause-more : goal.push_first-requires-clause-more
push_first-requires-clause-more c = subst (AreTermsOver c.args.graph.now) (sym c.in_ok-terms.ensures.items) tt

pub push_first-requires-2-clause-terms : goal.push_first-requires-2-clause-terms
push_first-requires-2-clause-terms c =
    let ring = c.args.ring.now in
    let all = subst (AreTermsOver ring) (sym c.terms-own.ensures) c.requires.terms in
    subst (AreTermsOver ring) (sym c.split_at.ensures.back) (each_back (λ t. IsMonomialOver ring t.0.monomial × (t.1 < ring.modulus.value)) c.before_constant.result c.terms-own.result.now all)

pub returns-clause-stands : goal.returns-clause-stands
returns-clause-stands c =
    let ring = c.args.ring.now in
    let graph = c.args.graph.now in
    let n = variables ring in
    let m = variables graph in
    let p = graph.modulus.value in
    let r = ring.modulus.value - 1 in
    let y : Term m = ((0, behind m n (variable_monomial n c.args.i)), 1) in
    let a = c.split_at.result.0.now in
    let b = c.split_at.result.1.now in
    let none = c.in_ok-terms.terms.items in
    let first = c.push_first.new.more.items in
    let then = c.push_variable.new.terms.items in
    let last = c.push_first-2.new.more.items in
    let h = subst (λ z. IsSame p (sum_of m first) (sum_of m z ++ multiple m r (sum_of n a))) c.in_ok-terms.ensures.items
    (subst (λ k. IsSame p (sum_of m first) (sum_of m none ++ multiple m k (sum_of n a))) c.minus_one.ensures.value c.in_ok-push_first.ensures.sum) in
    let l = subst (λ k. IsSame p (sum_of m last) (sum_of m then ++ multiple m k (sum_of n b))) c.minus_one-2.ensures.value c.in_ok-push_first-2.ensures.sum in
    let whole = first_among n m p r y a b (sum_of m first) (sum_of m then) (sum_of m last) h (IsSame_of p _ _ c.in_ok-push_variable.ensures.sum) l in
    let all = ap₂ ◌++◌ c.split_at.ensures.front c.split_at.ensures.back ∙ both_parts c.before_constant.result c.terms-own.result.now ∙ c.terms-own.ensures in
    IsSame_trans c.in_ok-from_terms.ensures.same (subst (λ z. IsSame p (sum_of m last) (y ∷ multiple m r (sum_of n z))) all whole)
