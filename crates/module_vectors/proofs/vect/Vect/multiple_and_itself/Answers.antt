use Rattle.std.proofs.Common.{ap, subst, sym, ◌++◌, ◌∙◌}
use Rattle.monomials.specs.Exponents.{exponents_of}
use Rattle.formal_sums.proofs.Combining.{Each_map}
use Rattle.formal_sums.proofs.Sameness.{IsSame_append, IsSame_of, IsSame_refl, IsSame_trans}
use Rattle.formal_sums.proofs.WeightedSums.{Each_append}
use Rattle.formal_sums.specs.FormalSums.{IsSame, scale}
use Rattle.term_lists.proofs.Merges.{sum_of-append}
use Rattle.term_lists.specs.Rings.{variables}
use Rattle.term_lists.specs.Vectors.{AreTermsOver, sum_of}
use Rattle.module_vectors.proofs.vect.Vect.multiple_and_itself.Goals as goal

pub from_terms-requires : goal.from_terms-requires
from_terms-requires g c =
    let ring = g.F.Frame.over c.args.frame.now in
    let m = c.in_ok-multiple.multiple.items in
    let v = c.args.v.now in
    subst (AreTermsOver ring) (sym (c.in_ok-terms.ensures ∙ ap (λ w. m ++ w) c.terms-2.ensures))
    (Each_append _ m v (Each_map _ _ m (λ t k. (k.weighed, k.reduced)) c.in_ok-multiple.ensures.vector.each)
    (Each_map _ _ v (λ t k. (k.weighed, k.reduced)) c.requires.vector.each))

pub returns-clause-sum : goal.returns-clause-sum
returns-clause-sum g c =
    let ring = g.F.Frame.over c.args.frame.now in
    let n = variables ring in
    let p = ring.modulus.value in
    let m = c.in_ok-multiple.multiple.items in
    let v = c.args.v.now in
    let sum = subst (λ w. IsSame p (sum_of n m) (scale c.args.c (exponents_of n c.args.t.now.exponents) (sum_of n w))) c.terms.ensures c.in_ok-multiple.ensures.sum in
    IsSame_trans c.in_ok-from_terms.ensures.same
    (IsSame_trans (IsSame_of p _ _ (ap (λ w. sum_of n w) (c.in_ok-terms.ensures ∙ ap (λ w. m ++ w) c.terms-2.ensures) ∙ sum_of-append n m v))
    (IsSame_append sum (IsSame_refl p (sum_of n v))))
