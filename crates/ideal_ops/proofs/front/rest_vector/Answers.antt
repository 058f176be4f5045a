use Rattle.std.proofs.Common.{[], ap, subst, sym, ◌-◌, ◌<◌, ◌∙◌, ◌∷◌, ◌≡◌}
use Rattle.monomials.specs.Exponents.{unit}
use Rattle.monomial_orders.specs.Kept.{IsWeighed}
use Rattle.monomial_orders.specs.Monomials.{IsMonomial}
use Rattle.term_lists.specs.Rings.{ring_comparison}
use Rattle.term_lists.specs.Vectors.{IsVectorOver}
use Rattle.ideal_ops.proofs.OneMoreVariable.{rest_is, rest_over}
use Rattle.ideal_ops.proofs.front.rest_vector.Goals as goal

pub from_ordered-requires : goal.from_ordered-requires
from_ordered-requires c =
    let ring = c.args._ring.now in
    let front = c.args.front.now in
    let t = c.args.t.now in
    let one = c.in_ok-second.second in
    let m = c.minus_one.result in
    let is = subst (λ z. IsMonomial z (unit z) one.exponents) c.len.ensures c.in_ok-second.ensures.ok in
    let whole : c.in_ok-terms.terms.items ≡ (record { position = 0; monomial = t }, m) ∷ (record { position = 0; monomial = one }, 1) ∷ [] =
    c.in_ok-terms.ensures ∙ ap (λ x. (record { position = 0; monomial = x }, m) ∷ (record { position = 0; monomial = one }, 1) ∷ []) c.in_ok-first.ensures.ok in
    subst (λ l. IsVectorOver front (ring_comparison front) l) (sym whole)
    (rest_over ring front t one m c.requires.front c.requires.variable (subst (λ r. 1 < r.modulus.value) c.requires.front c.domain.ensures.above_one)
    (c.minus_one.ensures.value ∙ ap (λ r. r.modulus.value - 1) c.requires.front) is
    (λ ws. subst (λ z. IsWeighed z ws one) c.len.ensures (c.in_ok-second.ensures.weighed ws)))

pub returns-clause-vector : goal.returns-clause-vector
returns-clause-vector c =
    let front = c.args.front.now in
    subst (λ l. IsVectorOver front (ring_comparison front) l) (sym c.from_ordered.ensures) (from_ordered-requires c.before)

pub returns-clause-terms : goal.returns-clause-terms
returns-clause-terms c =
    let ring = c.args._ring.now in
    let front = c.args.front.now in
    let t = c.args.t.now in
    let one = c.in_ok-second.second in
    let m = c.minus_one.result in
    let is = subst (λ z. IsMonomial z (unit z) one.exponents) c.len.ensures c.in_ok-second.ensures.ok in
    let whole : c.in_ok-terms.terms.items ≡ (record { position = 0; monomial = t }, m) ∷ (record { position = 0; monomial = one }, 1) ∷ [] =
    c.in_ok-terms.ensures ∙ ap (λ x. (record { position = 0; monomial = x }, m) ∷ (record { position = 0; monomial = one }, 1) ∷ []) c.in_ok-first.ensures.ok in
    rest_is ring front t one m c.from_ordered.result c.requires.front (c.minus_one.ensures.value ∙ ap (λ r. r.modulus.value - 1) c.requires.front) is
    (c.from_ordered.ensures ∙ whole)
