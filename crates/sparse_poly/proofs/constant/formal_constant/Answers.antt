use Rattle.std.proofs.Common.{List, ap, ap₂, refl, subst, sym, ◌%◌, ◌∙◌, ℕ, ◌≡◌, ◌<◌, [], ◌∷◌, ◌++◌, length}
use Rattle.formal_sums.proofs.Sameness.{IsSame_sym, IsSame_trans}
use Rattle.formal_sums.specs.FormalSums.{IsSame}
use Rattle.monomials.specs.Exponents.{unit}
use Rattle.monomial_orders.specs.Kept.{IsWeighed}
use Rattle.monomial_orders.specs.Monomials.{IsMonomial}
use Rattle.term_lists.specs.Rings.{variables}
use Rattle.term_lists.specs.Vectors.{AreTermsOver, sum_of}
use Rattle.term_lists.specs.declared.key.Key.{Key as CodeKey}
use Rattle.sparse_poly.proofs.Bounding.{HasDegreeWithin_constant, HasDegreeWithin_same}
use Rattle.sparse_poly.proofs.PowerSteps.{constant_residue}
use Rattle.sparse_poly.proofs.Terms.{HasPositions_of, IsWithinDegree_of}
use Rattle.sparse_poly.specs.Powers.{constant}
use Rattle.sparse_poly.proofs.constant.formal_constant.Goals as goal

one_term :
    (n p c r : ℕ) (v terms : List (CodeKey × ℕ)) (k : CodeKey) → terms ≡ (k, r) ∷ [] → k.position ≡ 0
    → IsMonomial n (unit n) k.monomial.exponents → r ≡ c % p → IsSame p (sum_of n v) (sum_of n terms)
    → IsSame p (sum_of n v) (constant n c)
one_term n p c r v terms k e z m q h =
    let d : sum_of n terms ≡ constant n r = ap (sum_of n) e ∙ ap₂ (λ i x. ((i, x), r) ∷ []) z m.exponents in
    IsSame_trans (subst (λ w. IsSame p (sum_of n v) w) d h) (constant_residue n p c r q)

pub from_terms-requires : goal.from_terms-requires
from_terms-requires g c =
    let ring = g.F.Frame.over c.args.frame.now in
    let m = c.in_ok-monomial.monomial in
    let key : CodeKey = record { position = 0; monomial = m } in
    let residue = c.from_u128-residue.result in
    let variables_are : c.len.result ≡ variables ring = c.len.ensures ∙ ap (λ r. length r.vars) c.ring-ring.ensures in
    let items : c.push.new.self.items ≡ (key, residue) ∷ [] = c.in_ok-push.ensures.items ∙ ap (λ xs. xs ++ (key, residue) ∷ []) c.in_ok-terms.ensures.items in
    let small : residue < ring.modulus.value = subst (λ r. residue < r.modulus.value) c.ring-ring.ensures c.from_u128-residue.ensures.small in
    subst (AreTermsOver ring) (sym items)
    ((subst (λ k. IsWeighed k ring.weights m) variables_are (c.in_ok-monomial.ensures.weighed ring.weights), small), tt)

pub returns-clause-constant : goal.returns-clause-constant
returns-clause-constant g c =
    let ring = g.F.Frame.over c.args.frame.now in
    let key : CodeKey = record { position = 0; monomial = c.in_ok-monomial.monomial } in
    let variables_are : c.len.result ≡ variables ring = c.len.ensures ∙ ap (λ r. length r.vars) c.ring-ring.ensures in
    one_term (variables ring) ring.modulus.value c.args.n c.from_u128-residue.result c.in_ok-from_terms.field-0 c.push.new.self.items key
    (c.in_ok-push.ensures.items ∙ ap (λ xs. xs ++ (key, c.from_u128-residue.result) ∷ []) c.in_ok-terms.ensures.items) refl
    (subst (λ k. IsMonomial k (unit k) c.in_ok-monomial.monomial.exponents) variables_are c.in_ok-monomial.ensures.ok)
    (c.from_u128-residue.ensures.value ∙ ap (λ r. c.args.n % r.modulus.value) c.ring-ring.ensures)
    c.in_ok-from_terms.ensures.same

pub returns-clause-polynomial : goal.returns-clause-polynomial
returns-clause-polynomial g c =
    let ring = g.F.Frame.over c.args.frame.now in
    HasPositions_of (g.met.F.Frame.laws c.args.frame.now (variables ring) 1) ring.weights ring.modulus.value c.in_ok-from_terms.field-0 (constant (variables ring) c.args.n)
    c.in_ok-from_terms.ensures.vector (returns-clause-constant g c) (refl, tt)

pub returns-clause-within : goal.returns-clause-within
returns-clause-within g c =
    let ring = g.F.Frame.over c.args.frame.now in
    IsWithinDegree_of (g.met.F.Frame.laws c.args.frame.now (variables ring) 1) ring.weights ring.modulus.value c.in_ok-from_terms.field-0 0
    c.in_ok-from_terms.ensures.vector (HasDegreeWithin_same (IsSame_sym (returns-clause-constant g c)) (HasDegreeWithin_constant (variables ring) ring.weights ring.modulus.value c.args.n))
