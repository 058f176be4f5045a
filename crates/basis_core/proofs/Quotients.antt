-- The quotients of a division as terms, and single terms
use Rattle.std.proofs.Common.{List, [], ap, get_or, length, map, refl, subst, sym, take, ℕ, ◌++◌, ◌+◌, ◌<◌, ◌∙◌, ◌∷◌, ◌≡◌}
use Rattle.std.proofs.lemmas.List.{map-append}
use Rattle.monomials.specs.Exponents.{Exponents, exponents_of, unit}
use Rattle.monomial_orders.specs.Kept.{Monomial}
use Rattle.monomial_orders.specs.Monomials.{IsMonomial}
use Rattle.formal_sums.specs.FormalSums.{Each, FormalSum, IsSame}
use Rattle.term_lists.proofs.Scaling.{take_item}
use Rattle.term_lists.specs.Vectors.{AreTermsOver, IsMonomialOver, sum_of}
use Rattle.term_lists.specs.declared.key.Key.{Key as CodeKey}
use Rattle.term_lists.specs.declared.ring.Ring.{Ring}
use Rattle.vector_division.specs.Reductions.{cofactors_of, term_of}
use Rattle.vector_division.specs.declared.reduction.ScaledProduct.{ScaledProduct}

pub terms_sum : (n : ℕ) (qs : List ScaledProduct) → sum_of n (map term_of qs) ≡ cofactors_of n qs
terms_sum n [] = refl
terms_sum n (q ∷ qs) = ap (λ l. ((q.index, exponents_of n q.monomial.exponents), q.residue) ∷ l) (terms_sum n qs)

pub terms_over :
    (ring : Ring) (qs : List ScaledProduct) → Each (λ q. IsMonomialOver ring q.monomial × (q.residue < ring.modulus.value)) qs → AreTermsOver ring (map term_of qs)
terms_over ring [] h = tt
terms_over ring (q ∷ qs) h = (h.0, terms_over ring qs h.1)

-- one quotient more
pub terms_more :
    (qs : List ScaledProduct) (i : ℕ) (q : ScaledProduct) (monomial : Monomial) (terms more : List (CodeKey × ℕ))
    → i < length qs → q ≡ get_or qs i q → monomial ≡ q.monomial → terms ≡ map term_of (take i qs)
    → more ≡ terms ++ ((record { position = q.index; monomial = monomial }, q.residue) ∷ [])
    → more ≡ map term_of (take (i + 1) qs)
terms_more qs i q monomial terms more lt is em es e =
    e ∙ (λ j. es j ++ ((record { position = q.index; monomial = em j }, q.residue) ∷ []))
    ∙ sym (ap (map term_of) (take_item qs i q lt is) ∙ map-append term_of (take i qs) (q ∷ []))

-- one term, with the monomial 1
pub unit_sum :
    (p n k i : ℕ) (m : Monomial) (v : FormalSum n)
    → k ≡ n → IsMonomial k (unit k) m.exponents
    → IsSame p v (sum_of n ((record { position = i; monomial = m }, 1) ∷ []))
    → IsSame p v (((i, unit n), 1) ∷ [])
unit_sum p n k i m v e h =
    let g : IsMonomial n (unit n) m.exponents = subst (λ z. IsMonomial z (unit z) m.exponents) e h in
    subst (λ (z : Exponents n). IsSame p v (((i, z), 1) ∷ [])) g.exponents
