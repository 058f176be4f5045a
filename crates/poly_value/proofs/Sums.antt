-- Parts from vectors
use Rattle.std.proofs.Common.{◌≡◌, ℕ, ◌*◌, ◌<◌, ◌++◌, List, [], ◌∷◌, sym, ap, ap₂, ◌∙◌, subst, arith, mod-lt}
use Rattle.std.specs.declared.cmp.Ordering.{Ordering}
use Rattle.monomials.specs.Exponents.{unit}
use Rattle.formal_sums.proofs.Sameness.{IsSame_append, IsSame_of, IsSame_scale, IsSame_sym, IsSame_trans}
use Rattle.formal_sums.proofs.WeightedSums.{Each_append}
use Rattle.formal_sums.specs.FormalSums.{Each, FormalSum, IsSame, Key as KeyOf, product, scale}
use Rattle.orders.specs.KeyOrders.{IsKeyOrder}
use Rattle.monomial_orders.specs.Kept.{IsWeighed}
use Rattle.monomial_orders.specs.Monomials.{IsMonomial, variable}
use Rattle.term_lists.proofs.Merges.{sum_of-append}
use Rattle.term_lists.proofs.Rescaling.{rescaled_sum}
use Rattle.term_lists.specs.Multiples.{rescaled}
use Rattle.term_lists.specs.Rings.{variables}
use Rattle.term_lists.specs.Vectors.{AreTermsOver, HasPositions, IsMonomialOver, IsTerm, IsVector, IsVectorOver, StandsFor, sum_of}
use Rattle.term_lists.specs.declared.key.Key.{Key}
use Rattle.term_lists.specs.declared.ring.Ring.{Ring}
use Rattle.sparse_poly.proofs.Powering.{IsSame_power, IsSame_product_both}
use Rattle.sparse_poly.proofs.Bounding.{HasDegreeWithin_same}
use Rattle.sparse_poly.proofs.Terms.{HasPositions_of, IsPolynomial_of, IsWithinDegree_of}
use Rattle.sparse_poly.specs.Degrees.{HasDegreeWithin, IsWithinDegree}
use Rattle.sparse_poly.specs.Powers.{polynomial_power}
use Rattle.poly_value.specs.Parts.{IsOperandPart, IsSum}
use Rattle.poly_value.specs.Values.{variable_sum}

terms_over :
    (n : ℕ) (ws : List ℕ) (p : ℕ) (terms : List (Key × ℕ)) → Each (IsTerm n ws p) terms
    → Each (λ t. IsWeighed n ws t.0.monomial × (t.1 < p)) terms
terms_over n ws p [] h = tt
terms_over n ws p (t ∷ terms) h = ((h.0.weighed, h.0.reduced), terms_over n ws p terms h.1)

-- a vector of rank 1 is such a sum
vector_sum : (ring : Ring) (compare : (n : ℕ) → KeyOf n → KeyOf n → Ordering) (v : List (Key × ℕ)) → IsVectorOver ring compare v → HasPositions 1 v → IsSum ring v
vector_sum ring compare v h positions = record { over = terms_over (variables ring) ring.weights ring.modulus.value v h.each; positions = positions }

pub vector_part : (ring : Ring) (compare : (n : ℕ) → KeyOf n → KeyOf n → Ordering) (v : List (Key × ℕ)) (x : FormalSum (variables ring)) → IsVectorOver ring compare v → HasPositions 1 v → StandsFor ring v x → IsOperandPart ring x v
vector_part ring compare v x h positions stands = record { sum = vector_sum ring compare v h positions; stands = stands }

pub normal_positions :
    {n r : ℕ} {compare : KeyOf n → KeyOf n → Ordering} (order : IsKeyOrder r compare) (ws : List ℕ) (p : ℕ) (terms v : List (Key × ℕ))
    → HasPositions 1 terms → IsVector n ws p compare v → IsSame p (sum_of n v) (sum_of n terms) → HasPositions 1 v
normal_positions {n = n} order ws p terms v positions h same = HasPositions_of order ws p v (sum_of n terms) h same (IsPolynomial_of n terms positions)

-- and it is within a degree of the sum
pub normal_within :
    {n r : ℕ} {compare : KeyOf n → KeyOf n → Ordering} (order : IsKeyOrder r compare) (ws : List ℕ) (p : ℕ) (terms v : List (Key × ℕ)) (d : ℕ)
    → IsVector n ws p compare v → IsSame p (sum_of n v) (sum_of n terms) → HasDegreeWithin ws p d (sum_of n terms) → IsWithinDegree d v
normal_within order ws p terms v d h same g = IsWithinDegree_of order ws p v d h (HasDegreeWithin_same (IsSame_sym same) g)

positive : (p : ℕ) → 1 < p → 0 < p
positive p h = omega arith

-- products of what vectors stand for
pub product_stands :
    (ring : Ring) (a b left right out : List (Key × ℕ)) (v w : FormalSum (variables ring))
    → 1 < ring.modulus.value → StandsFor ring left v → StandsFor ring right w
    → StandsFor ring a (sum_of (variables ring) left) → StandsFor ring b (sum_of (variables ring) right)
    → StandsFor ring out (product (sum_of (variables ring) a) (sum_of (variables ring) b))
    → StandsFor ring out (product v w)
product_stands ring a b left right out v w pos hv hw ha hb h =
    IsSame_trans h (IsSame_product_both (positive ring.modulus.value pos) (sum_of (variables ring) a) (sum_of (variables ring) b) v w (IsSame_trans ha hv) (IsSame_trans hb hw))

-- powers of what a vector stands for
pub power_stands :
    (ring : Ring) (a base out : List (Key × ℕ)) (v : FormalSum (variables ring)) (k : ℕ)
    → 1 < ring.modulus.value → StandsFor ring base v → StandsFor ring a (sum_of (variables ring) base)
    → StandsFor ring out (polynomial_power (sum_of (variables ring) a) k) → StandsFor ring out (polynomial_power v k)
power_stands ring a base out v k pos hv ha h = IsSame_trans h (IsSame_power (positive ring.modulus.value pos) (sum_of (variables ring) a) v k (IsSame_trans ha hv))

-- two sums, one behind the other
pub joined_part :
    (ring : Ring) (v w : FormalSum (variables ring)) (left right : List (Key × ℕ))
    → IsOperandPart ring v left → IsOperandPart ring w right → IsOperandPart ring (v ++ w) (left ++ right)
joined_part ring v w left right hl hr = record {
  sum = record {
    over = Each_append _ left right hl.sum.over hr.sum.over;
    positions = Each_append _ left right hl.sum.positions hr.sum.positions;
  };
  stands = IsSame_trans (IsSame_of ring.modulus.value _ _ (sum_of-append (variables ring) left right)) (IsSame_append hl.stands hr.stands);
}

rescaled_over :
    (n : ℕ) (ws : List ℕ) (p c : ℕ) (terms : List (Key × ℕ)) → 0 < p → Each (λ t. IsWeighed n ws t.0.monomial × (t.1 < p)) terms
    → Each (λ t. IsWeighed n ws t.0.monomial × (t.1 < p)) (rescaled p c terms)
rescaled_over n ws p c [] pos h = tt
rescaled_over n ws p c (t ∷ terms) pos h = ((h.0.0, mod-lt (c * t.1) pos), rescaled_over n ws p c terms pos h.1)

rescaled_positions : (p c : ℕ) (terms : List (Key × ℕ)) → HasPositions 1 terms → HasPositions 1 (rescaled p c terms)
rescaled_positions p c [] h = tt
rescaled_positions p c (t ∷ terms) h = (h.0, rescaled_positions p c terms h.1)

-- a multiple by a residue
pub rescaled_part :
    (ring : Ring) (c : ℕ) (v : FormalSum (variables ring)) (terms : List (Key × ℕ))
    → 1 < ring.modulus.value → IsOperandPart ring v terms → IsOperandPart ring (scale c (unit (variables ring)) v) (rescaled ring.modulus.value c terms)
rescaled_part ring c v terms pos h = record {
  sum = record {
    over = rescaled_over (variables ring) ring.weights ring.modulus.value c terms (positive ring.modulus.value pos) h.sum.over;
    positions = rescaled_positions ring.modulus.value c terms h.sum.positions;
  };
  stands = IsSame_trans (rescaled_sum (variables ring) ring.modulus.value c terms) (IsSame_scale (positive ring.modulus.value pos) c (unit (variables ring)) h.stands);
}

-- the term of a variable
pub variable_term :
    (ring : Ring) (i : ℕ) (key : Key) (terms : List (Key × ℕ))
    → 1 < ring.modulus.value → terms ≡ (key, 1) ∷ [] → key.position ≡ 0 → IsMonomialOver ring key.monomial
    → IsMonomial (variables ring) (variable (variables ring) i) key.monomial.exponents
    → IsOperandPart ring (variable_sum (variables ring) i) terms
variable_term ring i key terms pos e z w m = record {
  sum = record {
    over = subst (AreTermsOver ring) (sym e) ((w, pos), tt);
    positions = subst (HasPositions 1) (sym e) ((let lt : key.position < 1 = omega arith in lt), tt);
  };
  stands = IsSame_of ring.modulus.value (sum_of (variables ring) terms) (variable_sum (variables ring) i) (ap (sum_of (variables ring)) e ∙ ap₂ (λ j x. ((j, x), 1) ∷ []) z m.exponents);
}
