-- Bounds on the degrees of products and powers, and the leads by degree
use Rattle.std.proofs.Common.{List, ap, arith, inl, inr, subst, suc, zero, ℕ, ◌*◌, ◌+◌, ◌<◌, ◌∙◌, ◌≡◌, ◌≤◌, ◌⊎◌}
use Rattle.std.proofs.lemmas.Bool.{cases_lt}
use Rattle.residues.proofs.Congruences.{IsCongruent_of, IsCongruent_sym, IsCongruent_trans}
use Rattle.residues.specs.Residues.{IsCongruent}
use Rattle.monomials.proofs.Weighing.{weighted_degree-times, weighted_degree-unit}
use Rattle.monomials.specs.Exponents.{unit}
use Rattle.monomials.specs.Weights.{weighted_degree}
use Rattle.formal_sums.proofs.Multiplying.{weighted_sum-product}
use Rattle.formal_sums.proofs.WeightedSums.{indicator_other, weighted_sum_zero, weighted_sum_zero_mod}
use Rattle.formal_sums.specs.FormalSums.{FormalSum, IsSame, Key, coefficient, indicator, product, shift, weighted_sum}
use Rattle.sparse_poly.specs.Degrees.{HasDegreeWithin}
use Rattle.sparse_poly.specs.Powers.{constant, polynomial_power}

-- the bound holds of the same vector
pub HasDegreeWithin_same :
    {n p d : ℕ} {ws : List ℕ} {v w : FormalSum n} → IsSame p v w → HasDegreeWithin ws p d v → HasDegreeWithin ws p d w
HasDegreeWithin_same e h = record { above = λ k lt. IsCongruent_trans (IsCongruent_sym (e.by_key k)) (h.above k lt) }

-- the weight of u v at x, as a weighted sum over u
abbrev pub product_weight : {n : ℕ} → FormalSum n → Key n → Key n → ℕ
product_weight v x y = weighted_sum (λ l. indicator x (shift y.1 l)) v

-- the degree of a product is at most the sum of the degrees
pub HasDegreeWithin_product :
    {n p d e : ℕ} {ws : List ℕ} (u v : FormalSum n) → HasDegreeWithin ws p d u → HasDegreeWithin ws p e v
    → HasDegreeWithin ws p (d + e) (product u v)
HasDegreeWithin_product {n} {p} {d} {e} {ws} u v h g = record {
  above = λ x lt. IsCongruent_trans (IsCongruent_of p _ _ (weighted_sum-product (indicator x) u v)) (weighted_sum_zero_mod (product_weight v x) u (λ y. outer x lt y (cases_lt d (weighted_degree ws y.1))));
}
  where
    inner :
        (x : Key n)
        → d + e < weighted_degree ws x.1 → (y : Key n) → weighted_degree ws y.1 ≤ d → (l : Key n) → (e < weighted_degree ws l.1) ⊎ (weighted_degree ws l.1 ≤ e)
        → (indicator x (shift y.1 l) ≡ 0) ⊎ IsCongruent p (coefficient v l) 0
    inner x lt y le l (inl high) = inr (g.above l high)
    inner x lt y le l (inr low) =
        inl (indicator_other x (shift y.1 l) (λ q. (let same : weighted_degree ws x.1 ≡ weighted_degree ws y.1 + weighted_degree ws l.1 = ap (λ k. weighted_degree ws k.1) q ∙ weighted_degree-times ws y.1 l.1 in omega arith)))

    outer :
        (x : Key n)
        → d + e < weighted_degree ws x.1 → (y : Key n) → (d < weighted_degree ws y.1) ⊎ (weighted_degree ws y.1 ≤ d)
        → IsCongruent p (product_weight v x y) 0 ⊎ IsCongruent p (coefficient u y) 0
    outer x lt y (inl high) = inr (h.above y high)
    outer x lt y (inr low) = inl (weighted_sum_zero _ v (λ l. inner x lt y low l (cases_lt e (weighted_degree ws l.1))))

-- constants have degree 0
pub HasDegreeWithin_constant : (n : ℕ) (ws : List ℕ) (p c : ℕ) → HasDegreeWithin ws p 0 (constant n c)
HasDegreeWithin_constant n ws p c = record {
  above = λ k lt.
      let z : indicator k (0, unit n) ≡ 0 = indicator_other k (0, unit n) (λ q. (let d : weighted_degree ws k.1 ≡ 0 = ap (λ l. weighted_degree ws l.1) q ∙ weighted_degree-unit n ws in omega arith)) in
      IsCongruent_of p _ 0 (rw z (omega arith));
}

-- the degree of a power is at most its exponent times the degree
pub HasDegreeWithin_power :
    {n p d : ℕ} {ws : List ℕ} (v : FormalSum n) (k : ℕ) → HasDegreeWithin ws p d v → HasDegreeWithin ws p (k * d) (polynomial_power v k)
HasDegreeWithin_power {n} {p} {d} {ws} v zero h = let z : 0 ≡ 0 * d = omega arith in subst (λ e. HasDegreeWithin ws p e (constant n 1)) z (HasDegreeWithin_constant n ws p 1)
HasDegreeWithin_power {n} {p} {d} {ws} v (suc k) h =
    let e : d + k * d ≡ suc k * d = omega arith in
    subst (λ e. HasDegreeWithin ws p e (product v (polynomial_power v k))) e (HasDegreeWithin_product v (polynomial_power v k) h (HasDegreeWithin_power v k h))
