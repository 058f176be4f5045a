-- Powers: they respect sameness, and exponents add up
use Rattle.std.proofs.Common.{[], ap, append-nil, arith, refl, subst, suc, sym, zero, zero-add, ℕ, ◌+◌, ◌<◌, ◌∙◌, ◌∷◌, ◌≡◌}
use Rattle.monomials.specs.Exponents.{unit}
use Rattle.formal_sums.proofs.Combining.{scale-one}
use Rattle.formal_sums.proofs.Linear.{linear_append, linear_product, linear_scale}
use Rattle.formal_sums.proofs.Multiplying.{IsSame_product}
use Rattle.formal_sums.proofs.Sameness.{IsSame_append, IsSame_of, IsSame_refl, IsSame_scale, IsSame_sym, IsSame_trans}
use Rattle.formal_sums.proofs.WeightedSums.{Each_append}
use Rattle.formal_sums.specs.FormalSums.{FormalSum, IsPolynomial, IsSame, product, scale}
use Rattle.sparse_poly.specs.Powers.{constant, polynomial_power}

-- the product depends on the second factor's coefficients alone
pub IsSame_product_second :
    {n p : ℕ} → 0 < p → (u v w : FormalSum n) → IsSame p v w → IsSame p (product u v) (product u w)
IsSame_product_second {n} {p} pos [] v w h = IsSame_refl p []
IsSame_product_second pos (t ∷ u) v w h = IsSame_append (IsSame_scale pos t.1 t.0.1 h) (IsSame_product_second pos u v w h)

-- the product depends on the factors' coefficients alone
pub IsSame_product_both :
    {n p : ℕ} → 0 < p → (u v w x : FormalSum n) → IsSame p u w → IsSame p v x
    → IsSame p (product u v) (product w x)
IsSame_product_both pos u v w x h k = IsSame_trans (IsSame_product pos u w v h) (IsSame_product_second pos w v x k)

-- products associate
pub product_assoc :
    {n : ℕ} (p : ℕ) (u v w : FormalSum n) → IsSame p (product (product u v) w) (product u (product v w))
product_assoc p [] v w = IsSame_refl p []
product_assoc p (t ∷ u) v w =
    IsSame_trans (linear_append (linear_product w) (scale t.1 t.0.1 v) (product u v))
    (IsSame_append (linear_scale (linear_product w) t.1 t.0.1 v) (product_assoc p u v w))

-- 1 v is v
pub product_one : {n : ℕ} (v : FormalSum n) → product (constant n 1) v ≡ v
product_one v = append-nil (scale 1 (unit _) v) ∙ scale-one v

-- powers of the same are the same
pub IsSame_power :
    {n p : ℕ} → 0 < p → (v w : FormalSum n) (k : ℕ) → IsSame p v w → IsSame p (polynomial_power v k) (polynomial_power w k)
IsSame_power {n} {p} pos v w zero h = IsSame_refl p (constant n 1)
IsSame_power pos v w (suc k) h = IsSame_product_both pos v (polynomial_power v k) w (polynomial_power w k) h (IsSame_power pos v w k h)

-- exponents add up
pub power_add :
    {n p : ℕ} → 0 < p → (v : FormalSum n) (i j k : ℕ) → i + j ≡ k
    → IsSame p (polynomial_power v k) (product (polynomial_power v i) (polynomial_power v j))
power_add {n} {p} pos v zero j k e =
    IsSame_of p (polynomial_power v k) (product (constant n 1) (polynomial_power v j)) (ap (polynomial_power v) (sym e ∙ zero-add j) ∙ sym (product_one (polynomial_power v j)))
power_add {n} {p} pos v (suc i) j k e =
    let d : suc (i + j) ≡ k = omega arith in
    subst (λ l. IsSame p (polynomial_power v l) (product (product v (polynomial_power v i)) (polynomial_power v j))) d
    (IsSame_trans (IsSame_product_second pos v (polynomial_power v (i + j)) (product (polynomial_power v i) (polynomial_power v j)) (power_add pos v i j (i + j) refl))
    (IsSame_sym (product_assoc p v (polynomial_power v i) (polynomial_power v j))))

-- products have the second factor's positions
pub IsPolynomial_product : {n : ℕ} (u v : FormalSum n) → IsPolynomial v → IsPolynomial (product u v)
IsPolynomial_product [] v h = tt
IsPolynomial_product (t ∷ u) v h = Each_append _ (scale t.1 t.0.1 v) (product u v) (scaled v h) (IsPolynomial_product u v h)
  where
    scaled : (v : FormalSum _) → IsPolynomial v → IsPolynomial (scale t.1 t.0.1 v)
    scaled [] h = tt
    scaled (s ∷ v) h = (h.0, scaled v h.1)

-- powers are polynomials
pub IsPolynomial_power : {n : ℕ} (v : FormalSum n) (k : ℕ) → IsPolynomial (polynomial_power v k)
IsPolynomial_power v zero = (refl, tt)
IsPolynomial_power v (suc k) = IsPolynomial_product v (polynomial_power v k) (IsPolynomial_power v k)
