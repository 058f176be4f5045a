-- What the product's coefficients say of its terms
use Rattle.std.proofs.Common.{List, Ordering, ap, arith, refl, ℕ, ◌+◌, ◌<◌, ◌≡◌, ◌≤◌}
use Rattle.formal_sums.proofs.Multiplying.{product_comm}
use Rattle.formal_sums.proofs.Sameness.{IsSame_sym, IsSame_trans}
use Rattle.formal_sums.specs.FormalSums.{IsSame, Key, product}
use Rattle.orders.specs.KeyOrders.{IsKeyOrder}
use Rattle.term_lists.specs.Vectors.{HasPositions, IsVector, sum_of}
use Rattle.term_lists.specs.declared.key.Key.{Key as CodeKey}
use Rattle.term_lists.specs.declared.stop.VectStop.{VectStop}
use Rattle.term_lists.specs.declared.stop.VectStop.TheVariants.{Degree, Memory}
use Rattle.sparse_poly.proofs.Bounding.{HasDegreeWithin_product, HasDegreeWithin_same}
use Rattle.sparse_poly.proofs.Powering.{IsPolynomial_product}
use Rattle.sparse_poly.proofs.Terms.{HasDegreeWithin_of, HasPositions_of, IsPolynomial_of, IsWithinDegree_of, each_at, each_weighed}
use Rattle.sparse_poly.specs.Degrees.{IsWithinDegree}
use Rattle.sparse_poly.specs.Stops.{PolynomialProductStops}

module _ {n r : ℕ} {compare : Key n → Key n → Ordering} (order : IsKeyOrder r compare) (ws : List ℕ) (p : ℕ) (a b : List (CodeKey × ℕ)) where
  -- its terms are at position 0
  pub product_positions :
      HasPositions 1 b
      → (v : List (CodeKey × ℕ)) → IsVector n ws p compare v → IsSame p (sum_of n v) (product (sum_of n a) (sum_of n b))
      → HasPositions 1 v
  product_positions hb v vector same =
      HasPositions_of order ws p v (product (sum_of n a) (sum_of n b)) vector same (IsPolynomial_product (sum_of n a) (sum_of n b) (IsPolynomial_of n b hb))

  -- its degree is at most the sum of the degrees
  pub product_within :
      IsVector n ws p compare a → IsVector n ws p compare b → (d e : ℕ) → IsWithinDegree d a → IsWithinDegree e b
      → (v : List (CodeKey × ℕ)) → IsVector n ws p compare v → IsSame p (sum_of n v) (product (sum_of n a) (sum_of n b))
      → IsWithinDegree (d + e) v
  product_within va vb d e ha hb v vector same =
      IsWithinDegree_of order ws p v (d + e) vector
      (HasDegreeWithin_same (IsSame_sym same) (HasDegreeWithin_product (sum_of n a) (sum_of n b) (HasDegreeWithin_of ws p a (each_weighed n ws p a va.each) ha) (HasDegreeWithin_of ws p b (each_weighed n ws p b vb.each) hb)))

  -- the factors may be exchanged
  pub product_exchanged :
      HasPositions 1 a → HasPositions 1 b
      → (v : List (CodeKey × ℕ)) → IsSame p (sum_of n v) (product (sum_of n b) (sum_of n a))
      → IsSame p (sum_of n v) (product (sum_of n a) (sum_of n b))
  product_exchanged ha hb v same =
      IsSame_trans same (product_comm p (sum_of n b) (sum_of n a) (IsPolynomial_of n b hb) (IsPolynomial_of n a ha))

-- within small degrees a product stops for want of memory alone
pub PolynomialProductStops_memory :
    (a b : List (CodeKey × ℕ)) (d e : ℕ) → IsWithinDegree d a → IsWithinDegree e b → d + e ≤ 65535
    → (stop : VectStop) → PolynomialProductStops a b stop → stop ≡ Memory
PolynomialProductStops_memory a b d e ha hb small Memory h = refl
PolynomialProductStops_memory a b d e ha hb small (Degree s t) h =
    let left : h.0.0.0.monomial.degree ≤ d = each_at (λ u. u.0.monomial.degree ≤ d) a h.0.0 ha h.0.1 in
    let right : h.1.0.0.monomial.degree ≤ e = each_at (λ u. u.0.monomial.degree ≤ e) b h.1.0 hb h.1.1 in
    let ls : h.0.0.0.monomial.degree ≡ s.degree = ap (λ m. m.degree) h.0.2 in
    let rs : h.1.0.0.monomial.degree ≡ t.degree = ap (λ m. m.degree) h.1.2 in
    let great : 65535 < s.degree + t.degree = h.2 in
    absurd (omega arith)
