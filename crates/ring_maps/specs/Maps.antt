-- Preimages and expressions under the map of a ring to itself that sends the variables to these images (IVA chapter 7, section 3)
use Rattle.std.specs.Prelude.{List, None, Option, Some, [], ℕ, ◌↔◌}
use Rattle.formal_sums.specs.Combinations.{IsMember}
use Rattle.formal_sums.specs.FormalSums.{FormalSum, IsOfRank, IsSame}
use Rattle.bases.specs.Bases.{HasFreeTerms, IsReducedBasis}
use Rattle.bases.specs.Settings.{Setting}
use Rattle.map_laws.specs.Substitution.{substituted}
use Rattle.monomial_orders.specs.declared.order.Order.TheVariants.{Grevlex}
use Rattle.monomial_orders.specs.declared.order.ModOrder.TheVariants.{Top}
use Rattle.term_lists.specs.Rings.{ring_comparison, setting, variables}
use Rattle.term_lists.specs.Vectors.{HasPositions, IsVectorOver, sum_of, sums_of}
use Rattle.term_lists.specs.declared.key.Key.{Key as CodeKey}
use Rattle.term_lists.specs.declared.ring.Ring.{Ring}

-- the image of v, each variable replaced by its polynomial
abbrev pub image : (ring : Ring) → List (List (CodeKey × ℕ)) → FormalSum (variables ring) → FormalSum (variables ring)
image ring images v = substituted (sums_of (variables ring) images) v

-- v is a polynomial whose image is in the ideal of the list
abbrev pub IsInPreimage : (ring : Ring) → (images list : List (List (CodeKey × ℕ))) → FormalSum (variables ring) → Type 0
IsInPreimage ring images list v =
    IsOfRank ring.modulus.value 1 v × IsMember ring.modulus.value (sums_of (variables ring) list) (image ring images v)

-- the ring in graded reverse lexicographic order, with its weights
abbrev pub grevlex_ring : Ring → Ring
grevlex_ring ring = record {
  modulus = ring.modulus;
  vars = ring.vars;
  order = Grevlex;
  module_order = Top;
  weights = ring.weights;
  weighted = ring.weighted;
}

-- v is a polynomial with this image
abbrev pub HasImage : (ring : Ring) → List (List (CodeKey × ℕ)) → (g : List (CodeKey × ℕ)) → FormalSum (variables ring) → Type 0
HasImage ring images g v =
    IsOfRank ring.modulus.value 1 v × IsSame ring.modulus.value (image ring images v) (sum_of (variables ring) g)

-- the setting of polynomials in that order
abbrev pub grevlex_setting : (ring : Ring) → Setting (variables ring)
grevlex_setting ring = setting (grevlex_ring ring) (variables ring) (ring_comparison (grevlex_ring ring) (variables ring)) 1

-- p is the polynomial with the image g of which no term is divisible by a lead of the reduced basis of the kernel, graded reverse
-- lexicographic by the ring's weights
pub record IsExpression (ring : Ring) (images : List (List (CodeKey × ℕ))) (g p : List (CodeKey × ℕ)) : Type 0 where
  pub vector : IsVectorOver ring (ring_comparison ring) p
  pub positions : HasPositions 1 p
  pub image_is : HasImage ring images g (sum_of (variables ring) p)
  pub kernel : List (FormalSum (variables ring))
  pub basis : IsReducedBasis (grevlex_setting ring) kernel kernel
  pub members : (v : FormalSum (variables ring)) → IsMember ring.modulus.value kernel v ↔ HasImage ring images [] v
  pub free : HasFreeTerms (grevlex_setting ring) kernel (sum_of (variables ring) p)

-- it is answered, or there is no polynomial with this image
abbrev pub IsExpressionAnswer : (ring : Ring) → List (List (CodeKey × ℕ)) → (g : List (CodeKey × ℕ)) → Option (List (CodeKey × ℕ)) → Type 0
IsExpressionAnswer ring images g (Some p) = IsExpression ring images g p
IsExpressionAnswer ring images g None = (v : FormalSum (variables ring)) → HasImage ring images g v → ⊥
