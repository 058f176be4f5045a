-- Vectors of a ring, and their ranks
use Rattle.std.proofs.Common.{List, [], get_or, suc, zero, ℕ, ◌++◌, ◌∷◌}
use Rattle.formal_sums.proofs.OfRank.{IsOfRank_append, IsOfRank_of, IsOfRank_same, IsOfRank_scale, IsOfRank_zero}
use Rattle.formal_sums.proofs.Sameness.{IsSame_sym}
use Rattle.formal_sums.specs.Combinations.{combination}
use Rattle.formal_sums.specs.FormalSums.{Each, FormalSum, HasRank, IsOfRank, scale}
use Rattle.bases.specs.Settings.{IsLawful}
use Rattle.monomial_orders.specs.Laws.{key_comparison_order}
use Rattle.zp_field.proofs.TableFields.{is_modulus-domain}
use Rattle.term_lists.proofs.NormalVectors.{vector_positions}
use Rattle.term_lists.specs.Rings.{ring_comparison, setting, variables}
use Rattle.term_lists.specs.Vectors.{AreVectorsOver, HasPositions, StandsFor, sum_of, sums_of}
use Rattle.term_lists.specs.declared.key.Key.{Key as CodeKey}
use Rattle.term_lists.specs.declared.ring.Ring.{Ring}
use Rattle.member_products.specs.Generators.{IsRanked, IsVectorOf}

-- the ring's order and modulus are lawful
pub ring_lawful : (ring : Ring) (rank : ℕ) → IsLawful (setting ring (variables ring) (ring_comparison ring (variables ring)) rank)
ring_lawful ring rank = record {
  domain = is_modulus-domain ring.modulus.value ring.modulus.table;
  order = key_comparison_order ring.module_order ring.order ring.weights (variables ring) rank;
}

pub rank_of_positions : (n m : ℕ) (v : List (CodeKey × ℕ)) → HasPositions m v → HasRank m (sum_of n v)
rank_of_positions n m [] h = tt
rank_of_positions n m (t ∷ v) h = (h.0, rank_of_positions n m v h.1)

-- a combination of vectors of a rank has that rank
pub combination_rank :
    {n : ℕ} (p m : ℕ) (F : List (FormalSum n))
    → ((i : ℕ) → IsOfRank p m (get_or F i [])) → (b : FormalSum n) → IsOfRank p m (combination F b)
combination_rank p m F h [] = IsOfRank_zero p m
combination_rank p m F h (t ∷ b) =
    IsOfRank_append (scale t.1 t.0.1 (get_or F t.0.0 [])) (combination F b) (IsOfRank_scale t.1 t.0.1 (get_or F t.0.0 []) (h t.0.0)) (combination_rank p m F h b)

module _ (ring : Ring) (m : ℕ) where
  pub of_rank : (v : List (CodeKey × ℕ)) → HasPositions m v → IsOfRank ring.modulus.value m (sum_of (variables ring) v)
  of_rank v h = IsOfRank_of ring.modulus.value m _ (rank_of_positions (variables ring) m v h)

  -- a vector that stands for one of this rank
  pub ranked_by : (v : List (CodeKey × ℕ)) (w : FormalSum (variables ring)) → IsVectorOf ring v → StandsFor ring v w → IsOfRank ring.modulus.value m w → IsRanked ring m v
  ranked_by v w iv sv r = record { vector = iv; positions = vector_positions ring (ring_comparison ring) 0 m v w (ring_lawful ring 0) iv sv r }

  pub ranked_vectors : (vs : List (List (CodeKey × ℕ))) → Each (λ v. IsRanked ring m v) vs → AreVectorsOver ring (ring_comparison ring) vs
  ranked_vectors [] h = tt
  ranked_vectors (v ∷ vs) h = (h.0.vector, ranked_vectors vs h.1)

  sums_rank : (vs : List (List (CodeKey × ℕ))) → Each (λ v. IsRanked ring m v) vs → (i : ℕ) → IsOfRank ring.modulus.value m (get_or (sums_of (variables ring) vs) i [])
  sums_rank [] h i = IsOfRank_zero ring.modulus.value m
  sums_rank (v ∷ vs) h zero = of_rank v h.0.positions
  sums_rank (v ∷ vs) h (suc i) = sums_rank vs h.1 i

  -- and so has a combination of listed vectors
  pub ranked_combination :
      (vs : List (List (CodeKey × ℕ))) → Each (λ v. IsRanked ring m v) vs
      → (a : FormalSum (variables ring)) → IsOfRank ring.modulus.value m (combination (sums_of (variables ring) vs) a)
  ranked_combination vs h a = combination_rank ring.modulus.value m _ (sums_rank vs h) a

  -- the sum of a vector and of what stands for a combination
  pub ranked_sum :
      (vs : List (List (CodeKey × ℕ))) (multiple products cof : List (CodeKey × ℕ)) (a : FormalSum (variables ring))
      → Each (λ v. IsRanked ring m v) vs → HasPositions m multiple → IsVectorOf ring cof
      → StandsFor ring products (combination (sums_of (variables ring) vs) a)
      → StandsFor ring cof (sum_of (variables ring) multiple ++ sum_of (variables ring) products)
      → IsRanked ring m cof
  ranked_sum vs multiple products cof a h p iv made sum =
      ranked_by cof _ iv sum (IsOfRank_append (sum_of (variables ring) multiple) _ (of_rank multiple p) (IsOfRank_same (IsSame_sym made) (ranked_combination vs h a)))
