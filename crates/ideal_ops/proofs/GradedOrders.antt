-- Where the ring's own order compares what an order that eliminates leaves, this is the reduced basis as it is
use Rattle.std.proofs.Common.{List, inl, inr, refl, subst, sym, ℕ, ◌∙◌, ◌≡◌, ◌⊎◌}
use Rattle.formal_sums.specs.FormalSums.{Each, FormalSum, HasRank}
use Rattle.orders.proofs.Weighted.{weighted_grevlex_order}
use Rattle.orders.specs.KeyOrders.{top}
use Rattle.orders.specs.WeightedOrders.{weighted_grevlex}
use Rattle.bases.specs.Bases.{IsReducedBasis}
use Rattle.bases.specs.Settings.{IsLawful, Setting}
use Rattle.operation_laws.proofs.Graded.{eliminated_graded}
use Rattle.operation_laws.proofs.OnePosition.{position_again}
use Rattle.operation_laws.specs.Operations.{eliminated}
use Rattle.monomial_orders.specs.Comparisons.{key_comparison}
use Rattle.monomial_orders.specs.Laws.{key_comparison_order}
use Rattle.monomial_orders.specs.declared.order.Order.TheVariants.{Grevlex}
use Rattle.monomial_orders.specs.declared.order.ModOrder.{ModOrder}
use Rattle.monomial_orders.specs.declared.order.ModOrder.TheVariants.{Pot, Top}
use Rattle.term_lists.specs.Rings.{ring_comparison, setting, variables}
use Rattle.term_lists.specs.Vectors.{HasPositions, sums_of}
use Rattle.term_lists.specs.declared.ring.Ring.{Ring}
use Rattle.groebner_iface.specs.Runs.{IsReducedBasisOf}
use Rattle.syzygy_engine.specs.Runs.{AreVectorsFor}
use Rattle.syzygy_engine.proofs.Standing.{Terms, ranks_of_positions, stand_basis}
use Rattle.syzygy_engine.proofs.VectorLists.{positions_for}
use Rattle.ideal_ops.specs.GradedOrders.{IsGrevlex}
use Rattle.ideal_ops.specs.Runs.{elimination_ring}
use Rattle.ideal_ops.proofs.Shared.{free_ranks}

-- the setting of vectors of this rank in graded reverse lexicographic order, term over position, by the ring's weights
abbrev pub graded_setting : (ring : Ring) → ℕ → Setting (variables ring)
graded_setting ring rank = record { modulus = ring.modulus.value; weights = ring.weights; rank = rank; compare = top (weighted_grevlex ring.weights) }

pot_is_not_top : Pot ≡ Top → ⊥
pot_is_not_top e = cc

module _ (ring : Ring) (rank : ℕ) (lawful : IsLawful (setting ring (variables ring) (ring_comparison ring (variables ring)) rank)) where
  pub graded_lawful : IsLawful (graded_setting ring rank)
  graded_lawful = record { domain = lawful.domain; order = key_comparison_order Top Grevlex ring.weights (variables ring) rank }

  -- what is reduced in that order is so in the ring's own
  pub in_own_order :
      IsGrevlex ring rank → (H : List (FormalSum (variables ring))) → Each (HasRank rank) H → IsReducedBasis (graded_setting ring rank) H H
      → IsReducedBasis (setting ring (variables ring) (ring_comparison ring (variables ring)) rank) H H
  in_own_order graded H ranks reduced =
      subst (λ o. IsReducedBasis (record { modulus = ring.modulus.value; weights = ring.weights; rank = rank; compare = key_comparison ring.module_order o ring.weights (variables ring) }) H H)
      (sym graded.0) (go ring.module_order refl graded.1)
    where
      go :
          (o : ModOrder) → ring.module_order ≡ o → (ring.module_order ≡ Top) ⊎ (rank ≡ 1)
          → IsReducedBasis (record { modulus = ring.modulus.value; weights = ring.weights; rank = rank; compare = key_comparison o Grevlex ring.weights (variables ring) }) H H
      go Top e m = reduced
      go Pot e (inl t) = absurd (pot_is_not_top (sym e ∙ t))
      go Pot e (inr one) =
          subst (λ r. IsReducedBasis (record { modulus = ring.modulus.value; weights = ring.weights; rank = r; compare = key_comparison Pot Grevlex ring.weights (variables ring) }) H H) (sym one)
          (position_again (weighted_grevlex ring.weights) (graded_setting ring rank) graded_lawful (weighted_grevlex_order (variables ring) ring.weights) H H
          (subst (λ r. Each (HasRank r) H) one ranks) (subst (λ r. IsReducedBasis (graded_setting ring r) H H) one reduced))

  -- ---- elimination
  -- the members without the first variables are the reduced basis of their module
  pub free_itself :
      IsGrevlex ring rank → (k : ℕ) (sorted basis free : List Terms) → Each (HasPositions rank) sorted → IsReducedBasisOf (elimination_ring k ring) rank sorted basis
      → AreVectorsFor ring (eliminated k (sums_of (variables ring) basis)) free → IsReducedBasisOf ring rank free free
  free_itself graded k sorted basis free low first kept =
      let n = variables ring in
      let H = eliminated k (sums_of n basis) in
      let ranks = free_ranks ring rank lawful k (elimination_ring k ring) sorted basis first in
      stand_basis ring rank free H lawful kept.vectors kept.stand (positions_for ring rank lawful free H kept ranks)
      (in_own_order graded H ranks
      (eliminated_graded (graded_setting ring rank) ring.weights k (sums_of n sorted) (sums_of n basis) graded_lawful refl (ranks_of_positions n rank sorted low) first.basis))
