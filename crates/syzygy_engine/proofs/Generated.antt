-- The syzygies that a run's basis gives
use Rattle.std.proofs.Common.{List, [], arith, get_or, length, subst, sym, ℕ, ◌+◌, ◌<◌, ◌≡◌}
use Rattle.std.proofs.lemmas.List.{length-map}
use Rattle.formal_sums.proofs.Combining.{IsMember_itself, IsMember_through}
use Rattle.formal_sums.specs.Combinations.{IsSameModule}
use Rattle.formal_sums.specs.FormalSums.{Each, FormalSum, HasRank, IsOfRank}
use Rattle.bases.proofs.Leading.{positive}
use Rattle.bases.specs.Bases.{IsReducedBasis}
use Rattle.bases.specs.Settings.{IsLawful, Setting}
use Rattle.syzygy_laws.specs.Kernels.{kernel_of, pot_setting}
use Rattle.syzygy_laws.specs.Syzygies.{marked}
use Rattle.operation_laws.proofs.Parts.{kernel_exact, kernel_reduced}
use Rattle.monomial_orders.specs.Comparisons.{comparison, key_comparison}
use Rattle.monomial_orders.specs.Laws.{comparison_order, key_comparison_order}
use Rattle.monomial_orders.specs.declared.order.ModOrder.TheVariants.{Pot}
use Rattle.term_lists.specs.Rings.{ring_comparison, setting, variables}
use Rattle.term_lists.specs.Vectors.{AreVectorsOver, HasPositions, sum_of, sums_of}
use Rattle.term_lists.specs.declared.ring.Ring.{Ring}
use Rattle.groebner_iface.specs.Runs.{IsReducedBasisOf}
use Rattle.syzygy_engine.specs.Kernels.{GeneratesSyzygies, IsKernelOf}
use Rattle.syzygy_engine.specs.Marking.{AreMarked, StandOneByOne, position_ring, position_setting}
use Rattle.syzygy_engine.proofs.Marks.{run_reduced}
use Rattle.syzygy_engine.proofs.Standing.{Terms, ranks_of_positions, stand_basis, stand_module, stand_positions}

-- the ring's own setting is lawful at each rank
pub lawful_at : (ring : Ring) (r : ℕ) → IsLawful (setting ring (variables ring) (ring_comparison ring (variables ring)) 0) → IsLawful (setting ring (variables ring) (ring_comparison ring (variables ring)) r)
lawful_at ring r lawful = record { domain = lawful.domain; order = key_comparison_order ring.module_order ring.order ring.weights (variables ring) r }

module _ (ring : Ring) (q : ℕ) (list : List Terms) (lawful : IsLawful (setting ring (variables ring) (ring_comparison ring (variables ring)) 0)) (low : Each (HasPositions q) list)
    (G : List (FormalSum (variables ring))) (reduced : IsReducedBasis (position_setting ring (q + length list)) (marked q 0 (sums_of (variables ring) list)) G) where
  abbrev F : List (FormalSum (variables ring))
  F = sums_of (variables ring) list

  abbrev S : Setting (variables ring)
  S = setting ring (variables ring) (ring_comparison ring (variables ring)) 0

  pub count : length (sums_of (variables ring) list) ≡ length list
  count = length-map list (λ v. sum_of (variables ring) v)

  pub ranks : Each (HasRank q) (sums_of (variables ring) list)
  ranks = ranks_of_positions (variables ring) q list low

  pub by_length :
      IsReducedBasis (pot_setting ring.weights ring.modulus.value (q + length (sums_of (variables ring) list)) (comparison ring.order ring.weights (variables ring)))
      (marked q 0 (sums_of (variables ring) list)) G
  by_length = subst (λ m. IsReducedBasis (position_setting ring (q + m)) (marked q 0 F) G) (sym count) reduced

  -- the kernel of a basis of the marked list has exactly the syzygies
  pub exact : GeneratesSyzygies ring.modulus.value (sums_of (variables ring) list) (kernel_of q G)
  exact = λ a. kernel_exact S (comparison ring.order ring.weights (variables ring)) q F G lawful (comparison_order ring.order ring.weights (variables ring)) ranks by_length a

  -- and is their reduced basis, position over term
  pub kernel_basis : IsReducedBasis (position_setting ring (length list)) (kernel_of q G) (kernel_of q G)
  kernel_basis =
      subst (λ m. IsReducedBasis (position_setting ring m) (kernel_of q G) (kernel_of q G)) count
      (kernel_reduced S (comparison ring.order ring.weights (variables ring)) q F G lawful (comparison_order ring.order ring.weights (variables ring)) ranks by_length)

-- what a run on the marked list shows
pub kernel_of_run :
    (ring : Ring) (q : ℕ) (list done basis kernel : List Terms) → IsLawful (setting ring (variables ring) (ring_comparison ring (variables ring)) 0)
    → AreMarked ring q list done → IsReducedBasisOf (position_ring ring) (q + length list) done basis
    → StandOneByOne ring kernel (kernel_of q (sums_of (variables ring) basis)) → IsKernelOf ring q list kernel
kernel_of_run ring q list done basis kernel lawful marks run members =
    record { basis = sums_of (variables ring) basis; reduced = run_reduced ring q list done marks lawful basis run; members = members }

module _ (ring : Ring) (q : ℕ) (list kernel : List Terms) (lawful : IsLawful (setting ring (variables ring) (ring_comparison ring (variables ring)) 0)) (low : Each (HasPositions q) list)
    (shown : IsKernelOf ring q list kernel) where
  same : IsSameModule ring.modulus.value (sums_of (variables ring) kernel) (kernel_of q shown.basis)
  same = stand_module ring kernel (kernel_of q shown.basis) shown.members

  pub generate : GeneratesSyzygies ring.modulus.value (sums_of (variables ring) list) (sums_of (variables ring) kernel)
  generate a = (
    λ h. (exact ring q list lawful low shown.basis shown.reduced a).0 (IsMember_through pos (kernel_of q shown.basis) (sums_of (variables ring) kernel) same.inside a h),
    λ h. IsMember_through pos (sums_of (variables ring) kernel) (kernel_of q shown.basis) same.outside a ((exact ring q list lawful low shown.basis shown.reduced a).1 h),
  )
    where
      pos : 0 < ring.modulus.value
      pos = positive (setting ring (variables ring) (ring_comparison ring (variables ring)) 0) lawful

  module _ (vectors : AreVectorsOver ring (ring_comparison ring) kernel) where
    pub kernel_positions : Each (HasPositions (length list)) kernel
    kernel_positions =
        stand_positions ring (ring_comparison ring) (length list) kernel (kernel_of q shown.basis) lawful vectors shown.members.each
        (λ i lt.
        let l : i < length (kernel_of q shown.basis) = omega (arith, lt, shown.members.count) in
        let s = (exact ring q list lawful low shown.basis shown.reduced (get_or (kernel_of q shown.basis) i [])).0 (IsMember_itself ring.modulus.value (kernel_of q shown.basis) i l) in
        subst (λ m. IsOfRank ring.modulus.value m (get_or (kernel_of q shown.basis) i [])) (count ring q list lawful low shown.basis shown.reduced) s.rank)

    -- where the ring's own order is by position, nothing is left to do
    pub by_position_done : ring.module_order ≡ Pot → IsReducedBasisOf ring (length list) kernel kernel
    by_position_done e =
        stand_basis ring (length list) kernel (kernel_of q shown.basis) (lawful_at ring (length list) lawful) vectors shown.members kernel_positions
        (subst (λ o. IsReducedBasis (record { modulus = ring.modulus.value; weights = ring.weights; rank = length list; compare = key_comparison o ring.order ring.weights (variables ring) }) (kernel_of q shown.basis) (kernel_of q shown.basis)) (sym e)
        (kernel_basis ring q list lawful low shown.basis shown.reduced))
