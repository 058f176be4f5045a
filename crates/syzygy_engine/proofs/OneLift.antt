-- A vector has one lift
use Rattle.std.proofs.Common.{List, subst, ◌≡◌, length}
use Rattle.formal_sums.proofs.Combining.{IsMember_itself}
use Rattle.formal_sums.specs.FormalSums.{FormalSum}
use Rattle.bases.specs.Settings.{IsLawful, Setting}
use Rattle.bases.specs.Bases.{IsReducedBasis}
use Rattle.formal_sums.specs.Combinations.{IsSameModule}
use Rattle.term_lists.proofs.NormalVectors.{vector_unique}
use Rattle.reduced_bases.proofs.Comparing.{IsReducedBasis_same}
use Rattle.reduced_unique.proofs.Uniqueness.{IsReducedBasis_unique}
use Rattle.operation_laws.proofs.Lifting.{lift_one}
use Rattle.operation_laws.specs.Lifts.{IsLift}
use Rattle.term_lists.specs.Rings.{ring_comparison, setting, variables}
use Rattle.term_lists.specs.Vectors.{IsVectorOver, sum_of, sums_of}
use Rattle.term_lists.specs.declared.ring.Ring.{Ring}
use Rattle.syzygy_engine.specs.Kernels.{GeneratesSyzygies}
use Rattle.syzygy_engine.specs.Lifts.{IsLiftOf}
use Rattle.syzygy_engine.specs.Marking.{position_setting}
use Rattle.syzygy_engine.proofs.Marks.{lawful_by_position}
use Rattle.syzygy_engine.proofs.Standing.{Terms}

module _ (ring : Ring) (list : List Terms) (lawful : IsLawful (setting ring (variables ring) (ring_comparison ring (variables ring)) 0)) where
  abbrev T : Setting (variables ring)
  T = position_setting ring (length list)

  up : IsLawful (position_setting ring (length list))
  up = lawful_by_position ring (length list) lawful

  -- two reduced bases of the syzygies are one
  one_kernel :
      (K L : List (FormalSum (variables ring)))
      → IsReducedBasis (position_setting ring (length list)) K K → IsReducedBasis (position_setting ring (length list)) L L
      → GeneratesSyzygies ring.modulus.value (sums_of (variables ring) list) K → GeneratesSyzygies ring.modulus.value (sums_of (variables ring) list) L → K ≡ L
  one_kernel K L bk bl gk gl = IsReducedBasis_unique T up L K L (IsReducedBasis_same T up K L K same bk) bl
    where
      same : IsSameModule ring.modulus.value K L
      same = record {
        inside = λ i lt. (gl _).1 ((gk _).0 (IsMember_itself ring.modulus.value K i lt));
        outside = λ i lt. (gk _).1 ((gl _).0 (IsMember_itself ring.modulus.value L i lt));
      }

  pub one_lift_of :
      (v a b : Terms) → IsVectorOver ring (ring_comparison ring) a → IsVectorOver ring (ring_comparison ring) b
      → IsLiftOf ring list v a → IsLiftOf ring list v b → a ≡ b
  one_lift_of v a b va vb x y =
      let e = one_kernel y.kernel x.kernel y.basis x.basis y.syzygies x.syzygies in
      let y' = subst (λ K. IsLift T (sums_of (variables ring) list) K (sum_of (variables ring) v) (sum_of (variables ring) b)) e y.lift in
      vector_unique ring (ring_comparison ring) 0 a b lawful va vb
      (lift_one T up (sums_of (variables ring) list) x.kernel (sum_of (variables ring) v) (sum_of (variables ring) a) (sum_of (variables ring) b) x.basis.reduced.basis (λ c. (x.syzygies c).1) x.lift y')
