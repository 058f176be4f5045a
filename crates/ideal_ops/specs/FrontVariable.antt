-- Runs with one more variable in front (IVA chapter 4, sections 3 and 4)
use Rattle.std.specs.Prelude.{List, [], length, map, suc, ℕ, ◌<◌, ◌∷◌, ◌⊎◌}
use Rattle.formal_sums.specs.FormalSums.{FormalSum}
use Rattle.operation_laws.specs.Operations.{back, basis_vector, intersection_list, saturation_list, times_first, times_rest, with_first}
use Rattle.term_lists.specs.FrontVariables.{front_ring}
use Rattle.term_lists.specs.Rings.{ring_comparison, variables}
use Rattle.term_lists.specs.Vectors.{IsVectorOver, StandsFor, sum_of, sums_of}
use Rattle.term_lists.specs.declared.key.Key.{Key as CodeKey}
use Rattle.term_lists.specs.declared.ring.Ring.{Ring}
use Rattle.module_vectors.specs.declared.trail.KeptTrail.{KeptTrail}
use Rattle.ideal_ops.specs.Products.{IsProductTrail}
use Rattle.syzygy_engine.specs.Runs.{AreTwoRuns, AreVectorsFor, IsRunFor, OfRuns}

-- the runs over the ring with a front variable, on a list that stands for these formal sums, and in the ring's own order
-- on the members of its basis without that variable
abbrev pub AreFrontRuns : (ring : Ring) → ℕ → List (FormalSum (suc (variables ring))) → OfRuns
AreFrontRuns ring rank G =
    AreTwoRuns (IsRunFor (front_ring ring) rank G)
    (λ first basis l. AreVectorsFor ring (back (sums_of (suc (variables ring)) basis)) l) ring rank

-- the runs of an intersection: the list is t b for the members b of the one list and (1 - t) c for those of the other
abbrev pub AreIntersectionRuns : Ring → ℕ → List (List (CodeKey × ℕ)) → List (List (CodeKey × ℕ)) → OfRuns
AreIntersectionRuns ring rank left right =
    let n = variables ring in
    AreFrontRuns ring rank (intersection_list ring.modulus.value (sums_of n left) (sums_of n right))

-- the runs of a saturation: the list is the members and (1 - t f) e_1 to (1 - t f) e_m
abbrev pub AreSaturationRuns : Ring → ℕ → List (List (CodeKey × ℕ)) → List (CodeKey × ℕ) → OfRuns
AreSaturationRuns ring rank list f =
    let n = variables ring in
    AreFrontRuns ring rank (saturation_list ring.modulus.value rank (sum_of n f) (sums_of n list))

-- ---- trails of products with the front variable
-- a vector of the ring with a front variable that stands for this formal sum
pub record IsFrontVector (ring : Ring) (g : FormalSum (suc (variables ring))) (v : List (CodeKey × ℕ)) : Type 0 where
  pub vector : IsVectorOver (front_ring ring) (ring_comparison (front_ring ring)) v
  pub stand : StandsFor (front_ring ring) v g

-- the trail, over the ring with a front variable, of a monomial of b times the one of the members with this index, which stand for G
pub record IsFrontTrail (ring : Ring) (b : FormalSum (suc (variables ring))) (G : List (FormalSum (suc (variables ring)))) (k : ℕ) (t : KeptTrail) : Type 0 where
  pub vector : List (CodeKey × ℕ)
  pub vector_for : IsFrontVector ring b vector
  pub members : List (List (CodeKey × ℕ))
  pub members_for : AreVectorsFor (front_ring ring) G members
  pub trail : IsProductTrail (front_ring ring) vector members k t

-- the front variable t, as a polynomial
abbrev pub front_polynomial : (n : ℕ) → FormalSum (suc n)
front_polynomial n = times_first (basis_vector {n = n} 0)

-- 1 - t
abbrev pub rest_polynomial : (n p : ℕ) → FormalSum (suc n)
rest_polynomial n p = times_rest p (basis_vector {n = n} 0)

-- the trail of a monomial of b times a member of the list: the list is what it has as its members, without the front variable
abbrev pub IsFrontTrailOf : (ring : Ring) → FormalSum (suc (variables ring)) → List (List (CodeKey × ℕ)) → KeptTrail → Type 0
IsFrontTrailOf ring b list t = (i : ℕ) × (i < length list) × IsFrontTrail ring b (map with_first (sums_of (variables ring) list)) i t

-- the trail of an intersection: t times a member of the one list, or 1 - t times one of the other
abbrev pub IsTrailOfIntersection : Ring → List (List (CodeKey × ℕ)) → List (List (CodeKey × ℕ)) → KeptTrail → Type 0
IsTrailOfIntersection ring left right t =
    let n = variables ring in
    IsFrontTrailOf ring (front_polynomial n) left t ⊎ IsFrontTrailOf ring (rest_polynomial n ring.modulus.value) right t

-- the trail of a saturation, of whatever list: f times t, the one member
abbrev pub IsTrailOfSaturation : Ring → List (List (CodeKey × ℕ)) → List (CodeKey × ℕ) → KeptTrail → Type 0
IsTrailOfSaturation ring list f t =
    let n = variables ring in
    IsFrontTrail ring (with_first (sum_of n f)) (front_polynomial n ∷ []) 0 t
