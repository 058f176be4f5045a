-- The lift of a vector, and where its degree is met (UAG chapter 5, section 3)
use Rattle.std.specs.Prelude.{List, length, ⊤, ℕ, ◌+◌}
use Rattle.formal_sums.specs.FormalSums.{FormalSum}
use Rattle.bases.specs.Bases.{IsReducedBasis}
use Rattle.operation_laws.specs.Lifts.{IsLift}
use Rattle.term_lists.specs.Rings.{ring_comparison, variables}
use Rattle.term_lists.specs.Vectors.{IsVectorOver, StandsFor, sum_of, sums_of}
use Rattle.term_lists.specs.declared.key.Key.{Key as CodeKey}
use Rattle.term_lists.specs.declared.ring.Ring.{Ring}
use Rattle.module_vectors.specs.declared.trail.KeptTrail.{KeptTrail}
use Rattle.module_vectors.specs.declared.trail.WorkStop.{WorkStop}
use Rattle.module_vectors.specs.declared.trail.WorkStop.TheVariants.{Memory, Degree}
use Rattle.vector_division.specs.Divisions.{IsDivisionTrail}
use Rattle.groebner_iface.specs.Runs.{IsReducedBasisOf}
use Rattle.syzygy_engine.specs.Kernels.{GeneratesSyzygies}
use Rattle.syzygy_engine.specs.Marking.{AreMarked, position_ring, position_setting}

-- a is the lift of v to the list: v is the combination of the list by a, and no lead of the reduced basis of the
-- syzygies, position over term, divides a key of a
pub record IsLiftOf (ring : Ring) (list : List (List (CodeKey × ℕ))) (v a : List (CodeKey × ℕ)) : Type 0 where
  pub kernel : List (FormalSum (variables ring))
  pub basis : IsReducedBasis (position_setting ring (length list)) kernel kernel
  pub syzygies : GeneratesSyzygies ring.modulus.value (sums_of (variables ring) list) kernel
  pub lift : IsLift (position_setting ring (length list)) (sums_of (variables ring) list) kernel (sum_of (variables ring) v) (sum_of (variables ring) a)

-- u is v in the order by position
pub record IsByPosition (ring : Ring) (v u : List (CodeKey × ℕ)) : Type 0 where
  pub vector : IsVectorOver (position_ring ring) (ring_comparison (position_ring ring)) u
  pub same : StandsFor ring u (sum_of (variables ring) v)

-- the division of v, taken into the order by position, by this list stops early
abbrev pub RestStops : Ring → List (CodeKey × ℕ) → List (List (CodeKey × ℕ)) → WorkStop → Type 0
RestStops ring v list Memory = ⊤
RestStops ring v list (Degree t) = (u : List (CodeKey × ℕ)) × IsByPosition ring v u × IsDivisionTrail (position_ring ring) u list t

-- the trail is one of the division of v by the reduced basis of the marked list, position over term
pub record IsLiftTrail (ring : Ring) (q : ℕ) (list : List (List (CodeKey × ℕ))) (v : List (CodeKey × ℕ)) (t : KeptTrail) : Type 0 where
  pub done : List (List (CodeKey × ℕ))
  pub marks : AreMarked ring q list done
  pub basis : List (List (CodeKey × ℕ))
  pub reduced : IsReducedBasisOf (position_ring ring) (q + length list) done basis
  pub vector : List (CodeKey × ℕ)
  pub same : IsByPosition ring v vector
  pub division : IsDivisionTrail (position_ring ring) vector basis t
