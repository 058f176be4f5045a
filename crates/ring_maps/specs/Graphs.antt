-- The runs of a preimage and of an expression, and where its degree is met (IVA chapter 3, section 3)
use Rattle.std.specs.Prelude.{List, [], ℕ, ◌≡◌}
use Rattle.map_laws.specs.Graphs.{graph_list, in_first, of_second}
use Rattle.term_lists.specs.Doubling.{IsDoubled}
use Rattle.term_lists.specs.Rings.{ring_comparison, variables}
use Rattle.term_lists.specs.Vectors.{IsVectorOver, StandsFor, sum_of, sums_of}
use Rattle.term_lists.specs.declared.key.Key.{Key as CodeKey}
use Rattle.term_lists.specs.declared.ring.Ring.{Ring}
use Rattle.module_vectors.specs.declared.trail.KeptTrail.{KeptTrail}
use Rattle.vector_division.specs.Divisions.{IsDivisionTrail}
use Rattle.groebner_iface.specs.Runs.{IsReducedBasisOf}
use Rattle.syzygy_engine.specs.Runs.{AreTwoRuns, AreVectorsFor, OfRuns}

-- the run on the graph of the map and the list, over the ring of the graph
pub record IsGraphRun (ring : Ring) (images list : List (List (CodeKey × ℕ))) (over : Ring) (rank : ℕ) (l : List (List (CodeKey × ℕ))) : Type 0 where
  pub doubled : IsDoubled ring over
  pub rank_one : rank ≡ 1
  pub vectors :
      let n = variables ring in
      AreVectorsFor over (graph_list ring.modulus.value (variables over) (sums_of n images) (sums_of n list)) l

-- the runs of a preimage: on the graph, and in the ring's own order on the members without the variables of the first kind
abbrev pub ArePreimageRuns : Ring → (images list : List (List (CodeKey × ℕ))) → OfRuns
ArePreimageRuns ring images list =
    AreTwoRuns (IsGraphRun ring images list)
    (λ first basis l. AreVectorsFor ring (of_second (variables ring) (sums_of (variables first) basis)) l) ring 1

-- the trail, over the ring of the graph, of the division of g by the reduced basis of the graph
pub record IsExpressionTrail (ring : Ring) (images : List (List (CodeKey × ℕ))) (g : List (CodeKey × ℕ)) (t : KeptTrail) : Type 0 where
  pub over : Ring
  pub list : List (List (CodeKey × ℕ))
  pub run : IsGraphRun ring images [] over 1 list
  pub basis : List (List (CodeKey × ℕ))
  pub reduced : IsReducedBasisOf over 1 list basis
  pub vector : List (CodeKey × ℕ)
  pub over_graph : IsVectorOver over (ring_comparison over) vector
  pub stands : StandsFor over vector (in_first (variables over) (sum_of (variables ring) g))
  pub division : IsDivisionTrail over vector basis t
