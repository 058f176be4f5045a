-- What the steps over the ring of a graph hand on
use Rattle.std.specs.Prelude.{List, ℕ}
use Rattle.map_laws.specs.Graphs.{graph_list}
use Rattle.term_lists.specs.Rings.{variables}
use Rattle.term_lists.specs.Vectors.{sums_of}
use Rattle.term_lists.specs.declared.key.Key.{Key as CodeKey}
use Rattle.term_lists.specs.declared.ring.Ring.{Ring}
use Rattle.groebner_iface.specs.Runs.{IsReducedBasisOf}
use Rattle.syzygy_engine.specs.Runs.{AreVectorsFor}
use Rattle.ring_maps.specs.GraphRings.{IsGraphRing}
use Rattle.ring_maps.specs.Graphs.{IsGraphRun}

-- `basis` is the reduced basis, over the ring `over` of the graph, of the graph of the map and the list
pub record IsGraphBasis (ring : Ring) (images list : List (List (CodeKey × ℕ))) (over : Ring) (basis : List (List (CodeKey × ℕ))) : Type 0 where
  pub listed : List (List (CodeKey × ℕ))
  pub run : IsGraphRun ring images list over 1 listed
  pub reduced : IsReducedBasisOf over 1 listed basis

-- `basis` is that over a ring `over` of the graph with whatever weights, by an attempt or a run
pub record IsBasisOfGraph (ring : Ring) (images list : List (List (CodeKey × ℕ))) (over : Ring) (basis : List (List (CodeKey × ℕ))) : Type 0 where
  pub listed : List (List (CodeKey × ℕ))
  pub ring_of : IsGraphRing ring over
  pub vectors :
      let n = variables ring in
      AreVectorsFor over (graph_list ring.modulus.value (variables over) (sums_of n images) (sums_of n list)) listed
  pub reduced : IsReducedBasisOf over 1 listed basis
