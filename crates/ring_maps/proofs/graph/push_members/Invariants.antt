use Rattle.std.proofs.Common.{List, map, take, ◌++◌}
use Rattle.formal_sums.specs.FormalSums.{FormalSum}
use Rattle.map_laws.specs.Graphs.{in_first}
use Rattle.term_lists.specs.Rings.{variables}
use Rattle.term_lists.specs.Vectors.{sums_of}
use Rattle.syzygy_engine.specs.Runs.{AreVectorsFor}
use Rattle.ring_maps.proofs.graph.push_members.Given as goal

abbrev pub invariant-loop-v : goal.invariant-loop-v
invariant-loop-v l =
    (G : List (FormalSum (variables l.graph))) → AreVectorsFor l.graph G l.fn.vectors.items
    → AreVectorsFor l.graph (G ++ map (in_first (variables l.graph)) (sums_of (variables l.ring) (take l.v-index l.v-items))) l.vectors.items
