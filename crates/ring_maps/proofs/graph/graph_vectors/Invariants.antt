use Rattle.std.proofs.Common.{length, ◌≤◌}
use Rattle.operation_laws.specs.Operations.{listed}
use Rattle.map_laws.specs.Graphs.{graph_member}
use Rattle.term_lists.specs.Rings.{variables}
use Rattle.term_lists.specs.Vectors.{sums_of}
use Rattle.syzygy_engine.specs.Runs.{AreVectorsFor}
use Rattle.ring_maps.proofs.graph.graph_vectors.Given as goal

abbrev pub invariant-loop-i : goal.invariant-loop-i
invariant-loop-i l = record {
  within : l.i ≤ length l.images;
  members : AreVectorsFor l.graph (listed 0 l.i (graph_member l.ring.modulus.value (variables l.graph) (sums_of (variables l.ring) l.images))) l.vectors.items;
}
