use Rattle.std.proofs.Common.{map, take}
use Rattle.operation_laws.specs.Operations.{with_first}
use Rattle.term_lists.specs.FrontVariables.{front_ring}
use Rattle.term_lists.specs.Rings.{variables}
use Rattle.term_lists.specs.Vectors.{sums_of}
use Rattle.syzygy_engine.specs.Runs.{AreVectorsFor}
use Rattle.ideal_ops.proofs.front.all_in_front.Given as goal

abbrev pub invariant-loop-v : goal.invariant-loop-v
invariant-loop-v l = AreVectorsFor (front_ring l.ring) (map with_first (sums_of (variables l.ring) (take l.v-index l.v-items))) l.moved.items
