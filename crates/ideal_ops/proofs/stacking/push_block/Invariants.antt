use Rattle.std.proofs.Common.{List, map, take, ◌++◌}
use Rattle.formal_sums.specs.FormalSums.{FormalSum}
use Rattle.syzygy_laws.specs.Syzygies.{raised}
use Rattle.term_lists.specs.Rings.{variables}
use Rattle.term_lists.specs.Vectors.{sums_of}
use Rattle.syzygy_engine.specs.Runs.{AreVectorsFor}
use Rattle.ideal_ops.proofs.stacking.push_block.Given as goal

abbrev pub invariant-loop-v : goal.invariant-loop-v
invariant-loop-v l =
    (G : List (FormalSum (variables l.ring))) → AreVectorsFor l.ring G l.fn.all.items
    → AreVectorsFor l.ring (G ++ map (raised l.by) (sums_of (variables l.ring) (take l.v-index l.v-items))) l.all.items
