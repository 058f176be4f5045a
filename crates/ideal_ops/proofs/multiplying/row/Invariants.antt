use Rattle.std.proofs.Common.{map, take}
use Rattle.formal_sums.specs.FormalSums.{product}
use Rattle.term_lists.specs.Rings.{variables}
use Rattle.term_lists.specs.Vectors.{sum_of, sums_of}
use Rattle.syzygy_engine.specs.Runs.{AreVectorsFor}
use Rattle.ideal_ops.proofs.multiplying.row.Given as goal

abbrev pub invariant-loop-j : goal.invariant-loop-j
invariant-loop-j l = AreVectorsFor l.ring (map (product (sum_of (variables l.ring) l.b)) (sums_of (variables l.ring) (take l.j l.right))) l.list.items
