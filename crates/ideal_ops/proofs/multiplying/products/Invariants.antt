use Rattle.std.proofs.Common.{take}
use Rattle.operation_laws.specs.Operations.{products_of}
use Rattle.term_lists.specs.Rings.{variables}
use Rattle.term_lists.specs.Vectors.{sums_of}
use Rattle.syzygy_engine.specs.Runs.{AreVectorsFor}
use Rattle.ideal_ops.proofs.multiplying.products.Given as goal

abbrev pub invariant-loop-i : goal.invariant-loop-i
invariant-loop-i l = AreVectorsFor l.ring (products_of (sums_of (variables l.ring) (take l.i l.left)) (sums_of (variables l.ring) l.right)) l.list
