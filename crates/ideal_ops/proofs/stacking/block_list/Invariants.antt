use Rattle.operation_laws.specs.Operations.{blocks}
use Rattle.term_lists.specs.Rings.{variables}
use Rattle.term_lists.specs.Vectors.{sums_of}
use Rattle.syzygy_engine.specs.Runs.{AreVectorsFor}
use Rattle.ideal_ops.proofs.stacking.block_list.Given as goal

abbrev pub invariant-loop-j : goal.invariant-loop-j
invariant-loop-j l = AreVectorsFor l.ring (blocks l.rank 0 l.j (sums_of (variables l.ring) l.list)) l.all.items
