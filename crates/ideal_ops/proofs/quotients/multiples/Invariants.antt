use Rattle.operation_laws.specs.Operations.{multiples_of}
use Rattle.term_lists.specs.Rings.{variables}
use Rattle.term_lists.specs.Vectors.{sum_of}
use Rattle.syzygy_engine.specs.Runs.{AreVectorsFor}
use Rattle.ideal_ops.proofs.quotients.multiples.Given as goal

abbrev pub invariant-loop-position : goal.invariant-loop-position
invariant-loop-position l = AreVectorsFor l.ring (multiples_of l.position (sum_of (variables l.ring) l.f)) l.list.items
