use Rattle.std.proofs.Common.{map, take}
use Rattle.operation_laws.specs.Operations.{times_first}
use Rattle.term_lists.specs.FrontVariables.{front_ring}
use Rattle.term_lists.specs.Rings.{variables}
use Rattle.term_lists.specs.Vectors.{sums_of}
use Rattle.syzygy_engine.specs.Runs.{AreVectorsFor}
use Rattle.ideal_ops.proofs.front.variable_multiples.Given as goal

abbrev pub invariant-loop-i : goal.invariant-loop-i
invariant-loop-i l = AreVectorsFor (front_ring l.ring) (map times_first (sums_of (variables l.ring) (take l.i l.list))) l.multiples.items
