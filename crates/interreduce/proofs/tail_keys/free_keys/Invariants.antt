use Rattle.term_lists.specs.Rings.{variables}
use Rattle.vector_division.specs.Divisors.{AreFreeKeys}
use Rattle.interreduce.proofs.tail_keys.free_keys.Given as goal

abbrev pub invariant-loop-index : goal.invariant-loop-index
invariant-loop-index g l = AreFreeKeys (variables (g.F.Frame.over l.frame)) (g.L.Vectors.listed l.list) l.free
