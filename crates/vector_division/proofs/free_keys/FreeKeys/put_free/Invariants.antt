use Rattle.term_lists.specs.Rings.{variables}
use Rattle.vector_division.specs.Divisors.{AreFreeKeys}
use Rattle.vector_division.proofs.free_keys.FreeKeys.put_free.Given as goal

abbrev pub invariant-loop-term : goal.invariant-loop-term
invariant-loop-term g l = AreFreeKeys (variables (g.F.Frame.over l.frame)) (g.L.Vectors.listed l.list) l.self
