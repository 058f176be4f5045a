use Rattle.std.proofs.Common.{take}
use Rattle.sparse_poly.specs.Degrees.{IsWithinDegree}
use Rattle.sparse_poly.proofs.digits.top_degree.Given as goal

abbrev pub invariant-loop-term : goal.invariant-loop-term
invariant-loop-term l = IsWithinDegree l.top (take l.term-index l.terms)
