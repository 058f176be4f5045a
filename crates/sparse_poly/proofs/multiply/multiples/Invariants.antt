use Rattle.std.proofs.Common.{take}
use Rattle.sparse_poly.specs.Multiples.{AreTermMultiples}
use Rattle.sparse_poly.proofs.multiply.multiples.Given as goal

abbrev pub invariant-loop-term : goal.invariant-loop-term
invariant-loop-term l = AreTermMultiples l.v (take l.term-index l.terms) l.products.items
