use Rattle.std.proofs.Common.{take}
use Rattle.formal_sums.specs.FormalSums.{Each}
use Rattle.term_lists.specs.Stops.{Fits}
use Rattle.s_vectors.proofs.sums.find_product.Given as goal

abbrev pub invariant-loop-i : goal.invariant-loop-i
invariant-loop-i l = Each (λ x. Fits x.monomial.now x.vector.now) (take l.i l.products)
