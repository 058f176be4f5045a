use Rattle.std.proofs.Common.{take}
use Rattle.term_lists.specs.Stops.{Fits}
use Rattle.s_vectors.proofs.sums.find_monomial.Given as goal

abbrev pub invariant-loop-term : goal.invariant-loop-term
invariant-loop-term l = Fits l.t (take l.term-index l.v)
