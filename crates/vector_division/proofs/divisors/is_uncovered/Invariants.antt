use Rattle.std.proofs.Common.{length}
use Rattle.term_lists.specs.Vectors.{key_of}
use Rattle.vector_division.specs.Progress.{AreTried}
use Rattle.vector_division.proofs.divisors.is_uncovered.Given as goal

abbrev pub invariant-loop-i : goal.invariant-loop-i
invariant-loop-i g l =
    let n = length l.key.monomial.exponents in
    AreTried n (g.L.Vectors.listed l.list) (key_of n l.key) l.i
