use Rattle.std.proofs.Common.{◌*◌}
use Rattle.symbolic_prep.specs.Unary.{in_fours}
use Rattle.symbolic_prep.proofs.words.unary_word.Given as goal
use Rattle.vector_division.specs.Marks.{HasBitsTo}

abbrev pub invariant-loop-i : goal.invariant-loop-i
invariant-loop-i l = HasBitsTo (in_fours l.exponents) l.word (4 * l.i)
