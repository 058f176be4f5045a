use Rattle.vector_division.specs.Marks.{HasBitsTo}
use Rattle.vector_division.proofs.marks.bits_in_turn.Given as goal

abbrev pub invariant-loop-i : goal.invariant-loop-i
invariant-loop-i l = HasBitsTo l.exponents l.bits l.i
