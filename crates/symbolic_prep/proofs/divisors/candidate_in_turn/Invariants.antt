use Rattle.symbolic_prep.specs.Divisors.{HaveMissing}
use Rattle.symbolic_prep.proofs.divisors.candidate_in_turn.Given as goal

abbrev pub invariant-loop-i : goal.invariant-loop-i
invariant-loop-i l = HaveMissing l.bits l.missing l.at l.i
