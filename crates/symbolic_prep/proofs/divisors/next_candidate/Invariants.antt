use Rattle.std.proofs.Common.{◌-◌, ◌≤◌}
use Rattle.symbolic_prep.specs.Divisors.{HaveMissing}
use Rattle.symbolic_prep.proofs.divisors.next_candidate.Given as goal

abbrev pub invariant-loop-i : goal.invariant-loop-i
invariant-loop-i l = record {
  above : l.at ≤ l.i;
  within : l.i ≤ l.end;
  others : HaveMissing l.bits l.missing l.at l.i;
}

abbrev pub decreases-loop-i : goal.decreases-loop-i
decreases-loop-i l = l.end - l.i
