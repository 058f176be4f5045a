use Rattle.std.proofs.Common.{get_or, take, ◌≤◌}
use Rattle.formal_sums.specs.FormalSums.{Each}
use Rattle.column_passes.proofs.steps.next_step.Given as goal

abbrev pub invariant-loop-term : goal.invariant-loop-term
invariant-loop-term l = record {
  least : Each (λ t. l.from ≤ get_or l.numbers t.0.position 18446744073709551615 → l.least ≤ get_or l.numbers t.0.position 18446744073709551615)
      (take l.term-index l.term-items);
  from : l.from ≤ l.least;
}
