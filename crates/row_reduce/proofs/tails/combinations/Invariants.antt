use Rattle.std.proofs.Common.{◌≤◌}
use Rattle.row_reduce.proofs.tails.combinations.Given as goal

abbrev pub invariant-loop-row : goal.invariant-loop-row
invariant-loop-row l = l.count ≤ l.row-index
