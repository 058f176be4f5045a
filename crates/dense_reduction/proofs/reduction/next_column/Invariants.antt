use Rattle.std.proofs.Common.{get_or, ℕ, ◌<◌, ◌≡◌, ◌≤◌}
use Rattle.dense_reduction.proofs.reduction.next_column.Given as goal

abbrev pub invariant-loop-c : goal.invariant-loop-c
invariant-loop-c l = record {
  zeros : (j : ℕ) → l.fn.from ≤ j → j < l.c → get_or l.numbers j 0 ≡ 0;
}
