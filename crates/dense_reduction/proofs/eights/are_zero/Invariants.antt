use Rattle.std.proofs.Common.{get_or, ℕ, ◌<◌, ◌≤◌}
use Rattle.dense_reduction.proofs.eights.are_zero.Given as goal

abbrev pub invariant-loop-j : goal.invariant-loop-j
invariant-loop-j l = (k : ℕ) → k < l.j → get_or l.numbers k 0 ≤ l.joined
