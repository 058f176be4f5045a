use Rattle.std.proofs.Common.{length, ◌≤◌}
use Rattle.pair_queue.proofs.skipping.count_before.Given as goal

abbrev pub invariant-loop-count : goal.invariant-loop-count
invariant-loop-count l = l.count ≤ length l.kept

abbrev pub decreases-loop-count : goal.decreases-loop-count
decreases-loop-count l = l.count
