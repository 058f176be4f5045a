use Rattle.std.proofs.Common.{get_or, max, ℕ, ◌<◌, ◌≤◌}
use Rattle.pair_updates.proofs.criteria.divides_common.Given as goal

abbrev pub invariant-loop-v : goal.invariant-loop-v
invariant-loop-v l = (k : ℕ) → k < l.v → get_or l.divisor k 0 ≤ max (get_or l.left k 0) (get_or l.right k 0)
