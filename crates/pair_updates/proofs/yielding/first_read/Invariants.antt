use Rattle.std.proofs.Common.{length, ◌-◌, ◌≤◌}
use Rattle.pair_updates.proofs.PassedPairs.{YieldsToNone}
use Rattle.pair_updates.proofs.yielding.first_read.Given as goal

abbrev pub invariant-loop-k : goal.invariant-loop-k
invariant-loop-k l = record {
  late : l.from ≤ l.k;
  none : YieldsToNone l.leads l.pair l.members l.from l.k;
}

abbrev pub decreases-loop-k : goal.decreases-loop-k
decreases-loop-k l = length l.above - l.k
