use Rattle.std.proofs.Common.{length, ◌-◌, ◌≤◌}
use Rattle.pair_updates.specs.Rows.{EachNotBelow}
use Rattle.pair_updates.proofs.rows.next_below.Given as goal

abbrev pub invariant-loop-i : goal.invariant-loop-i
invariant-loop-i l = record {
  late : l.from ≤ l.i;
  within : l.i ≤ length l.words;
  before : EachNotBelow l.words l.word l.from l.i;
}

abbrev pub decreases-loop-i : goal.decreases-loop-i
decreases-loop-i l = length l.words - l.i
