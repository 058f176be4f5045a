use Rattle.std.proofs.Common.{◌-◌, ◌≤◌}
use Rattle.pair_queue.specs.Rows.{NoneWithout, flag_of}
use Rattle.pair_queue.proofs.row.next_index.Given as goal

abbrev pub invariant-loop-i : goal.invariant-loop-i
invariant-loop-i l = record {
  late : l.from ≤ l.i;
  within : l.i ≤ l.end;
  before : NoneWithout (flag_of l.mine) (flag_of l.theirs) l.from l.i;
}

abbrev pub decreases-loop-i : goal.decreases-loop-i
decreases-loop-i l = l.end - l.i
