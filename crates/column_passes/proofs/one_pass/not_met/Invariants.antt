use Rattle.std.proofs.Common.{[], length, ◌-◌, ◌≡◌, ◌≤◌}
use Rattle.formal_sums.specs.FormalSums.{Each}
use Rattle.column_passes.proofs.one_pass.not_met.Given as goal

abbrev pub invariant-loop-alloc : goal.invariant-loop-alloc
invariant-loop-alloc l = record {
  count : length l.met.items ≤ l.count;
  none : Each (λ m. (m.column ≡ []) × (m.since ≡ 0)) l.met.items;
}

abbrev pub decreases-loop-alloc : goal.decreases-loop-alloc
decreases-loop-alloc l = l.count - length l.met.items
