use Rattle.std.proofs.Common.{drop, length, ◌-◌}
use Rattle.formal_sums.specs.FormalSums.{IsSame}
use Rattle.term_lists.specs.Rings.{ring_comparison, variables}
use Rattle.term_lists.specs.Vectors.{IsVectorOver, sum_of}
use Rattle.column_passes.specs.Passing.{cleared_all}
use Rattle.column_passes.proofs.steps.clear_since.Given as goal

abbrev pub invariant-loop-alloc : goal.invariant-loop-alloc
invariant-loop-alloc l = record {
  vector : IsVectorOver l.ring (ring_comparison l.ring) l.out;
  sum : IsSame l.ring.modulus.value (cleared_all l.ring (drop l.from l.table.steps.items) (sum_of (variables l.ring) l.out))
      (cleared_all l.ring (drop l.fn.since l.table.steps.items) (sum_of (variables l.ring) l.fn.v));
}

abbrev pub decreases-loop-alloc : goal.decreases-loop-alloc
decreases-loop-alloc l = length l.table.steps.items - l.from
