use Rattle.std.proofs.Common.{drop}
use Rattle.formal_sums.specs.FormalSums.{IsSame}
use Rattle.term_lists.specs.Rings.{variables}
use Rattle.constant_rows.specs.Rows.{AreRowSums, entry_constants, row_constants}
use Rattle.constant_passes.specs.Steps.{cleared_by_constants}
use Rattle.constant_passes.proofs.clearing.clear.Given as goal

abbrev pub invariant-loop-k : goal.invariant-loop-k
invariant-loop-k l = record {
  kept : AreRowSums l.rows.sums.items l.rows.touched.items;
  sum : IsSame l.ring.modulus.value (cleared_by_constants l.ring (drop l.k l.table.steps.items) (row_constants (variables l.ring) 0 l.rows.sums.items))
      (cleared_by_constants l.ring l.table.steps.items (entry_constants (variables l.ring) l.found.entries.items));
}
