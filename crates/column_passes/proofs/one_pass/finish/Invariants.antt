use Rattle.std.proofs.Common.{List, ℕ, ◌++◌}
use Rattle.std.specs.VecDeque.{deque_len}
use Rattle.formal_sums.specs.FormalSums.{Each}
use Rattle.minimal_laws.specs.Cancellation.{AreSameColumns}
use Rattle.term_lists.specs.Rings.{ring_comparison, variables}
use Rattle.term_lists.specs.Vectors.{AreVectorsOver, sums_of}
use Rattle.column_passes.specs.Passing.{IsMetOver, finished_all}
use Rattle.column_passes.specs.Placing.{ArePlacesAfter}
use Rattle.column_passes.proofs.one_pass.finish.Given as goal

abbrev pub invariant-loop-next : goal.invariant-loop-next
invariant-loop-next l = record {
  same :
      (rows : List ℕ) → ArePlacesAfter rows l.leaving
      → AreSameColumns l.ring.modulus.value (finished_all l.ring l.table.steps.items rows l.fn.met.items)
      (sums_of (variables l.ring) l.columns.items ++ finished_all l.ring l.table.steps.items rows l.rest.items);
  vectors : AreVectorsOver l.ring (ring_comparison l.ring) l.columns.items;
  left : Each (IsMetOver l.ring l.table.steps.items) l.rest.items;
}

abbrev pub decreases-loop-next : goal.decreases-loop-next
decreases-loop-next l = deque_len l.rest
