use Rattle.std.proofs.Common.{length, map, ◌++◌, ◌≡◌}
use Rattle.std.specs.VecDeque.{deque_len}
use Rattle.formal_sums.specs.FormalSums.{Each}
use Rattle.term_lists.specs.Rings.{variables}
use Rattle.vector_division.specs.Progress.{AreWeighed}
use Rattle.resolution_maps.specs.Joining.{AreJoinedTo}
use Rattle.resolution_maps.specs.Resolved.{HavePositions}
use Rattle.resolution_maps.proofs.maps.joined_maps.Given as goal

abbrev pub invariant-loop-columns : goal.invariant-loop-columns
invariant-loop-columns l = record {
  columns : map (λ m. m.columns) l.maps.items ++ l.rest.items ≡ l.fn.columns.items;
  joined : AreJoinedTo l.ring l.positions l.maps.items l.row_degrees.items;
  weighed : Each (AreWeighed (variables l.ring) l.ring.weights) l.rest.items;
  positions : HavePositions (length l.row_degrees.items) l.rest.items;
}

abbrev pub decreases-loop-columns : goal.decreases-loop-columns
decreases-loop-columns l = deque_len l.rest
