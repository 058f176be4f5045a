use Rattle.std.proofs.Common.{length, ◌≡◌}
use Rattle.minimal_betti.specs.Carried.{LeadsTo, graded_maps}
use Rattle.minimal_betti.specs.Splitting.{IsCancellationUnderway, in_turn}
use Rattle.minimal_betti.proofs.by_steps.cancelled_by_steps.Given as goal

abbrev pub invariant-loop-map : goal.invariant-loop-map
invariant-loop-map l = record {
  underway : IsCancellationUnderway l.ring l.positions.items l.done.items (in_turn l.done.items l.map l.rest.items);
  leads : LeadsTo l.ring.modulus.value (graded_maps l.ring l.fn.positions.items (in_turn l.fn.done.items l.fn.current l.fn.rest.items))
      (graded_maps l.ring l.positions.items (in_turn l.done.items l.map l.rest.items));
  count : length l.rest.items ≡ length l.fn.rest.items;
}

abbrev pub decreases-loop-map : goal.decreases-loop-map
decreases-loop-map l = length l.map.columns
