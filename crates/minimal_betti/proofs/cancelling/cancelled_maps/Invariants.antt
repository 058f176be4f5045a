use Rattle.std.proofs.Common.{length, reverse, ◌++◌}
use Rattle.minimal_betti.specs.Carried.{LeadsTo, graded_maps}
use Rattle.minimal_betti.specs.Splitting.{IsCancellationUnderway}
use Rattle.minimal_betti.proofs.cancelling.cancelled_maps.Given as goal

abbrev pub invariant-loop-current : goal.invariant-loop-current
invariant-loop-current l = record {
  underway : IsCancellationUnderway l.ring l.positions.items l.done.items (l.done.items ++ reverse l.rest.items);
  leads : LeadsTo l.ring.modulus.value (graded_maps l.ring l.fn.positions.items (reverse l.fn.maps.items))
      (graded_maps l.ring l.positions.items (l.done.items ++ reverse l.rest.items));
}

abbrev pub decreases-loop-current : goal.decreases-loop-current
decreases-loop-current l = length l.rest.items
