use Rattle.std.proofs.Common.{length, reverse}
use Rattle.minimal_betti.specs.Carried.{graded_maps}
use Rattle.minimal_betti.proofs.Pending.{IsPending}
use Rattle.minimal_betti.proofs.complementing.complemented_maps.Given as goal

abbrev pub invariant-loop-popped : goal.invariant-loop-popped
invariant-loop-popped l =
    IsPending l.ring (graded_maps l.ring l.fn.positions.items (reverse l.fn.maps.items)) l.positions.items l.done.items l.current l.passed l.rest.items

abbrev pub decreases-loop-popped : goal.decreases-loop-popped
decreases-loop-popped l = length l.rest.items
