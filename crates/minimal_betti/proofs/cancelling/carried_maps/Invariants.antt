use Rattle.std.specs.Prelude.{drop}
use Rattle.std.proofs.Common.{length, reverse, ◌≤◌}
use Rattle.minimal_betti.specs.Carried.{AreCarried}
use Rattle.minimal_betti.proofs.cancelling.carried_maps.Given as goal

abbrev pub invariant-loop-k : goal.invariant-loop-k
invariant-loop-k l = record {
  bound : l.k ≤ length l.maps;
  carried : AreCarried l.ring (drop l.k l.maps) (reverse l.carried.items);
}

abbrev pub decreases-loop-k : goal.decreases-loop-k
decreases-loop-k l = l.k
