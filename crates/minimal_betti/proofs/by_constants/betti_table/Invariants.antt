use Rattle.std.specs.Prelude.{drop}
use Rattle.std.proofs.Common.{◌≡◌}
use Rattle.minimal_betti.specs.Graded.{graded_of}
use Rattle.minimal_betti.proofs.CountedMaps.{AreCounted}
use Rattle.minimal_betti.proofs.by_constants.betti_table.Given as goal

abbrev pub invariant-loop-k : goal.invariant-loop-k
invariant-loop-k l =
    let C = graded_of l.ring l.resolution in
    record {
      step : l.step ≡ l.k;
      counted : AreCounted l.ring C (drop l.k C.maps) l.last.indices l.step l.former.items l.entries.items;
    }
