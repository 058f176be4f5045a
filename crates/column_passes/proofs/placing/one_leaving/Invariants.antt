use Rattle.std.proofs.Common.{[], length, ◌≡◌}
use Rattle.column_passes.specs.Placing.{ArePlacesAfter}
use Rattle.column_passes.proofs.placing.one_leaving.Given as goal

abbrev pub invariant-loop : goal.invariant-loop
invariant-loop l = record {
  none : l.leaving.count ≡ 0;
  size : length l.leaving.places.items ≡ l.counter;
  places : ArePlacesAfter [] l.leaving;
}
