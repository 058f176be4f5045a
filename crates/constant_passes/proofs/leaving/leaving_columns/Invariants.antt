use Rattle.std.proofs.Common.{drop, length, ◌≤◌}
use Rattle.constant_passes.proofs.Leavings.{AreIndicesTo}
use Rattle.constant_passes.proofs.leaving.leaving_columns.Given as goal

abbrev pub invariant-loop-choice : goal.invariant-loop-choice
invariant-loop-choice l = record {
  bound : l.leaving.count ≤ length l.leaving.places.items;
  indices : AreIndicesTo l.choices (drop l.choice-index l.choices) l.leaving;
}
