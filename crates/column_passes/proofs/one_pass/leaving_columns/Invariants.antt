use Rattle.std.proofs.Common.{drop, length, ◌≤◌}
use Rattle.column_passes.proofs.Places.{AreIndicesTo}
use Rattle.column_passes.proofs.one_pass.leaving_columns.Given as goal

abbrev pub invariant-loop-m : goal.invariant-loop-m
invariant-loop-m l = record {
  bound : l.leaving.count ≤ length l.leaving.places.items;
  indices : AreIndicesTo l.met (drop l.m-index l.met) l.leaving;
}
