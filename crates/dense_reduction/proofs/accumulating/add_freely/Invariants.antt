use Rattle.std.proofs.Common.{drop, take, ◌*◌}
use Rattle.dense_reduction.proofs.Adding.{AreAddedTo}
use Rattle.dense_reduction.specs.Dense.{AddsMultiple}
use Rattle.dense_reduction.proofs.accumulating.add_freely.Given as goal

abbrev pub invariant-loop-entry : goal.invariant-loop-entry
invariant-loop-entry l = record {
  adds : AddsMultiple l.modulus.value l.factor (take l.entry-index l.entries) l.fn.acc l.acc;
  added : AreAddedTo (l.modulus.value * l.modulus.value) l._limit (drop l.entry-index l.entries) l.acc;
}
